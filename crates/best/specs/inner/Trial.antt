-- A mark is tried at a position, beside the last labels x above and y below: whether it has room, and what it earns with the marks
-- after it by the table.
use Rattle.std.specs.Prelude.{List, Bool, ◌&&◌, ℕ, ◌+◌, ◌*◌, ◌/◌, ◌≤◌, ◌<◌, eqb, length, get_or}
use Rattle.geometry.specs.Lists.{first_of}
use Rattle.geometry.specs.Mark.{most_weight}
use Rattle.geometry.specs.Strip.{Strip, most_short}
use Rattle.geometry.specs.Position.{Position, ranked}
use Rattle.geometry.specs.inner.At.{mark_at}
use Rattle.geometry.specs.inner.Machine.{room_for}
use Rattle.best.specs.Best.{work_named}
use Rattle.best.specs.inner.Worth.{earned_by, or_unlabelled}
use Rattle.best.specs.inner.Names.{reach_at}
use Rattle.best.specs.inner.Table.{cell_after}

-- no short strip earns more
abbrev pub most_sum : ℕ
most_sum = most_short * most_weight

-- the cells that mark k leads to hold sums, to which a weight can be added
abbrev pub SmallCells : List ℕ → ℕ → ℕ → ℕ → Type 0
SmallCells work k x y = (p : Position) → get_or work (cell_after k x y p) 0 ≤ most_sum

-- a mark of the strip, and last labels of marks before it
pub record BeforeMark (s : Strip) (k x y : ℕ) : Type 0 where
  pub in-strip : k < length s.places
  pub above_before : x / 2 ≤ k
  pub below-before : y / 2 ≤ k

-- what trying the mark by the table asks
pub record TrialAsked (s : Strip) (work : List ℕ) (k x y : ℕ) : Type 0 where
  pub before : BeforeMark s k x y
  pub roomy : work_named ≤ length work
  pub small : SmallCells work k x y

-- room for mark k at p beside the last labels, and what it then earns with the marks after it, by the table
abbrev pub room_at : ℕ → Strip → ℕ → ℕ → ℕ → Position → Bool
room_at g s k x y p = room_for (reach_at g s x) (reach_at g s y) (mark_at s k) p

abbrev pub gain_at : Strip → List ℕ → ℕ → ℕ → ℕ → Position → ℕ
gain_at s work k x y p = earned_by (get_or s.weights k 0) p + get_or work (cell_after k x y p) 0

-- it has room and earns exactly target
abbrev pub attains_at : ℕ → Strip → List ℕ → ℕ → ℕ → ℕ → ℕ → Position → Bool
attains_at g s work k x y target p = room_at g s k x y p && eqb (gain_at s work k x y p) target

-- the first of 2, 3, 1, 4 that does, none if there is no such position
abbrev pub picked_at : ℕ → Strip → List ℕ → ℕ → ℕ → ℕ → ℕ → Position
picked_at g s work k x y target = or_unlabelled (first_of (attains_at g s work k x y target) ranked)
