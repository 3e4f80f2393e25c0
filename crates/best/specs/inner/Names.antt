-- Names of labels: twice the number of the mark, and one more if the label lies to the right of it. Each side of the line is
-- described by the name of its last label; 0 and 1 name no label.
use Rattle.std.specs.Prelude.{◌≡◌, List, cond, ℕ, ◌+◌, ◌-◌, ◌*◌, ◌/◌, ◌%◌, ◌≤◌, ltb, eqb, length, get_or}
use Rattle.geometry.specs.Dot.{empty_reach}
use Rattle.geometry.specs.Strip.{Strip, most_short}
use Rattle.geometry.specs.Position.{Side, Direction, leftward, rightward, Position}
use Rattle.geometry.specs.Overlap.{right_end}
use Rattle.geometry.specs.inner.At.{mark_at}
use Rattle.geometry.specs.inner.Positions.{lies_on_lem, direction_at}

-- how many names there are for the last label of a side before the mark with index k: two for none, and two for each mark
abbrev pub names_before : ℕ → ℕ
names_before k = 2 * k + 2

-- how many there are in a strip of the most marks
abbrev pub names : ℕ
names = names_before most_short

-- the name of the label of the mark with index k
abbrev pub name_of : ℕ → Direction → ℕ
name_of k leftward = 2 * k + 2
name_of k rightward = 2 * k + 3

abbrev pub direction_of : ℕ → Direction
direction_of name = cond (eqb (name % 2) 0) leftward rightward

-- the last label of a side once the mark with index k is at p
abbrev pub last_after : Side → ℕ → Position → ℕ → ℕ
last_after s k p last = cond (lies_on_lem s p) (name_of k (direction_at p)) last

-- the reach of a side whose last label has this name: the label's right end with the gap
unfoldable pub reach_at : ℕ → Strip → ℕ → ℕ
reach_at g s name = cond (ltb name 2) empty_reach (right_end (mark_at s (name / 2 - 1)) (direction_of name) + g)

-- a list that has the reach of each of these names, at a gap of g dots
pub record Reaches (g : ℕ) (s : Strip) (reaches : List ℕ) : Type 0 where
  pub reach : (name : ℕ) → name / 2 ≤ length s.places → get_or reaches name 0 ≡ reach_at g s name
