-- The table: a cell for each pair of names of last labels, one above and one below. A cell holds what the marks from some index on
-- can still earn beside them.
use Rattle.std.specs.Prelude.{◌≡◌, List, cond, ℕ, suc, ◌+◌, ◌*◌, ◌/◌, ◌≤◌, ◌<◌, max, ltb, length, get_or, drop}
use Rattle.geometry.specs.Strip.{Strip, marks_of}
use Rattle.geometry.specs.Position.{above, below, Position}
use Rattle.best.specs.Best.{work_named}
use Rattle.best.specs.inner.Worth.{worth}
use Rattle.best.specs.inner.Names.{names, last_after, reach_at, Reaches}

abbrev pub cell_of : ℕ → ℕ → ℕ
cell_of x y = x * names + y

-- the cell of the last labels once the mark with index k is at p
abbrev pub cell_after : ℕ → ℕ → ℕ → Position → ℕ
cell_after k x y p = cell_of (last_after above k p x) (last_after below k p y)

-- what the marks from index k on earn beside the last labels x above and y below; the marks up to the later of the two labels lie
-- behind and count no more
unfoldable pub cell_worth : ℕ → Strip → ℕ → ℕ → ℕ → ℕ
cell_worth g s k x y = worth g (reach_at g s x) (reach_at g s y) (drop (max k (max (x / 2) (y / 2))) (marks_of s))

-- the cells below the bound count the marks from index k on, the other cells those from k + 1 on
pub record Partly (g : ℕ) (s : Strip) (k bound : ℕ) (table : List ℕ) : Type 0 where
  pub cell : (x y : ℕ) → x < names → y < names
      → get_or table (cell_of x y) 0 ≡ cell_worth g s (cond (ltb (cell_of x y) bound) k (suc k)) x y

-- every cell counts the marks from index k on
pub record Filled (g : ℕ) (s : Strip) (k : ℕ) (table : List ℕ) : Type 0 where
  pub cell : (x y : ℕ) → x < names → y < names → get_or table (cell_of x y) 0 ≡ cell_worth g s k x y

-- what is asked where the table is renewed for mark k, up to the bound
pub record Renewing (g : ℕ) (s : Strip) (reaches work : List ℕ) (k bound : ℕ) : Type 0 where
  pub reaches_known : Reaches g s reaches
  pub roomy : work_named ≤ length work
  pub in-strip : k < length s.places
  pub partly : Partly g s k bound work

-- and what is given: the table up to another bound, the work area beyond its named part as it was
pub record Renewed (g : ℕ) (s : Strip) (k bound : ℕ) (old work : List ℕ) : Type 0 where
  pub partly : Partly g s k bound work
  pub rest-kept : drop work_named work ≡ drop work_named old
