-- The table: for each mark the pairs of quadrants, of it and the next one, from which the marks behind them can be placed.
use Rattle.std.specs.Prelude.{ℕ, ℤ, ◌≡◌, ◌≤◌, ◌<◌, true, List, length, get_or, drop}
use Rattle.geometry.specs.Lists.{any_of}
use Rattle.slope.specs.Track.{points_of_lists}
use Rattle.slope.specs.Square.{every_quadrant}
use Rattle.slope.specs.inner.Sets.{Quadrants, Pairs}
use Rattle.slope.specs.inner.Rest.{room, start}

-- the pairs of the mark with an index and the next one
abbrev pub RowIs : ℕ → List ℤ → List ℤ → ℕ → ℕ → Type 0
RowIs side xs ys k row = Pairs row (room side (drop k (points_of_lists xs ys)))

-- the rows of the marks from an index on
pub record RowsFrom (side : ℕ) (xs ys : List ℤ) (k : ℕ) (table : List ℕ) : Type 0 where
  pub each : (i : ℕ) → k ≤ i → i < length xs → RowIs side xs ys i (get_or table i 0)

-- the rows of all marks, and that of the first
pub record Filled (side : ℕ) (xs ys : List ℤ) (table : List ℕ) (first : ℕ) : Type 0 where
  pub rows : RowsFrom side xs ys 0 table
  pub first_row : RowIs side xs ys 0 first

-- what the walk asks: the table, a set of the quadrants of the first mark from which the others can be placed, which is not empty, and a list
-- that is long enough
pub record WalkReady (side : ℕ) (xs ys : List ℤ) (table : List ℕ) (first : ℕ) (positions : List ℕ) : Type 0 where
  pub rows : RowsFrom side xs ys 0 table
  pub first_is : Quadrants first (start side (points_of_lists xs ys))
  pub some : any_of (start side (points_of_lists xs ys)) every_quadrant ≡ true
  pub long : length xs ≤ length positions
