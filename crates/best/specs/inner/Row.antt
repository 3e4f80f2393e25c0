-- The row of the last label x above, as mark k is counted into the table: what its cells share, and the value of a cell by it.
use Rattle.std.specs.Prelude.{◌≡◌, List, cond, ℕ, ◌+◌, ◌≤◌, ◌<◌, max, leb, length, get_or}
use Rattle.geometry.specs.Strip.{Strip, most_short}
use Rattle.geometry.specs.Position.{below, leftward, rightward, at}
use Rattle.geometry.specs.Overlap.{left_end}
use Rattle.geometry.specs.inner.At.{mark_at}
use Rattle.best.specs.Best.{work_named}
use Rattle.best.specs.declared.row.Row.{Row}
use Rattle.best.specs.inner.Names.{names_before, name_of}
use Rattle.best.specs.inner.Table.{cell_of}
use Rattle.best.specs.inner.Trial.{most_sum, gain_at}

-- what the cells of the row share: for the two offers below it does not matter what the last label below is
pub record RowOf (s : Strip) (reaches work : List ℕ) (k x : ℕ) (row : Row) : Type 0 where
  pub reach-is : row.reach ≡ get_or reaches x 0
  pub left_is : row.left ≡ left_end (mark_at s k) leftward
  pub place_is : row.place ≡ left_end (mark_at s k) rightward
  pub weight_is : row.weight ≡ get_or s.weights k 0
  pub leftward-is : row.leftward ≡ gain_at s work k x 0 (at below leftward)
  pub rightward-is : row.rightward ≡ gain_at s work k x 0 (at below rightward)

-- the greater of two labels' earnings on a side, a label without room earning nothing
abbrev pub offered : ℕ → ℕ → ℕ → ℕ → ℕ → ℕ
offered reach left place to_left to_right = max (cond (leb reach left) to_left 0) (cond (leb reach place) to_right 0)

-- the value of a cell: no label, one above, or one below
abbrev pub cell_from : Row → ℕ → ℕ → ℕ → ℕ → ℕ
cell_from row reach stay above_left above_right =
    max (max stay (offered row.reach row.left row.place (row.weight + above_left) (row.weight + above_right)))
    (offered reach row.left row.place row.leftward row.rightward)

-- the value of the cell of x above and y below, where the table and the list of reaches are at hand
abbrev pub cell_by : Row → List ℕ → List ℕ → ℕ → ℕ → ℕ → ℕ
cell_by row reaches work k x y = cell_from row (get_or reaches y 0) (get_or work (cell_of x y) 0)
    (get_or work (cell_of (name_of k leftward) y) 0) (get_or work (cell_of (name_of k rightward) y) 0)

-- what is asked where the cell is renewed: the cells of a label above hold sums, to which a weight can be added
pub record CellAsked (work : List ℕ) (k x y : ℕ) : Type 0 where
  pub few : k < most_short
  pub above_before : x < names_before k
  pub below-before : y < names_before k
  pub roomy : work_named ≤ length work
  pub small-left : get_or work (cell_of (name_of k leftward) y) 0 ≤ most_sum
  pub small-right : get_or work (cell_of (name_of k rightward) y) 0 ≤ most_sum
