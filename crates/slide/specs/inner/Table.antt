-- The table in the work area: a row of cells for each mark, one for each number of dots by which its label may slide.
use Rattle.std.specs.Prelude.{ℕ, ◌+◌, ◌*◌, ◌≤◌, ◌<◌, ◌≡◌, List, [], ◌∷◌, ℤ, length, get_or, drop}
use Rattle.geometry.specs.Mark.{Mark, most_length}
use Rattle.slide.specs.Slide.{work_named}
use Rattle.slide.specs.inner.Plain.{plain_marks}
use Rattle.slide.specs.inner.Room.{reach_at, room_before, room}

-- the cells of a row: a label slides by 0 to 240 dots
abbrev pub row_cells : ℕ
row_cells = most_length + 1

-- the cells of the row with which a list begins
abbrev pub cell_in : List ℕ → ℕ → ℕ
cell_in row d = get_or row d 0

-- the cells of a list hold these values
pub record CellsAre (cells : List ℕ) (value : ℕ → ℕ) : Type 0 where
  pub each : (d : ℕ) → d < length cells → cell_in cells d ≡ value d

-- the cells of the mark m, from the cells of the next mark
abbrev pub row_before : ℕ → Mark → Mark → (ℕ → ℕ) → ℕ → ℕ
row_before g m next cells d = room_before next (reach_at g m d) cells

-- the first cells are those of the mark m before the marks ms
abbrev pub RowHolds : ℕ → List ℕ → Mark → List Mark → Type 0
RowHolds g cells m ms = (d : ℕ) → d ≤ m.label_length → cell_in cells d ≡ room g (reach_at g m d) ms

-- the rows of all marks, one after the other
abbrev pub TableHolds : ℕ → List ℕ → List Mark → Type 0
TableHolds g cells [] = Unit {0}
TableHolds g cells (m ∷ ms) = RowHolds g cells m ms × TableHolds g (drop row_cells cells) ms

-- the rows of the marks from index k on
abbrev pub RowsFrom : ℕ → List ℕ → ℕ → List Mark → Type 0
RowsFrom g cells k ms = TableHolds g (drop (k * row_cells) cells) (drop k ms)

-- what the row of mark k asks: the rows behind it stand
pub record RowReady (places : List ℤ) (lengths : List ℕ) (g : ℕ) (work : List ℕ) (k : ℕ) : Type 0 where
  pub within : k < length places
  pub work-long : work_named ≤ length work
  pub behind : RowsFrom g work (k + 1) (plain_marks places lengths)

-- these rows are in the work area, and the part beyond the named one is as it was
pub record TableFrom (g : ℕ) (old new : List ℕ) (k : ℕ) (ms : List Mark) : Type 0 where
  pub table : RowsFrom g new k ms
  pub beyond : drop work_named new ≡ drop work_named old
  pub same_length : length new ≡ length old
