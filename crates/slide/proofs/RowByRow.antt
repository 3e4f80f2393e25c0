-- The table of a strip that passed the checks on entry grows from its last row to its first: each row is filled in front of the rows of
-- the later marks, from the row behind it, and the whole lies in the named part of the work area.
use mathlib.Core.Path.{◌≡◌, refl, ◌∙◌, ap}
use mathlib.Core.List.{List, [], ◌∷◌, ◌++◌}
use Prim.Native.Nat.{ℕ, zero, suc, ◌+◌, ◌-◌, ◌*◌, ◌≤◌, ◌<◌}
use native.Mathlib.Omega.{arith}
use lib.IntN.{ℤ}
use borrow.Rule.Slice.PartMut.{put_mid, post_of, same_len_mid}
use lib.ListN.{length, get_or, take, drop, replicate, length-replicate, length-append, length-drop, get_or-append}
use lib.Seq.{drop-drop, get_or-drop, drop_at}
use Rattle.std.proofs.Common.{length-take-le}
use Rattle.std.proofs.lemmas.List.{get_or-append_right, get_or-replicate}
use Rattle.geometry.specs.Mark.{Mark}
use Rattle.geometry.specs.inner.Outside.{no_bound}
use Rattle.geometry.proofs.Lent.{drop-further}
use Rattle.slide.specs.Slide.{work_named}
use Rattle.slide.specs.inner.Plain.{plain_marks, plain_at, Checked}
use Rattle.slide.specs.inner.Room.{reach_at, room}
use Rattle.slide.specs.inner.Table.{row_cells, cell_in, CellsAre, row_before, TableHolds, RowsFrom, TableFrom}
use Rattle.slide.proofs.FilledRows.{room-same}
use Rattle.slide.proofs.PlainMarks.{label_at, marks-from, marks-end}

-- the rows from an index on are a part of the table
pub rows-from : (g : ℕ) (cells : List ℕ) (ms : List Mark) (i : ℕ) → TableHolds g cells ms → RowsFrom g cells i ms
rows-from g cells ms zero table = table
rows-from g cells [] (suc i) table = tt
rows-from g cells (m ∷ ms) (suc i) table =
    let together : row_cells + i * row_cells ≡ suc i * row_cells = omega arith in
    let next : drop (i * row_cells) (drop row_cells cells) ≡ drop (suc i * row_cells) cells =
    drop-drop (i * row_cells) row_cells cells ∙ ap (λ n. drop n cells) together in
    rw (← next) (rows-from g (drop row_cells cells) ms i table.1)

-- cells that are filled with one value
pub cells-filled : {cells : List ℕ} (n v : ℕ) → cells ≡ replicate n v → CellsAre cells (λ d. v)
cells-filled n v is = rw is (record { each = λ d h. get_or-replicate n d v 0 (omega (arith, length-replicate n v)) })

-- the first d cells from an index on hold these values, and the rows behind them are as they were
pub record FilledTo (old new : List ℕ) (row d : ℕ) (value : ℕ → ℕ) : Type 0 where
  pub cells : (e : ℕ) → e < d → get_or new (row + e) 0 ≡ value e
  pub behind : drop (row + row_cells) new ≡ drop (row + row_cells) old
  pub same_length : length new ≡ length old

-- so they do where they were written into the list up to the row's end, with what is behind it put back
pub cells-written : (old front behind cells : List ℕ) (row n count : ℕ) (value : ℕ → ℕ) → row + row_cells ≤ length old
    → length front ≡ row + row_cells → behind ≡ drop (row + row_cells) old → count ≡ n → length cells ≡ n → n ≤ row_cells
    → CellsAre cells value
    → FilledTo old (put_mid row count front cells ++ behind) row n value
cells-written old front behind cells row n count value inside front-long rest counted many few right =
    rw counted
    (
    let whole = put_mid row n front cells in
    let before : length (take row front) ≡ row = length-take-le row front (omega arith) in
    let inner : length (drop row front) ≡ row_cells = omega (arith, length-drop row front) in
    let long : length whole ≡ row + row_cells =
    same_len_mid row n front cells (omega (arith, length-take-le n (drop row front) (omega arith))) ∙ front-long in
    record {
      cells = λ e h. let back : row + e - row ≡ e = omega arith in
          get_or-append whole behind 0 (row + e) (omega arith)
          ∙ get_or-append_right (take row front) (cells ++ post_of row n front) row (row + e) 0 before (omega arith)
          ∙ rw back (get_or-append cells (post_of row n front) 0 e (omega arith) ∙ right.each e (omega arith));
      behind = drop_at whole behind (row + row_cells) long ∙ rest;
      same_length = length-append whole behind ∙ omega (arith, ap length rest, length-drop (row + row_cells) old);
    })

-- a filled row in front of the table of the rest
row_before_lem : (g : ℕ) (old new : List ℕ) (row : ℕ) (m : Mark) (ms : List Mark) (value : ℕ → ℕ)
    → FilledTo old new row (m.label_length + 1) value
    → ((d : ℕ) → d ≤ m.label_length → value d ≡ room g (reach_at g m d) ms) → TableHolds g (drop (row + row_cells) old) ms
    → TableHolds g (drop row new) (m ∷ ms)
row_before_lem g old new row m ms value filled right table = (
  λ d h. get_or-drop row new d 0 ∙ filled.cells d (omega arith) ∙ right d h,
  rw (drop-drop row_cells row new, filled.behind) table,
)

-- what the row of the last mark holds, and that of any other mark
last-right : (g : ℕ) (m : Mark) (d : ℕ) → no_bound ≡ room g (reach_at g m d) []
unfolding room
last-right g m d = refl

-- a row that is found from the next mark's row is right
row-right : (g : ℕ) (cells : List ℕ) (row : ℕ) (m k : Mark) (ms : List Mark) (d : ℕ) → k.label_length < k.place
    → TableHolds g (drop row cells) (k ∷ ms) → row_before g m k (cell_in (drop row cells)) d ≡ room g (reach_at g m d) (k ∷ ms)
unfolding room
row-right g cells row m k ms d short table =
    room-same k (reach_at g m d) (cell_in (drop row cells)) (λ e. room g (reach_at g k e) ms) short table.0

module _ (places : List ℤ) (lengths : List ℕ) (g : ℕ) (checked : Checked places lengths g) where
  -- the marks of the strip at weight 1
  abbrev marks : List Mark
  marks = plain_marks places lengths

  -- no row yet
  pub table_none : (work : List ℕ) (k : ℕ) → k ≡ length places → TableFrom g work work k marks
  table_none work k at-end = record { table = rw (marks-end places lengths g checked k (omega arith)) tt; beyond = refl; same_length = refl }

  module _ (old new : List ℕ) (k : ℕ) (within : k < length places) where
    -- a filled row and the rows behind it
    with_row : {value : ℕ → ℕ} → FilledTo old new (k * row_cells) (get_or lengths k 0 + 1) value
        → TableHolds g (drop (k * row_cells) new) (plain_at places lengths k ∷ drop (k + 1) marks) → TableFrom g old new k marks
    with_row filled table =
        record {
          table = rw (marks-from places lengths g checked k within) table;
          beyond = drop-further (k * row_cells + row_cells) work_named new old (omega (arith, checked.few)) filled.behind;
          same_length = filled.same_length;
        }

    -- the row of the last mark
    pub table-last : (m : Mark) → m ≡ plain_at places lengths k → k + 1 ≡ length places
        → FilledTo old new (k * row_cells) (m.label_length + 1) (λ d. no_bound) → TableFrom g old new k marks
    table-last m is at-end written =
        let here : Mark = plain_at places lengths k in
        let filled : FilledTo old new (k * row_cells) (here.label_length + 1) (λ d. no_bound) = rw is at written in
        with_row filled
        (rw (marks-end places lengths g checked (k + 1) (omega arith))
        (row_before_lem g old new (k * row_cells) here [] _ filled (λ d h. last-right g here d) tt))

    -- a row before the rows of the later marks, that of the mark m before the mark q
    pub table_before : (m q : Mark) → m ≡ plain_at places lengths k → q ≡ plain_at places lengths (k + 1) → k + 1 < length places
        → RowsFrom g old (k + 1) marks
        → FilledTo old new (k * row_cells) (m.label_length + 1) (row_before g m q (cell_in (drop (k * row_cells + row_cells) old)))
        → TableFrom g old new k marks
    table_before m q m-is q-is more table filled =
        let here : Mark = plain_at places lengths k in
        let next : Mark = plain_at places lengths (k + 1) in
        let next_row : ℕ = k * row_cells + row_cells in
        let together : (k + 1) * row_cells ≡ next_row = omega arith in
        let rest : TableHolds g (drop next_row old) (next ∷ drop (k + 1 + 1) marks) =
        rw (together, marks-from places lengths g checked (k + 1) more) at table in
        let row : FilledTo old new (k * row_cells) (here.label_length + 1) (row_before g here next (cell_in (drop next_row old))) =
        rw (m-is, q-is) at filled in
        with_row row
        (rw (marks-from places lengths g checked (k + 1) more)
        (row_before_lem g old new (k * row_cells) here _ _ row
        (λ d h. row-right g old next_row here next _ d (label_at places lengths g checked (k + 1) more).left rest) rest))
