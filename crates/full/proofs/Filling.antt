-- What holds while the table is filled from the last mark to the first: its rows from the current mark on are right, and the row in hand is
-- the current mark's. One turn stores the row before; where that keeps nothing, the first mark keeps nothing.
use mathlib.Core.Path.{◌≡◌, refl, sym, ◌∙◌, ap, subst}
use mathlib.Core.List.{List}
use Prim.Native.Nat.{ℕ, ◌+◌, ◌*◌, ◌≤◌, ◌<◌}
use native.Mathlib.Omega.{arith}
use lib.IntN.{ℤ, pos}
use lib.ListN.{length, get_or, drop}
use lib.Seq.{sets, length-sets}
use Rattle.geometry.specs.Dot.{dot}
use Rattle.geometry.specs.Strip.{strip, marks_of}
use Rattle.geometry.specs.inner.At.{mark_at}
use Rattle.geometry.specs.inner.Outside.{no_bound}
use Rattle.geometry.proofs.Each.{each_at, each-drop}
use Rattle.full.specs.Full.{work_named}
use Rattle.full.specs.inner.Row.{alike, count_of, row_in}
use Rattle.full.specs.inner.SixteenBits.{Stored, is_unbounded, EndsHeld}
use Rattle.full.specs.inner.OneMark.{four, row_dots, RowHeld, row_before}
use Rattle.full.specs.inner.Table.{AnyWeights, RowsFrom, TableHeld, Checked, Filled}
use Rattle.full.proofs.EndsHeld.{checked-held}
use Rattle.full.proofs.SixteenBits.{row-stored}
use Rattle.full.proofs.Rows.{last_row, row_before_lem, none-kept-first, drop-sets, one-more-row, row_number}

-- the row of the last mark, as signed numbers: no bound, four times
abbrev pub unbounded : List ℤ
unbounded = alike (pos 32767) (pos 32767)

pub unbounded-held : RowHeld unbounded
unbounded-held = let no_bound_held : Stored no_bound = is_unbounded refl in (no_bound_held, (no_bound_held, (no_bound_held, (no_bound_held, tt))))

-- `reaches` are the kept part layouts of the mark with index i
pub record Filling (places : List ℤ) (lengths : List ℕ) (g : ℕ) (entry work reaches : List ℤ) (i : ℕ) : Type 0 where
  pub inside : i < length places
  pub row : AnyWeights places lengths (λ s. row_dots reaches ≡ row_in g s i)
  pub rows : AnyWeights places lengths (RowsFrom g i work)
  pub rest-kept : drop work_named work ≡ drop work_named entry
  pub long : length work ≡ length entry

module _ (places : List ℤ) (lengths : List ℕ) (g : ℕ) (checked : Checked places lengths g) (entry : List ℤ) (roomy : work_named ≤ length entry) where
  -- the row before the mark with index i, from the row in hand
  abbrev pub before : ℕ → ℕ → List ℤ → List ℕ
  before k i next =
      row_before g (dot (get_or places k (pos 0))) (get_or lengths k 0) (dot (get_or places i (pos 0))) (get_or lengths i 0) next

  -- a store of a mark's row leaves what is not named as it was, and the length
  stored-rest : (work work' reaches : List ℤ) (k : ℕ) → k < length places → work' ≡ sets work (4 * k) (four reaches)
      → drop work_named work ≡ drop work_named entry → drop work_named work' ≡ drop work_named entry
  stored-rest work work' reaches k inside stored kept =
      let few = checked.few in
      ap (drop work_named) stored ∙ drop-sets (four reaches) work (4 * k) work_named (omega arith) ∙ kept

  -- the last mark; `work` is the work area after its store
  pub filling-last : (work : List ℤ) (k : ℕ) → k + 1 ≡ length places → work ≡ sets entry (4 * k) unbounded
      → Filling places lengths g entry work unbounded k
  filling-last work k last stored =
      let few = checked.few in
      let row : AnyWeights places lengths (λ s. row_dots unbounded ≡ row_in g s k) =
      λ ws same. sym (last_row g (strip places lengths ws) checked.same-lengths same k last) in
      record {
        inside = omega arith;
        row = row;
        rows = λ ws same.
            rw stored (one-more-row g (strip places lengths ws) entry k unbounded (omega arith) (λ j low high. absurd (omega arith)) (row ws same));
        rest-kept = stored-rest entry work unbounded k (omega arith) stored refl;
        long = ap length stored ∙ length-sets entry (4 * k) unbounded;
      }

  module _ (work next : List ℤ) (i : ℕ) (f : Filling places lengths g entry work next i) (reaches : List ℤ) (k : ℕ)
      (step : k + 1 ≡ i) (kept : row_dots reaches ≡ before k i next) where
    -- what was kept for the mark before is its row
    row-here : AnyWeights places lengths (λ s. row_dots reaches ≡ row_in g s k)
    row-here ws same =
        let inside = f.inside in
        let s = strip places lengths ws in
        let from-next : row_dots reaches ≡ before k (k + 1) next = rw (sym step) at kept in
        from-next ∙ row_before_lem g s checked.same-lengths same k next (omega arith) (rw step (f.row ws same))

    -- one mark more
    pub filling-more : (work' : List ℤ) → work' ≡ sets work (4 * k) (four reaches) → Filling places lengths g entry work' reaches k
    filling-more work' stored =
        let few = checked.few in
        let inside = f.inside in
        let long = f.long in
        record {
          inside = omega arith;
          row = row-here;
          rows = λ ws same.
              rw stored (one-more-row g (strip places lengths ws) work k reaches (omega arith) (rw step (f.rows ws same)) (row-here ws same));
          rest-kept = stored-rest work work' reaches k (omega arith) stored f.rest-kept;
          long = ap length stored ∙ length-sets work (4 * k) (four reaches) ∙ long;
        }

    -- a mark that keeps nothing
    pub filling-stops : count_of (row_dots reaches) ≡ 0 → Filled places lengths g entry work 0
    filling-stops none =
        let inside = f.inside in
        record {
          first_count = λ some ws same.
              sym (none-kept-first g (strip places lengths ws) checked.same-lengths same checked.places-good k (omega arith)
              (ap count_of (sym (row-here ws same)) ∙ none));
          empty-count = λ empty. absurd (omega arith);
          rows = λ some. absurd (some refl);
          held = λ some. absurd (some refl);
          rest-kept = f.rest-kept;
        }

  -- rows that are right hold the table's numbers; they do not depend on weights, so any list as long as the places will do for these
  table-held : (work : List ℤ) → AnyWeights places lengths (RowsFrom g 0 work) → TableHeld work (length places)
  table-held work rows j q few h =
      let s = strip places lengths lengths in
      let behind = each-drop (EndsHeld g) (j + 1) (marks_of s) (checked-held checked lengths) in
      let row = row-stored g (mark_at s j) (drop (j + 1) (marks_of s)) behind in
      let number = row_number work j q (row_in g s j) (rows lengths checked.same-lengths j (omega arith) few) h in
      subst Stored (sym number) (each_at Stored (row_in g s j) (dot (pos 0)) q row h)

  -- the first mark: the table is full
  pub filling-done : (work reaches : List ℤ) (i : ℕ) → Filling places lengths g entry work reaches i → i ≡ 0
      → (count : ℕ) → count ≡ count_of (row_dots reaches) → Filled places lengths g entry work count
  filling-done work reaches i f e count counted =
      let inside = f.inside in
      let rows : AnyWeights places lengths (RowsFrom g 0 work) = λ ws same. rw e at (f.rows ws same) in
      record {
        first_count = λ some ws same. counted ∙ ap count_of (rw e at (f.row ws same));
        empty-count = λ empty. absurd (omega arith);
        rows = λ some. rows;
        held = λ some. table-held work rows;
        rest-kept = f.rest-kept;
      }
