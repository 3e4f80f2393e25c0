-- The table is renewed for one mark more, cell by cell in their order.
-- The cells before the bound count mark k, those from it on do not yet. The bound moves past a cell when the cell gets its value; it
-- moves past the cells with a last label of mark k or later as they are, since those count the same marks with and without mark k.
use mathlib.Core.Path.{◌≡◌, refl, sym, ◌∙◌, ap}
use mathlib.Core.Bool.{cond}
use mathlib.Core.List.{List}
use mathlib.Core.Logic.{◌⊎◌, inl, inr, ⊎_elim}
use Prim.Native.Nat.{ℕ, suc, ◌*◌, ◌/◌, ◌≤◌, ◌<◌, max}
use native.Mathlib.Omega.{arith}
use lib.Dec.{ltb}
use lib.ListN.{length, get_or, set, drop, replicate, get_or-append, get_or-replicate, length-replicate, drop_of_length-le}
use lib.Seq.{get_or-set_same, get_or-set_other}
use borrow.Author.Tests.{lt-ltb, le-ltb}
use Rattle.geometry.specs.Strip.{Strip, marks_of}
use Rattle.geometry.specs.Pass.{cleared}
use Rattle.geometry.proofs.Split.{lt-or-ge}
use Rattle.geometry.proofs.Accepted.{length-marks}
use Rattle.best.specs.Best.{work_named}
use Rattle.best.specs.inner.Worth.{worth}
use Rattle.best.specs.inner.Names.{names, names_before, reach_at}
use Rattle.best.specs.inner.Checked.{StripChecked}
use Rattle.best.specs.inner.Table.{cell_of, cell_worth, Partly, Filled}
use Rattle.best.proofs.CellsHoldWorth.{same-worth}

-- two cells are the same or one stands before the other
apart-or-same : (a b : ℕ) → (a < b) ⊎ ((b < a) ⊎ (a ≡ b))
apart-or-same a b = ⊎_elim inl (λ h. ⊎_elim (λ k. inr (inl k)) (λ k. inr (inr (omega arith))) (lt-or-ge b a)) (lt-or-ge a b)

module _ (g : ℕ) (s : Strip) (k : ℕ) where
  -- what a cell counts, where it stands before the bound or behind it
  abbrev counted : ℕ → ℕ → ℕ → ℕ
  counted bound x y = cell_worth g s (cond (ltb (cell_of x y) bound) k (suc k)) x y

  before-bound : (bound x y : ℕ) → cell_of x y < bound → counted bound x y ≡ cell_worth g s k x y
  before-bound bound x y h = rw (lt-ltb (cell_of x y) bound h) refl

  behind-bound : (bound x y : ℕ) → bound ≤ cell_of x y → counted bound x y ≡ cell_worth g s (suc k) x y
  behind-bound bound x y h = rw (le-ltb (cell_of x y) bound h) refl

  module _ (table : List ℕ) where
    -- the bound by another name
    pub at_bound : (b d : ℕ) → b ≡ d → Partly g s k b table → Partly g s k d table
    at_bound b d e partly = rw e at partly

    -- the bound moves past cells with a last label of mark k or later
    move-past : (b d : ℕ) → b ≤ d
        → ((x y : ℕ) → x < names → y < names → b ≤ cell_of x y → cell_of x y < d → suc k ≤ max (x / 2) (y / 2))
        → Partly g s k b table → Partly g s k d table
    move-past b d h late partly = record {
      cell = λ x y hx hy.
          partly.cell x y hx hy
          ∙ ⊎_elim
          (λ before. before-bound b x y before ∙ sym (before-bound d x y (omega arith)))
          (λ behind.
          behind-bound b x y behind
          ∙ ⊎_elim
          (λ passed. same-worth g s k x y (late x y hx hy behind passed) ∙ sym (before-bound d x y passed))
          (λ beyond. sym (behind-bound d x y beyond))
          (lt-or-ge (cell_of x y) d))
          (lt-or-ge (cell_of x y) b);
    }

    -- the rest of a row
    pub skip-rest : (x b : ℕ) → names_before k ≤ b → b ≤ names → Partly g s k (cell_of x b) table → Partly g s k (suc x * names) table
    skip-rest x b h small partly = move-past (cell_of x b) (suc x * names) (omega arith) (λ u v hu hv l m. omega arith) partly

    -- no cell is renewed yet; all are
    pub none-renewed : Filled g s (suc k) table → Partly g s k 0 table
    none-renewed filled = record { cell = λ x y hx hy. filled.cell x y hx hy ∙ sym (behind-bound 0 x y (omega arith)) }

    pub all-renewed : Partly g s k (names_before k * names) table → Filled g s k table
    all-renewed partly = record {
      cell = λ x y hx hy.
          partly.cell x y hx hy
          ∙ ⊎_elim
          (λ before. before-bound (names_before k * names) x y before)
          (λ behind. behind-bound (names_before k * names) x y behind ∙ same-worth g s k x y (omega arith))
          (lt-or-ge (cell_of x y) (names_before k * names));
    }

    -- the cell at the bound gets its value
    module _ (x y v : ℕ) where
      -- its index in the table
      abbrev here : ℕ
      here = cell_of x y

      -- every other cell stays as it is
      stays : (u w : ℕ) → (cell_of u w ≡ here → ⊥) → get_or (set table here v) (cell_of u w) 0 ≡ get_or table (cell_of u w) 0
      stays u w n = get_or-set_other table here (cell_of u w) v 0 n

      pub set-cell : y < names → here < length table → v ≡ cell_worth g s k x y → Partly g s k here table
          → Partly g s k (suc here) (set table here v)
      set-cell small inside e partly = record {
        cell = λ u w hu hw.
            let was = partly.cell u w hu hw in
            ⊎_elim
            (λ before. stays u w (omega arith) ∙ was ∙ before-bound here u w before ∙ sym (before-bound (suc here) u w (omega arith)))
            (⊎_elim
            (λ behind. stays u w (omega arith) ∙ was ∙ behind-bound here u w (omega arith) ∙ sym (behind-bound (suc here) u w behind))
            (λ same.
            let eu : x ≡ u = omega arith in
            let ew : y ≡ w = omega arith in
            ap (λ c. get_or (set table here v) c 0) same ∙ get_or-set_same table here v 0 inside ∙ e
            ∙ rw (eu, ew) refl ∙ sym (before-bound (suc here) u w (omega arith))))
            (apart-or-same (cell_of u w) here);
      }

-- a cleared table counts no marks
pub cleared-table : (g : ℕ) (s : Strip) (table old : List ℕ) → StripChecked s → table ≡ cleared work_named 0 old
    → Filled g s (length s.places) table
unfolding cell_worth worth
cleared-table g s table old h t = record {
  cell = λ x y hx hy.
      let after = max (length s.places) (max (x / 2) (y / 2)) in
      let inside : cell_of x y < length (replicate {A = ℕ} work_named 0) = rw (length-replicate {A = ℕ} work_named 0) (omega arith) in
      ap (λ (l : List ℕ). get_or l (cell_of x y) 0) t
      ∙ get_or-append (replicate work_named 0) (drop work_named old) 0 (cell_of x y) inside
      ∙ get_or-replicate work_named (cell_of x y) 0 0 (omega arith)
      ∙ ap (worth g (reach_at g s x) (reach_at g s y)) (sym (drop_of_length-le (marks_of s) {i = after}
      (omega (arith, length-marks s h.same-lengths h.same-weights))));
}
