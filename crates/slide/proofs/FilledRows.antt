-- The cells of a row are filled in turn, from the row of the next mark. The reach grows by a dot from cell to cell, so the scan of the next
-- mark's cells goes on where the last one stopped.
use mathlib.Core.Path.{◌≡◌, refl, sym, ◌∙◌, ap, ap₂}
use mathlib.Core.Bool.{cond}
use mathlib.Core.Logic.{⊎_elim}
use mathlib.Core.List.{List}
use Prim.Native.Nat.{ℕ, suc, ◌+◌, ◌≤◌, ◌<◌, max}
use native.Mathlib.Omega.{arith}
use lib.ListN.{length, set}
use lib.Seq.{get_or-set_same, get_or-set_other}
use Rattle.geometry.specs.Mark.{Mark}
use Rattle.geometry.proofs.Split.{by-leb, lt-or-ge}
use Rattle.slide.specs.inner.Room.{slid_by, reach_at, furthest, own_side_lem, other_side_lem, room_before}
use Rattle.slide.specs.inner.Table.{cell_in, row_before}
use Rattle.slide.proofs.FurthestSlide.{furthest-within, furthest-same, furthest-resumed}

-- of a mark's cells those up to its label's length are read
module _ (m : Mark) (t : ℕ) (f h : ℕ → ℕ) (short : m.label_length < m.place) (same : (d : ℕ) → d ≤ m.label_length → f d ≡ h d) where
  -- cells that agree so far give the same on the label's own side, and the same cell before it
  pub own_same : own_side_lem m t f ≡ own_side_lem m t h
  own_same =
      by-leb t m.place (λ c. cond c (f (slid_by m t)) 0 ≡ cond c (h (slid_by m t)) 0) (λ l. same (slid_by m t) (omega arith)) (λ _. refl)

  pub room-same : room_before m t f ≡ room_before m t h
  room-same = ap₂ max own_same (ap (other_side_lem m) (furthest-same f h t (suc m.label_length) (λ d l. same d (omega arith))))

-- d cells of the row of m are filled from the cells of the next mark k, and the scan for the next cell may start at this slide
pub record Scanned (g : ℕ) (m k : Mark) (next : ℕ → ℕ) (row : List ℕ) (d slides : ℕ) : Type 0 where
  pub right : (e : ℕ) → e < d → cell_in row e ≡ row_before g m k next e
  pub within : slides ≤ k.label_length + 1
  pub left : furthest next (reach_at g m d) (suc k.label_length) ≡ furthest next (reach_at g m d) slides

-- one more cell, from what the scan found for the label that slid by d
module _
    (g : ℕ)
    (m k : Mark)
    (next : ℕ → ℕ)
    (row : List ℕ)
    (d slides found : ℕ)
    (scanned : Scanned g m k next row d slides)
    (t : ℕ)
    (found-is : found ≡ furthest next t slides)
  where
    -- the scan found nothing beyond its start
    pub found_within : found ≤ k.label_length + 1
    found_within = omega (arith, found-is, furthest-within next t slides, scanned.within)

    -- and what it would have found at the start of the row
    found_all : t ≡ reach_at g m d → found ≡ furthest next (reach_at g m d) (suc k.label_length)
    found_all t-is = found-is ∙ ap (λ u. furthest next u slides) t-is ∙ sym scanned.left

    pub scanned-more : (own other v : ℕ) → t ≡ reach_at g m d → own ≡ own_side_lem k t next → other ≡ other_side_lem k found
        → v ≡ max own other
        → d < length row → Scanned g m k next (set row d v) (d + 1) found
    scanned-more own other v t-is own_is other-is v-is inside =
        let all = found_all t-is in
        let is : v ≡ row_before g m k next d =
        v-is ∙ ap₂ max (own_is ∙ ap (λ u. own_side_lem k u next) t-is) (other-is ∙ ap (other_side_lem k) all) in
        record {
          right = λ e h. ⊎_elim
              (λ before. get_or-set_other row d e v 0 (omega arith) ∙ scanned.right e before)
              (λ here. let at : e ≡ d = omega arith in rw at (get_or-set_same row d v 0 inside ∙ is))
              (lt-or-ge e d);
          within = found_within;
          left = furthest-resumed next (reach_at g m d) (reach_at g m (d + 1)) (suc k.label_length) (omega arith)
              ∙ ap (furthest next (reach_at g m (d + 1))) (sym all);
        }
