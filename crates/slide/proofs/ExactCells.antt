-- A cell is exact: a reach of the other side is below it iff the rest of the strip can be placed. By the label of the next mark: on the
-- side of the reach it leaves the cell of its slide; on the other side it may slide as far as that mark's cells lie beyond the reach, and
-- since these cells fall as the slide grows, that is a bound of the other side's reach. The larger of the two bounds is the cell.
use mathlib.Core.Path.{◌≡◌, sym, ◌∙◌, ap₂}
use mathlib.Core.Bool.{true, cond, ◌&&◌, ◌||◌}
use mathlib.Core.Logic.{⊎_elim}
use mathlib.Core.List.{List, [], ◌∷◌}
use Prim.Native.Nat.{ℕ, zero, suc, ◌+◌, ◌-◌, ◌≤◌, ◌<◌}
use native.Mathlib.Omega.{arith}
use borrow.Author.Tests.{lt-ltb, le-ltb, ltb-true}
use lib.Dec.{leb, ltb}
use Rattle.geometry.specs.Mark.{Mark}
use Rattle.geometry.specs.inner.Outside.{no_bound}
use Rattle.geometry.specs.inner.Each.{Each}
use Rattle.geometry.proofs.Split.{by-leb, lt-or-ge, same_test, leb-max}
use Rattle.slide.specs.inner.Room.{slid_by, reach_at, reach_past, slideable, furthest, own_side_lem, other_side_lem, room}
use Rattle.slide.proofs.Slideable.{exchanged, smaller-reach}
use Rattle.slide.proofs.FurthestSlide.{furthest-within, furthest-exact}

-- a label, with the gap, lies between the coordinates 0 and no_bound wherever it slides, as that of every accepted mark does
pub record LabelInside (g : ℕ) (m : Mark) : Type 0 where
  pub left : m.label_length < m.place
  pub right : m.place + m.label_length + g < no_bound

abbrev pub Inside : ℕ → List Mark → Type 0
Inside g ms = Each (LabelInside g) ms

-- the cells of m before the marks ms
abbrev pub cells_of : ℕ → Mark → List Mark → ℕ → ℕ
cells_of g m ms d = room g (reach_at g m d) ms

-- the reach after a label, by how far it slid
reach-past : (g : ℕ) (m : Mark) (t : ℕ) → m.label_length < m.place → reach_past g m t ≡ reach_at g m (slid_by m t)
reach-past g m t short = omega arith

-- no bound lies beyond no_bound
other-within : (m : Mark) (k : ℕ) → m.label_length < m.place → k ≤ suc m.label_length → other_side_lem m k ≤ suc m.place
other-within m zero short h = omega arith
other-within m (suc k) short h = omega arith

-- nor does a cell
room_within : (g t : ℕ) (ms : List Mark) → Inside g ms → room g t ms ≤ no_bound
unfolding room
room_within g t [] inside = omega arith
room_within g t (m ∷ ms) inside =
    let cells : ℕ → ℕ = cells_of g m ms in
    let own : own_side_lem m t cells ≤ no_bound =
    by-leb t m.place (λ c. cond c (cells (slid_by m t)) 0 ≤ no_bound) (λ _. room_within g (reach_at g m (slid_by m t)) ms inside.1) (λ _. omega arith) in
    let other : other_side_lem m (furthest cells t (suc m.label_length)) ≤ suc m.place =
    other-within m _ inside.0.left (furthest-within cells t (suc m.label_length)) in
    omega (arith, inside.0.right)

-- what a cell says of each reach
abbrev Exact : ℕ → List Mark → Type 0
Exact g ms = (t o : ℕ) → t < no_bound → o < no_bound → ltb o (room g t ms) ≡ slideable g t o ms

-- cells fall as the reach grows
room_falls : (g t u : ℕ) (ms : List Mark) → Exact g ms → Inside g ms → t ≤ u → u < no_bound → room g u ms ≤ room g t ms
room_falls g t u ms exact inside h small = ⊎_elim rises (λ falls. falls) (lt-or-ge (room g t ms) (room g u ms))
  where
    rises : room g t ms < room g u ms → room g u ms ≤ room g t ms
    rises less =
        let within : room g u ms ≤ no_bound = room_within g u ms inside in
        let o : ℕ = room g t ms in
        let at-u : slideable g u o ms ≡ true = sym (exact u o small (omega arith)) ∙ lt-ltb o (room g u ms) less in
        let at-t : slideable g t o ms ≡ true = smaller-reach g u t o ms h at-u in
        let again : o < room g t ms = ltb-true o (room g t ms) (exact t o (omega arith) (omega arith) ∙ at-t) in
        absurd (omega arith)

-- how far a label may slide on the other side, as a bound of that side's reach
slide-bound : (m : Mark) (o k : ℕ) → ltb (slid_by m o) k ≡ ltb o (other_side_lem m k)
slide-bound m o zero = le-ltb (slid_by m o) 0 (omega arith) ∙ sym (le-ltb o 0 (omega arith))
slide-bound m o (suc k) = same_test (suc (slid_by m o)) (suc k) (suc o) (m.place - m.label_length + suc k) (omega arith) (omega arith)

module _ (g t o : ℕ) (m : Mark) (ms : List Mark) (exact : Exact g ms) (inside : Inside g (m ∷ ms)) where
  -- the label on the side of t
  own-exact : o < no_bound → ltb o (own_side_lem m t (cells_of g m ms)) ≡ (leb t m.place && slideable g (reach_past g m t) o ms)
  own-exact small =
      by-leb t m.place (λ c. ltb o (cond c (cells_of g m ms (slid_by m t)) 0) ≡ (c && slideable g (reach_past g m t) o ms))
      (λ h. rw (reach-past g m t inside.0.left) (exact (reach_at g m (slid_by m t)) o (omega (arith, inside.0)) small))
      (λ h. le-ltb o 0 (omega arith))

  -- the label on the other side
  other-exact : t < no_bound
      → ltb o (other_side_lem m (furthest (cells_of g m ms) t (suc m.label_length))) ≡ (leb o m.place && slideable g t (reach_past g m o) ms)
  other-exact small =
      by-leb o m.place (λ c. ltb o (other_side_lem m slides) ≡ (c && slideable g t (reach_past g m o) ms))
      (λ h. sym (slide-bound m o slides) ∙ sym (below-furthest h) ∙ rw (reach-past g m o inside.0.left) (by-cell h))
      (λ h. le-ltb o (other_side_lem m slides) (omega (arith, other-within m slides inside.0.left (furthest-within cells t (suc m.label_length)))))
    where
      cells : ℕ → ℕ
      cells = cells_of g m ms

      slides : ℕ
      slides = furthest cells t (suc m.label_length)

      falls : (d e : ℕ) → d ≤ e → e < suc m.label_length → cells e ≤ cells d
      falls d e h k = room_falls g (reach_at g m d) (reach_at g m e) ms exact inside.1 (omega arith) (omega (arith, inside.0.right))

      below-furthest : o ≤ m.place → ltb t (cells (slid_by m o)) ≡ ltb (slid_by m o) slides
      below-furthest h = furthest-exact cells t (suc m.label_length) falls (slid_by m o) (omega (arith, inside.0.left))

      by-cell : o ≤ m.place → ltb t (cells (slid_by m o)) ≡ slideable g t (reach_at g m (slid_by m o)) ms
      by-cell h =
          exact (reach_at g m (slid_by m o)) t (omega (arith, inside.0)) small ∙ exchanged g (reach_at g m (slid_by m o)) t ms

-- The theorem: both sides of the next label taken together.
pub room-exact : (g : ℕ) (ms : List Mark) → Inside g ms → Exact g ms
unfolding room slideable
room-exact g [] inside t o ht ho = lt-ltb o no_bound ho
room-exact g (m ∷ ms) inside t o ht ho =
    let exact : Exact g ms = room-exact g ms inside.1 in
    leb-max (suc o) (own_side_lem m t (cells_of g m ms)) (other_side_lem m (furthest (cells_of g m ms) t (suc m.label_length)))
    ∙ ap₂ ◌||◌ (own-exact g t o m ms exact inside ho) (other-exact g t o m ms exact inside ht)

-- the test of the walk: the label can lie on the side of t, and the rest goes with the reach o of the other side
pub own-side-exact : (g t o : ℕ) (m : Mark) (ms : List Mark) → Inside g (m ∷ ms) → o < no_bound
    → ltb o (own_side_lem m t (cells_of g m ms)) ≡ (leb t m.place && slideable g (reach_past g m t) o ms)
own-side-exact g t o m ms inside small = own-exact g t o m ms (room-exact g ms inside.1) inside small
