-- The rest of a strip can be placed beside two reaches exactly if the other reach is within the greatest one that is kept.
-- Each label of the next mark allows a reach o of the other side up to a bound: a label on t's own side, if it fits beside t, what it
-- leaves to the other side; a label on the other side, if t is within what it leaves, its own left end. So o is allowed by one of
-- them exactly if it is within the greatest of these bounds, the candidates. The side of t does not matter, by the mirror.
use mathlib.Core.Path.{◌≡◌, refl, sym, ◌∙◌}
use mathlib.Core.Bool.{Bool, true, false, cond, ◌&&◌, ◌||◌, or_comm, and_comm}
use mathlib.Core.List.{List, [], ◌∷◌}
use Prim.Native.Nat.{ℕ, ◌+◌, ◌≤◌, max}
use native.Mathlib.Omega.{arith}
use lib.Dec.{leb}
use borrow.Author.Tests.{le-leb, lt-leb}
use Rattle.geometry.specs.Dot.{empty_reach}
use Rattle.geometry.specs.Mark.{Mark}
use Rattle.geometry.specs.Position.{leftward, rightward}
use Rattle.geometry.specs.Overlap.{left_end, right_end}
use Rattle.geometry.specs.inner.Outside.{no_reach, no_bound}
use Rattle.geometry.specs.inner.Each.{Each}
use Rattle.geometry.proofs.Split.{leb-max}
use Rattle.full.specs.inner.Rest.{can}
use Rattle.full.specs.inner.Row.{candidates, greatest}
use Rattle.full.specs.inner.SixteenBits.{Carried, is_reach, is_empty, EndsHeld}
use Rattle.full.proofs.SixteenBits.{carried-bits}

-- of four tests in two pairs each pair may be exchanged
swap-sides : (x y z w : Bool) → (x || (y || (z || w))) ≡ (y || (x || (w || z)))
swap-sides true true z w = refl
swap-sides true false z w = refl
swap-sides false true z w = refl
swap-sides false false z w = or_comm z w

-- exchanging above and below changes nothing
pub can-mirror : (g a b : ℕ) (ms : List Mark) → can g a b ms ≡ can g b a ms
unfolding can
can-mirror g a b [] = refl
can-mirror g a b (m ∷ ms) =
    let l = right_end m leftward + g in
    let r = right_end m rightward + g in
    rw (can-mirror g l b ms, can-mirror g a l ms, can-mirror g r b ms, can-mirror g a r ms)
    (swap-sides (leb a (left_end m leftward) && can g b l ms) (leb b (left_end m leftward) && can g l a ms)
    (leb a (left_end m rightward) && can g b r ms) (leb b (left_end m rightward) && can g r a ms))

-- within a bound that stands only if a test is passed
within-allowed : (o x : ℕ) (t : Bool) → empty_reach ≤ o → leb o (cond t x no_reach) ≡ (t && leb o x)
within-allowed o x true h = refl
within-allowed o x false h = lt-leb o no_reach h

-- and how they are grouped does not matter
regroup : (x y z w : Bool) → ((x || z) || (y || w)) ≡ (x || (y || (z || w)))
regroup true y z w = refl
regroup false true true w = refl
regroup false false true w = refl
regroup false true false w = refl
regroup false false false w = refl

-- the tests behind the candidates, in the order 2, 3, 1, 4
pub within-candidates : (o t left right kl kr : ℕ) → empty_reach ≤ o
    → leb o (candidates t left right kl kr)
    ≡ ((leb t left && leb o kl) || ((leb o left && leb t kl) || ((leb t right && leb o kr) || (leb o right && leb t kr))))
within-candidates o t left right kl kr h =
    rw (
      leb-max o (max (cond (leb t left) kl no_reach) (cond (leb t right) kr no_reach)) _,
      leb-max o (cond (leb t left) kl no_reach) _,
      leb-max o (cond (leb t kl) left no_reach) _,
      within-allowed o kl (leb t left) h,
      within-allowed o kr (leb t right) h,
      within-allowed o left (leb t kl) h,
      within-allowed o right (leb t kr) h,
      and_comm (leb t kl) (leb o left),
      and_comm (leb t kr) (leb o right),
    )
    (regroup (leb t left && leb o kl) (leb o left && leb t kl) (leb t right && leb o kr) (leb o right && leb t kr))

-- a reach of the walk is at least that of a side without labels
carried_some : (t : ℕ) → Carried t → empty_reach ≤ t
carried_some t (is_reach h) = omega arith
carried_some t (is_empty e) = omega arith

-- The theorem, by induction on the marks.
pub can-within : (g t o : ℕ) (ms : List Mark) → Carried t → Carried o → Each (EndsHeld g) ms → can g t o ms ≡ leb o (greatest g t ms)
unfolding can greatest
can-within g t o [] ct co h = sym (le-leb o no_bound (carried-bits o co).not_more)
can-within g t o (m ∷ ms) ct co h =
    let l = right_end m leftward + g in
    let r = right_end m rightward + g in
    let cl : Carried l = is_reach (h.0.reach leftward) in
    let cr : Carried r = is_reach (h.0.reach rightward) in
    rw (
      can-within g l o ms cl co h.1,
      can-mirror g t l ms ∙ can-within g l t ms cl ct h.1,
      can-within g r o ms cr co h.1,
      can-mirror g t r ms ∙ can-within g r t ms cr ct h.1,
    )
    (sym (within-candidates o t (left_end m leftward) (left_end m rightward) _ _ (carried_some o co)))
