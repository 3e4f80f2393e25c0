-- The number of dots in 32 bits, and the exact one: where the first is finite both have one place, and where it is not the second is far out
-- of range.
use mathlib.Core.Path.{◌≡◌, refl, sym, ap, ◌∙◌}
use mathlib.Core.Bool.{Bool, true, false}
use Prim.Native.Nat.{ℕ, ◌+◌, ◌*◌, ◌≤◌}
use native.Mathlib.Omega.{arith}
use lib.Dec.{T}
use lib.Ieee.{Float, nan, inf, fin, binary32, up, down, fits}
use lib.Ieee.Fits.{down_pos}
use Rattle.std.specs.Float.{float_is_finite}
use Rattle.std.proofs.lemmas.Bool.{leb-true, ltb-true, lt-leb, le-ltb, false≢true}
use Rattle.geometry.specs.Mark.{place_in_range_lem}
use Rattle.logger.specs.Value.{Logged, Dots, Millimetres, times, given_lem, dots_of, floor_of, IsLargest}
use Rattle.logger.specs.Place.{place_of}
use Rattle.logger.specs.Product.{eightfold}
use Rattle.logger.specs.inner.Dots.{in_dots_lem, InReach, most_size, between_ends, in_range_lem}
use Rattle.logger.proofs.Exacts.{exact, parts-pos}
use Rattle.logger.proofs.Floors.{floor-is, floor-same, range-is}
use Rattle.logger.proofs.Units.{one, one-pos}
use Rattle.logger.proofs.Products.{Eightfold, kept, lost, of-finite, factor-finite}

-- ---- a number in range

pub in-range-finite : (x : Float) → in_range_lem x ≡ true → float_is_finite x ≡ true
unfolding float_is_finite
in-range-finite nan h = h
in-range-finite (inf s) h = h
in-range-finite (fin s m e) h = refl

pub in-range-reach : (x : Float) → in_range_lem x ≡ true → InReach x
unfolding times
in-range-reach nan h = absurd (false≢true h)
in-range-reach (inf s) h = absurd (false≢true h)
in-range-reach (fin false m e) h = omega (arith, ltb-true (1 * (m * up e)) ((most_size + 1) * down e) h)
in-range-reach (fin true m e) h = omega (arith, leb-true (1 * (m * up e)) (most_size * down e) h, down_pos e)

-- ---- its place

range-of : (x : Float) → float_is_finite x ≡ true → in_range_lem x ≡ place_in_range_lem (floor_of (times 1 x))
unfolding float_is_finite
range-of nan h = absurd (false≢true h)
range-of (inf s) h = absurd (false≢true h)
range-of (fin s m e) h = sym (range-is (times 1 (fin s m e)) (parts-pos 1 (fin s m e)))

too-far : (s : Bool) (n : ℕ) → 0x8000 * one ≤ n → between_ends (exact s n one) ≡ false
too-far false n h = le-ltb n ((most_size + 1) * one) (omega (arith, h))
too-far true n h = lt-leb n (most_size * one) (omega (arith, h, one-pos))

infinite-range : (s : Bool) → in_range_lem (inf s) ≡ false
infinite-range s = refl

pub not-finite : (s : Bool) → float_is_finite (inf s) ≡ false
unfolding float_is_finite
not-finite s = refl

module _ (x : Float) (held : T (fits binary32 x)) where
  pub product-floor : float_is_finite (eightfold x) ≡ true → floor_of (times 1 (eightfold x)) ≡ floor_of (times 8 x)
  product-floor finite = go (of-finite x held (factor-finite x finite))
    where
      go : Eightfold x → floor_of (times 1 (eightfold x)) ≡ floor_of (times 8 x)
      go (kept k same) = floor-same (times 1 (eightfold x)) (times 8 x) (parts-pos 1 (eightfold x)) (parts-pos 8 x) same
      go (lost s n is same large) = absurd (false≢true (sym (not-finite s) ∙ sym (ap float_is_finite is) ∙ finite))

  product-range : float_is_finite x ≡ true → in_range_lem (eightfold x) ≡ place_in_range_lem (floor_of (times 8 x))
  product-range finite = go (of-finite x held finite)
    where
      go : Eightfold x → in_range_lem (eightfold x) ≡ place_in_range_lem (floor_of (times 8 x))
      go (kept k same) = range-of (eightfold x) k ∙ ap place_in_range_lem (product-floor k)
      go (lost s n is same large) =
          ap in_range_lem is ∙ infinite-range s
          ∙ sym (ap place_in_range_lem (floor-same (times 8 x) (exact s n one) (parts-pos 8 x) one-pos same)
          ∙ range-is (exact s n one) one-pos ∙ too-far s n large)

-- ---- the same in both units

pub range-found : (l : Logged) → T (fits binary32 (given_lem l)) → float_is_finite (given_lem l) ≡ true
    → in_range_lem (in_dots_lem l) ≡ place_in_range_lem (place_of l)
range-found (Dots x) held finite = range-of x finite
range-found (Millimetres x) held finite = product-range x held finite

pub place-found : (l : Logged) → T (fits binary32 (given_lem l)) → float_is_finite (in_dots_lem l) ≡ true
    → floor_of (times 1 (in_dots_lem l)) ≡ place_of l
place-found (Dots x) held finite = refl
place-found (Millimetres x) held finite = product-floor x held finite

pub given-finite : (l : Logged) → float_is_finite (in_dots_lem l) ≡ true → float_is_finite (given_lem l) ≡ true
given-finite (Dots x) finite = finite
given-finite (Millimetres x) finite = factor-finite x finite

pub place-is-largest : (l : Logged) → IsLargest (place_of l) (dots_of l)
place-is-largest (Dots x) = floor-is (dots_of (Dots x)) (parts-pos 1 x)
place-is-largest (Millimetres x) = floor-is (dots_of (Millimetres x)) (parts-pos 8 x)
