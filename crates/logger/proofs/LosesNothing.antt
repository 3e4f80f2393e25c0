-- A product by 8 loses nothing, so both units give one place for one spot.
use mathlib.Core.Path.{◌≡◌, refl, sym, ap, ap₂, ◌∙◌}
use mathlib.Core.Bool.{true, false}
use Prim.Native.Nat.{ℕ}
use lib.Dec.{T}
use lib.Ieee.{Float, binary32, fits}
use Rattle.std.specs.Prelude.{ℤ}
use Rattle.std.specs.Float.{float_is_finite}
use Rattle.std.proofs.lemmas.Bool.{false≢true, false_from_ne_true, true_from_ne_false}
use Rattle.geometry.specs.Mark.{place_in_range_lem}
use Rattle.geometry.specs.Refusal.{accepted, refused, number_of}
use Rattle.geometry.specs.declared.refusal.Refusal.TheVariants.{BadMark, NotFinite}
use Rattle.geometry.proofs.Verdicts.{refusal-positive}
use Rattle.logger.specs.Value.{Dots, Millimetres, times}
use Rattle.logger.specs.Place.{place_of, place_verdict, place_after, Placed, PlaceContract}
use Rattle.logger.specs.Product.{eightfold, Same, LosesNothing}
use Rattle.logger.specs.inner.Dots.{in_range_lem}
use Rattle.logger.proofs.Products.{Eightfold, kept, lost, of-finite, factor-finite, by-bits}
use Rattle.logger.proofs.Places.{in-range-finite, range-found, product-floor, not-finite}
use Rattle.logger.proofs.Contract.{verdict-is}

exact-where-finite : (x : Float) → T (fits binary32 x) → float_is_finite (eightfold x) ≡ true → Same (times 1 (eightfold x)) (times 8 x)
exact-where-finite x held finite = go (of-finite x held (factor-finite x finite))
  where
    go : Eightfold x → Same (times 1 (eightfold x)) (times 8 x)
    go (kept k same) = same
    go (lost s n is same large) = absurd (false≢true (sym (not-finite s) ∙ sym (ap float_is_finite is) ∙ finite))

-- ---- places in range

-- what is not finite is not in range
beyond : (x : Float) → float_is_finite x ≡ false → in_range_lem x ≡ false
beyond x infinite = false_from_ne_true (in_range_lem x) (λ in-range. false≢true (sym infinite ∙ in-range-finite x in-range))

module _ (x : Float) (held : T (fits binary32 x)) where
  too-large : float_is_finite x ≡ true → float_is_finite (eightfold x) ≡ false → place_verdict (Millimetres x) ≡ refused BadMark
  too-large finite infinite = verdict-is (Millimetres x) finite (sym (range-found (Millimetres x) held finite) ∙ beyond (eightfold x) infinite)

  in-range : place_verdict (Millimetres x) ≡ accepted → float_is_finite (eightfold x) ≡ true
  in-range passed =
      true_from_ne_false (float_is_finite (eightfold x))
      (λ infinite. refusal-positive BadMark (ap number_of (sym (too-large given infinite) ∙ passed)))
    where
      given : float_is_finite x ≡ true
      given =
          true_from_ne_false (float_is_finite x)
          (λ infinite. refusal-positive NotFinite (ap number_of (sym (verdict-is (Millimetres x) infinite refl) ∙ passed)))

-- ---- both units

one-verdict : (x : Float) → float_is_finite (eightfold x) ≡ true → place_of (Dots (eightfold x)) ≡ place_of (Millimetres x)
    → place_verdict (Dots (eightfold x)) ≡ place_verdict (Millimetres x)
one-verdict x finite is =
    verdict-is (Dots (eightfold x)) finite (ap place_in_range_lem is)
    ∙ sym (verdict-is (Millimetres x) (factor-finite x finite) refl)

one-place : (x : Float) → T (fits binary32 x) → float_is_finite (eightfold x) ≡ true → (r q : Placed)
    → PlaceContract (Millimetres x) r → PlaceContract (Dots (eightfold x)) q → r ≡ q
one-place x held finite r q as-millimetres as-dots =
    let is = product-floor x held finite in
    let verdict = one-verdict x finite is in
    ap₂ (λ (n : ℕ) (z : ℤ). record { number = n; place = z })
    (as-millimetres.number_is ∙ ap number_of (sym verdict) ∙ sym as-dots.number_is)
    (as-millimetres.place-is ∙ ap₂ place_after (sym verdict) (sym is) ∙ sym as-dots.place-is)

pub loses-nothing : LosesNothing
loses-nothing = record { exact = exact-where-finite; by-bits = λ b wide h. by-bits b h; in-range = in-range; one-place = one-place; too-large = too-large }
