-- `place` meets its contract: what the two checks decide, and the place past both.
use mathlib.Core.Path.{◌≡◌, refl, sym, ap, ap₂, ◌∙◌, subst}
use mathlib.Core.Bool.{Bool, true, false}
use lib.Dec.{T}
use lib.Ieee.{Float, binary32, fits}
use Rattle.std.specs.Bool.{passes}
use Rattle.std.specs.Prelude.{ℤ, Result, Ok, Err, IsErrAnd}
use Rattle.std.specs.Float.{float_is_finite}
use Rattle.geometry.specs.Mark.{place_in_range_lem}
use Rattle.geometry.specs.Refusal.{accepted, refused, refusal_number, number_of, first_failure, after_check}
use Rattle.geometry.specs.declared.refusal.Refusal.{Refusal}
use Rattle.geometry.specs.declared.refusal.Refusal.TheVariants.{BadMark, NotFinite}
use Rattle.geometry.proofs.Verdicts.{refusal-positive}
use Rattle.logger.specs.Value.{Logged, given_lem, times, floor_of}
use Rattle.logger.specs.Place.{place_of, place_verdict, place_answer, PlaceContract}
use Rattle.logger.specs.inner.Dots.{in_dots_lem, in_range_lem}
use Rattle.logger.proofs.Places.{in-range-finite, range-found, place-found, given-finite, place-is-largest}

-- the two checks one after the other
pub verdict-is : (l : Logged) {finite in-range : Bool} → float_is_finite (given_lem l) ≡ finite → place_in_range_lem (place_of l) ≡ in-range
    → place_verdict l ≡ after_check finite NotFinite (after_check in-range BadMark accepted)
unfolding place_verdict first_failure
verdict-is l = ap₂ (λ (t u : Bool). after_check t NotFinite (after_check u BadMark accepted))

module _ (l : Logged) where
  -- a refusal, and the place
  pub not-placed : (answer : Result ℤ Refusal) (r : Refusal) → IsErrAnd answer (λ e. e ≡ r) → place_verdict l ≡ refused r
      → PlaceContract l (place_answer answer)
  not-placed (Ok place) r is decides = absurd is
  not-placed (Err q) r is decides =
      record {
        number_is = ap refusal_number is ∙ sym (ap number_of decides);
        place-is = rw decides refl;
        largest = λ passed. absurd (refusal-positive r (ap number_of (sym decides ∙ passed)));
      }

  placed : {place : ℤ} → place ≡ place_of l → place_verdict l ≡ accepted → PlaceContract l (place_answer (Ok place))
  placed is decides = record { number_is = rw decides refl; place-is = rw decides is; largest = λ _. rw is (place-is-largest l) }

  -- from what the functions of the code gave
  module _ {given dots : Float} {ranged : Bool} (given-is : given ≡ given_lem l) (fits-given : fits binary32 given ≡ true)
      (dots-is : dots ≡ in_dots_lem l) (ranged-is : ranged ≡ in_range_lem dots) where
    held : T (fits binary32 (given_lem l))
    held = subst (λ (x : Float). T (fits binary32 x)) given-is (passes _ fits-given)

    in-dots : ranged ≡ in_range_lem (in_dots_lem l)
    in-dots = ranged-is ∙ ap in_range_lem dots-is

    module _ (in-range : ranged ≡ true) where
      finite : float_is_finite (in_dots_lem l) ≡ true
      finite = in-range-finite (in_dots_lem l) (sym in-dots ∙ in-range)

      pub placed-in-range : {place : ℤ} → place ≡ floor_of (times 1 dots) → PlaceContract l (place_answer (Ok place))
      placed-in-range is =
          placed (is ∙ ap (λ (x : Float). floor_of (times 1 x)) dots-is ∙ place-found l held finite)
          (verdict-is l (given-finite l finite) (sym (range-found l held (given-finite l finite)) ∙ sym in-dots ∙ in-range))

    -- the first check, as the code makes it
    pub first-failed : {t : Bool} {r : Refusal} → refused r ≡ after_check t NotFinite accepted → t ≡ float_is_finite given
        → place_verdict l ≡ refused r
    first-failed {t = true} {r} failed is = absurd (refusal-positive r (ap number_of failed))
    first-failed {t = false} failed is = verdict-is l (ap float_is_finite (sym given-is) ∙ sym is) refl ∙ sym failed

    pub out-of-range : {t : Bool} → ranged ≡ false → accepted ≡ after_check t NotFinite accepted → t ≡ float_is_finite given
        → PlaceContract l (place_answer (Err BadMark))
    out-of-range {t = true} beyond passed is =
        let finite-given : float_is_finite (given_lem l) ≡ true = ap float_is_finite (sym given-is) ∙ sym is in
        not-placed (Err BadMark) BadMark refl (verdict-is l finite-given (sym (range-found l held finite-given) ∙ sym in-dots ∙ beyond))
    out-of-range {t = false} beyond passed is = absurd (refusal-positive NotFinite (ap number_of (sym passed)))
