-- What the call settles: a number and a place.
use Rattle.std.specs.Prelude.{ℕ, ◌≡◌, List, [], ◌∷◌, ℤ, pos, Result, Ok, Err}
use Rattle.std.specs.Float.{float_is_finite}
use Rattle.geometry.specs.Mark.{place_in_range_lem}
use Rattle.geometry.specs.Refusal.{Check, Verdict, accepted, refused, refusal_number, number_of, first_failure}
use Rattle.geometry.specs.declared.refusal.Refusal.{Refusal}
use Rattle.geometry.specs.declared.refusal.Refusal.TheVariants.{BadMark, NotFinite}
use Rattle.logger.specs.Value.{Logged, given_lem, dots_of, floor_of, IsLargest}

-- "The mark's place"
abbrev pub place_of : Logged → ℤ
place_of l = floor_of (dots_of l)

-- "Errors: 15, a value not finite, tested before the range; a place out of range is 8": what is stored is tested, and not its product
abbrev pub place_checks : Logged → List Check
place_checks l =
    record { passes = float_is_finite (given_lem l); otherwise = NotFinite }
    ∷ record { passes = place_in_range_lem (place_of l); otherwise = BadMark }
    ∷ []

unfoldable pub place_verdict : Logged → Verdict
place_verdict l = first_failure (place_checks l)

-- "both give place 0"
abbrev pub place_after : Verdict → ℤ → ℤ
place_after accepted place = place
place_after (refused r) place = pos 0

-- what the call gives: a number and a place
pub record Placed : Type 0 where
  pub number : ℕ
  pub place : ℤ

abbrev pub place_answer : Result ℤ Refusal → Placed
place_answer (Ok place) = record { number = 0; place = place }
place_answer (Err r) = record { number = refusal_number r; place = pos 0 }

-- the place by its definition, and in document 02's words
pub record PlaceContract (l : Logged) (r : Placed) : Type 0 where
  pub number_is : r.number ≡ number_of (place_verdict l)
  pub place-is : r.place ≡ place_after (place_verdict l) (place_of l)
  pub largest : place_verdict l ≡ accepted → IsLargest r.place (dots_of l)
