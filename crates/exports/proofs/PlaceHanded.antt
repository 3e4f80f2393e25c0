-- A host's number and place are those of the answer.
use mathlib.Core.Path.{◌≡◌, refl, ap₂, sym, ◌∙◌, subst}
use Prim.Native.Nat.{ℕ}
use Rattle.std.specs.Prelude.{ℤ, pos, Result, Ok, Err}
use Rattle.std.specs.Result.{result_unwrap_or}
use Rattle.geometry.specs.Refusal.{answer_number}
use Rattle.geometry.specs.declared.refusal.Refusal.{Refusal}
use Rattle.logger.specs.declared.Logged.{Logged}
use Rattle.logger.specs.Place.{Placed, place_answer, PlaceContract}

placed-as : (answer : Result ℤ Refusal) → place_answer answer ≡ record { number = answer_number answer; place = result_unwrap_or answer (pos 0) }
placed-as (Ok place) = refl
placed-as (Err r) = refl

pub place-handed : (l : Logged) (answer : Result ℤ Refusal) {number : ℕ} {place : ℤ} → PlaceContract l (place_answer answer)
    → number ≡ answer_number answer → place ≡ result_unwrap_or answer (pos 0) → PlaceContract l (record { number = number; place = place })
place-handed l answer met numbered set =
    subst (PlaceContract l) (placed-as answer ∙ ap₂ (λ (n : ℕ) (z : ℤ). record { number = n; place = z }) (sym numbered) (sym set)) met
