-- The best pass against the full pass meets its contract, by what the two passes answer. They are comparable where both are past their
-- checks: the best pass then gives 0, the full pass 0 or 11, and nothing else gives these numbers. What is said of a comparable strip is
-- what holds of both passes, and `fits` goes by the full pass's number.
use mathlib.Core.Path.{◌≡◌, refl, ◌∙◌, ap}
use mathlib.Core.Bool.{Bool, true, false}
use mathlib.Core.Logic.Iff
use mathlib.Core.Logic.{◌↔◌, ⊎_elim}
use Prim.Native.Nat.{ℕ}
use native.Mathlib.Omega.{arith}
use Rattle.geometry.specs.Strip.{Strip}
use Rattle.geometry.specs.Refusal.{accepted, refusal_number, number_of}
use Rattle.geometry.specs.declared.refusal.Refusal.TheVariants.{NoPlacing}
use Rattle.geometry.proofs.Split.{clash}
use Rattle.full.specs.Full.{FullLent, full_checks, FullContract}
use Rattle.best.specs.Best.{BestAnswer, BestLent, best_checks, BestContract}
use Rattle.demands.specs.Compare.{BestAgainstFull}
use Rattle.demands.proofs.FullNumber.{fits-at-0, none-at-11, answers, fits-exactly}
use Rattle.demands.proofs.BestAndFull.{best-passed, best-and-full, reported}

-- both calls on one strip, at one gap
pub record BothRan (s : Strip) (gap : ℕ) (full_entry full_exit : FullLent) (number : ℕ) (best_entry best_exit : BestLent)
    (answer : BestAnswer) : Type 0 where
  pub full-ran : FullContract s gap full_entry full_exit number
  pub best-ran : BestContract s gap best_entry best_exit answer

module _ {s : Strip} {gap : ℕ} {full_entry full_exit : FullLent} {number : ℕ} {best_entry best_exit : BestLent} {answer : BestAnswer}
    (ran : BothRan s gap full_entry full_exit number best_entry best_exit answer) where
  -- one of them is refused by its checks
  not-comparable : (full_checks s gap full_entry ≡ accepted → best_checks s gap best_entry ≡ accepted → ⊥)
      → BestAgainstFull s gap full_entry full_exit best_entry best_exit (record { comparable = false; fits = false; sum = 0 })
  not-comparable refused =
      record {
        number = number;
        full-ran = ran.full-ran;
        answer = answer;
        best-ran = ran.best-ran;
        comparable-exactly = (λ no. clash no refl, λ passed. absurd (refused passed.0 passed.1));
        where-comparable = λ no. clash no refl;
        where-not = λ _. (refl, refl);
      }

  -- the best pass refuses, or the full pass does
  pub best-refuses : (answer.number ≡ 0 → ⊥)
      → BestAgainstFull s gap full_entry full_exit best_entry best_exit (record { comparable = false; fits = false; sum = 0 })
  best-refuses nonzero = not-comparable (λ _ passed. nonzero (ran.best-ran.number_is ∙ ap number_of passed))

  pub full_refuses : (number ≡ 0 → ⊥) → (number ≡ refusal_number NoPlacing → ⊥)
      → BestAgainstFull s gap full_entry full_exit best_entry best_exit (record { comparable = false; fits = false; sum = 0 })
  full_refuses nonzero not-eleven = not-comparable (λ passed _. ⊎_elim nonzero not-eleven (answers s gap full_entry full_exit number ran.full-ran passed))

  -- both are past their checks
  module _ (zero : answer.number ≡ 0) where
    -- what is answered of a comparable strip, whichever number the full pass gives
    comparable : (fits : Bool) → full_checks s gap full_entry ≡ accepted → (fits ≡ true) ↔ (number ≡ 0)
        → (fits ≡ false) ↔ (number ≡ refusal_number NoPlacing)
        → BestAgainstFull s gap full_entry full_exit best_entry best_exit (record { comparable = true; fits = fits; sum = answer.sum })
    comparable fits passed by-0 by-11 =
        record {
          number = number;
          full-ran = ran.full-ran;
          answer = answer;
          best-ran = ran.best-ran;
          comparable-exactly = (λ _. (passed, best-passed s gap best_entry best_exit answer ran.best-ran zero), λ _. refl);
          where-comparable = λ _.
              record {
                fits-exactly = by-0;
                none-exactly = by-11;
                fits-a-placing = Iff.trans by-0 (fits-exactly s gap full_entry full_exit number ran.full-ran passed);
                sum-reported = refl;
                sum_is = reported s gap best_entry best_exit answer ran.best-ran zero;
                both = best-and-full s gap best_entry best_exit answer ran.best-ran zero full_entry full_exit number ran.full-ran passed;
              };
          where-not = λ no. clash refl no;
        }

    -- the full pass finds a fit, or none
    pub full-fits : number ≡ 0
        → BestAgainstFull s gap full_entry full_exit best_entry best_exit (record { comparable = true; fits = true; sum = answer.sum })
    full-fits fitting =
        comparable true (fits-at-0 s gap full_entry full_exit number ran.full-ran fitting).passed (λ _. fitting, λ _. refl)
        (λ no. clash refl no, λ eleven. absurd (omega arith))

    pub full-finds-none : number ≡ refusal_number NoPlacing
        → BestAgainstFull s gap full_entry full_exit best_entry best_exit (record { comparable = true; fits = false; sum = answer.sum })
    full-finds-none eleven =
        comparable false (none-at-11 s gap full_entry full_exit number ran.full-ran eleven).0 (λ no. clash no refl, λ fitting. absurd (omega arith))
        (λ _. eleven, λ _. refl)
