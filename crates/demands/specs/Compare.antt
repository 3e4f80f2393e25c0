-- Demand 3 seen of code, the best pass against the full pass: "it labels all exactly when full fits".
use Rattle.std.specs.Prelude.{◌≡◌, ◌↔◌, Bool, true, false, ℕ, Option as Answer, Some, None}
use Rattle.std.proofs.Math.Option.{none}
use Rattle.geometry.specs.Strip.{Strip, marks_of}
use Rattle.geometry.specs.Placing.{first_placing, best_sum}
use Rattle.geometry.specs.Refusal.{accepted, refusal_number}
use Rattle.geometry.specs.declared.refusal.Refusal.TheVariants.{NoPlacing}
use Rattle.full.specs.Full.{FullLent, full_checks, FullContract}
use Rattle.best.specs.Best.{BestAnswer, BestLent, best_checks, BestContract}
use Rattle.demands.specs.Demands.{BestAndFull}
use Rattle.demands.specs.declared.compare.Comparison.{Comparison}

-- what is handed back: whether both passes accept the strip, whether the full pass fits it, and the best sum; no and 0 where one refuses it
pub record Compared : Type 0 where
  pub comparable : Bool
  pub fits : Bool
  pub sum : ℕ

abbrev pub compared : Answer Comparison → Compared
compared (Some c) = record { comparable = true; fits = c.fits; sum = c.sum }
compared None = record { comparable = false; fits = false; sum = 0 }

-- what is handed back of a strip that both passes accept: `number` is the full pass's, `answer` the best pass's
pub record Agreement (s : Strip) (gap number : ℕ) (entry exit : BestLent) (answer : BestAnswer) (r : Compared) : Type 0 where
  -- "the full pass then finds a fit if it gives 0, and none if it gives 11"
  pub fits-exactly : (r.fits ≡ true) ↔ (number ≡ 0)
  pub none-exactly : (r.fits ≡ false) ↔ (number ≡ refusal_number NoPlacing)
  -- "a strip fits if it has one", a placing
  pub fits-a-placing : (r.fits ≡ true) ↔ (first_placing gap (marks_of s) ≡ none → ⊥)
  -- the sum is the best pass's, which no overlap-free choice exceeds
  pub sum-reported : r.sum ≡ answer.sum
  pub sum_is : r.sum ≡ best_sum gap (marks_of s)
  -- it is the weight of all marks, and the choice has a label for each mark, exactly if the full pass gives 0
  pub both : BestAndFull s gap entry exit answer number

-- The contract: the strip, the gap, the lists lent to the full pass and those lent to the best pass, each at entry and at exit, and what is
-- handed back.
pub record BestAgainstFull (s : Strip) (gap : ℕ) (full_entry full_exit : FullLent) (best_entry best_exit : BestLent) (r : Compared) : Type 0 where
  -- both passes ran on the same strip, at one and the same gap
  pub number : ℕ
  pub full-ran : FullContract s gap full_entry full_exit number
  pub answer : BestAnswer
  pub best-ran : BestContract s gap best_entry best_exit answer
  -- "What it lists and reports, and whether the full pass finds a fit, are taken from calls that pass checks 9 and 10 too"
  pub comparable-exactly : (r.comparable ≡ true) ↔ ((full_checks s gap full_entry ≡ accepted) × (best_checks s gap best_entry ≡ accepted))
  pub where-comparable : r.comparable ≡ true → Agreement s gap number best_entry best_exit answer r
  pub where-not : r.comparable ≡ false → (r.fits ≡ false) × (r.sum ≡ 0)
