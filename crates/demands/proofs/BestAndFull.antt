-- Best and full on one strip. Past its checks the best pass lists an overlap-free choice that earns the best sum, and no overlap-free
-- choice exceeds that; its left-out list has what is proved of such lists. Each weight is at least 1, so the choice has a label for each
-- mark exactly if its sum is the weight of all marks; the best sum is that exactly if there is a placing, and the full pass gives 0
-- exactly if there is one.
use mathlib.Core.Path.{◌≡◌, sym, ◌∙◌, ap}
use mathlib.Core.Bool.{true}
use mathlib.Core.Logic.Iff
use mathlib.Core.Logic.{◌↔◌}
use mathlib.Core.Option.{none}
use Prim.Native.Nat.{ℕ, ◌≤◌, min}
use native.Mathlib.Omega.{arith}
use lib.ListN.{length}
use Rattle.geometry.specs.Lists.{sum_list}
use Rattle.geometry.specs.Strip.{Strip, marks_of, most_short}
use Rattle.geometry.specs.Overlap.{all_labelled}
use Rattle.geometry.specs.Placing.{first_placing, best_sum}
use Rattle.geometry.specs.Refusal.{accepted}
use Rattle.geometry.proofs.Verdicts.{zero-accepted}
use Rattle.geometry.proofs.Accepted.{Accepted, pass-accepted, length-marks}
use Rattle.geometry.proofs.Best.{free-length, best-bounds}
use Rattle.geometry.proofs.Whole.{weights_of, weights-of-marks, heavy-marks, sum-of-all, all-earn, best-whole-iff-placing}
use Rattle.full.specs.Full.{FullLent, full_checks, FullContract}
use Rattle.best.specs.Best.{BestAnswer, work_named, BestLent, best_checks, AcceptedAnswer, BestContract}
use Rattle.best.proofs.LeftOutOnce.{each-left-out-once}
use Rattle.best.proofs.HeaviestFirst.{heaviest-first}
use Rattle.best.proofs.OneList.{no-other-list}
use Rattle.demands.specs.Demands.{BestChosen, BestAndFull}
use Rattle.demands.proofs.FullNumber.{fits-exactly}

-- a call of the best pass that gives 0
module _ (s : Strip) (gap : ℕ) (lent left : BestLent) (answer : BestAnswer) (call : BestContract s gap lent left answer) (zero : answer.number ≡ 0) where
  -- number 0 says that the checks are passed
  pub best-passed : best_checks s gap lent ≡ accepted
  best-passed = zero-accepted (best_checks s gap lent) (sym call.number_is ∙ zero)

  -- so the contract gives its answer
  abbrev listed : AcceptedAnswer s gap lent left answer
  listed = call.where-accepted best-passed

  -- it reports the best sum
  pub reported : answer.sum ≡ best_sum gap (marks_of s)
  reported = listed.sum-best

  -- the strip is accepted
  pub good : Accepted most_short s
  good = (pass-accepted most_short s gap (min (length lent.positions) (length lent.left_out)) work_named (length lent.work) best-passed).entered

  -- the choice has an entry for each weight
  enough-weights : length listed.choice ≤ length s.weights
  enough-weights =
      omega (
        arith,
        free-length gap (marks_of s) listed.choice listed.overlap-free,
        length-marks s good.same-lengths good.same-weights,
        good.same-weights,
      )

  -- what it lists is a choice of the greatest sum, with its left-out marks
  pub best-chosen : BestChosen s gap lent left answer
  best-chosen =
      record {
        choice = listed.choice;
        listed = listed.positions-written;
        overlap-free = listed.overlap-free;
        sum-earned = listed.sum-earned;
        greatest = λ other overlap-free. rw reported (best-bounds gap (marks_of s) other overlap-free);
        out_written = listed.out_written;
        out-counted = listed.out-counted;
        out_once = each-left-out-once s.weights listed.choice enough-weights good.weights-good;
        out-ordered = heaviest-first s.weights listed.choice;
        out-only = λ other. no-other-list s.weights listed.choice other enough-weights good.weights-good;
      }

  -- "The weight of all marks is the sum of the weight list."
  whole : sum_list (weights_of (marks_of s)) ≡ sum_list s.weights
  whole = ap sum_list (weights-of-marks s good.same-lengths good.same-weights)

  -- it is earned exactly by a label for each mark
  all-exactly : (all_labelled listed.choice ≡ true) ↔ (answer.sum ≡ sum_list s.weights)
  all-exactly =
      let one_each = free-length gap (marks_of s) listed.choice listed.overlap-free in (
        λ all. listed.sum-earned ∙ sum-of-all (marks_of s) listed.choice one_each all ∙ whole,
        λ earned.
            all-earn (marks_of s) listed.choice (heavy-marks s good.weights-good) one_each
            (sym listed.sum-earned ∙ earned ∙ sym whole),
      )

  -- and exactly where there is a placing
  placing-exactly : (answer.sum ≡ sum_list s.weights) ↔ (first_placing gap (marks_of s) ≡ none → ⊥)
  placing-exactly =
      let b = best-whole-iff-placing gap s good.same-lengths good.same-weights good.weights-good in
      (λ earned. b.0 (sym reported ∙ earned), λ found. reported ∙ b.1 found)

  -- with a call of the full pass that is past its checks
  module _ (full_entry full_exit : FullLent) (number : ℕ) (full-call : FullContract s gap full_entry full_exit number)
      (passed : full_checks s gap full_entry ≡ accepted) where
    -- the best sum is the weight of all marks exactly if the full pass finds a fit
    whole-exactly : (answer.sum ≡ sum_list s.weights) ↔ (number ≡ 0)
    whole-exactly =
        let f = fits-exactly s gap full_entry full_exit number full-call passed in
        (λ earned. f.1 (placing-exactly.0 earned), λ fits. placing-exactly.1 (f.0 fits))

    -- and the choice has a label for each mark exactly if it does
    pub best-and-full : BestAndFull s gap lent left answer number
    unfolding best-chosen
    best-and-full = record { chosen = best-chosen; whole-exactly = whole-exactly; labels-all-exactly = Iff.trans all-exactly whole-exactly }
