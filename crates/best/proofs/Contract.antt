-- The best pass meets its contract.
-- Where the checks on entry are passed the places rise; so the walk's choice is overlap-free and earns the best sum, and the zeros among
-- the position numbers, heaviest first, are its left-out list.
use mathlib.Core.Path.{◌≡◌, sym, ◌∙◌, ap, ap₂}
use mathlib.Core.List.{List, ◌++◌, map}
use Prim.Native.Nat.{ℕ, min}
use lib.ListN.{length, drop, length-map}
use Rattle.geometry.specs.Strip.{Strip, marks_of, most_short}
use Rattle.geometry.specs.Pass.{written}
use Rattle.geometry.specs.Position.{code}
use Rattle.geometry.specs.Refusal.{accepted, number_of}
use Rattle.geometry.proofs.Accepted.{PassAccepted, pass-accepted, accepted-rising, length-marks}
use Rattle.best.specs.Best.{work_named, BestLent, best_checks, BestContract}
use Rattle.best.specs.LeftOut.{by_falling_weight, left_out_lem}
use Rattle.best.specs.inner.Worth.{whole_choice}
use Rattle.best.specs.inner.Checked.{Checked, Labelled}
use Rattle.best.specs.inner.Insertion.{zeros_by_weight}
use Rattle.best.proofs.WorthIsBest.{best-free, best-earns, best-length, worth-best}
use Rattle.best.proofs.Zeros.{zeros-are-left-out}

module _ (s : Strip) (g : ℕ) (entry : BestLent) (passes : accepted ≡ best_checks s g entry) where
  -- the shorter answer list
  abbrev shorter : ℕ
  shorter = min (length entry.positions) (length entry.left_out)

  -- what the checks bring: a strip that is accepted, a narrow gap, answer lists and a work area that are long enough
  pub passed : PassAccepted most_short s g shorter work_named (length entry.work)
  passed = pass-accepted most_short s g shorter work_named (length entry.work) (sym passes)

  -- of it what the marks keep
  pub accepted-checked : Checked g s
  accepted-checked =
      let a = passed.entered in
      record {
        strip-checked = record {
          same-lengths = a.same-lengths;
          same-weights = a.same-weights;
          few = a.few;
          places-good = a.places-good;
          weights-good = a.weights-good;
        };
        gap-narrow = passed.gap-narrow;
      }

  -- the choice of the walk as position numbers, one for each mark
  abbrev codes : List ℕ
  codes = map code (whole_choice g s)

  codes-length : length codes ≡ length s.places
  codes-length =
      let a = passed.entered in
      length-map (whole_choice g s) code ∙ best-length g _ _ (marks_of s) ∙ length-marks s a.same-lengths a.same-weights

  -- accepted: from what labelling leaves in the used part, and from the zeros that were listed, heaviest first
  pub answer-accepted : (exit : BestLent) (used : List ℕ) (sum count : ℕ) → Labelled g s used entry.work exit.work sum
      → exit.positions ≡ used ++ drop (length s.places) entry.positions
      → exit.left_out ≡ written (zeros_by_weight s.weights used) entry.left_out
      → count ≡ length (zeros_by_weight s.weights used)
      → BestContract s g entry exit (record { number = 0; sum = sum; count = count })
  answer-accepted exit used sum count labelled placed listed counted =
      let rising = accepted-rising most_short s passed.entered in
      let out : zeros_by_weight s.weights used ≡ left_out_lem s.weights (whole_choice g s) =
      ap (zeros_by_weight s.weights) labelled.positions-are ∙ ap (by_falling_weight s.weights) (zeros-are-left-out 1 (whole_choice g s)) in
      record {
        number_is = ap number_of passes;
        where-refused = λ no. absurd (no (sym passes));
        where-accepted = λ _.
            record {
              choice = whole_choice g s;
              positions-written = placed ∙ ap₂ (λ (l : List ℕ) (n : ℕ). l ++ drop n entry.positions) labelled.positions-are (sym codes-length);
              overlap-free = best-free g (marks_of s) rising;
              sum-earned = labelled.sum_is ∙ sym (best-earns g _ _ (marks_of s));
              sum-best = labelled.sum_is ∙ worth-best g (marks_of s) rising;
              out_written = listed ∙ ap (λ (l : List ℕ). written l entry.left_out) out;
              out-counted = counted ∙ ap length out;
              work-cleared = labelled.work-cleared;
            };
      }
