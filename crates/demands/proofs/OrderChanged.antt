-- Document 02, P5: "Both rules apply to such a strip, so their order changes: over 4,000 marks is 7, then a bad mark is 8, then too many for
-- the pass is 7. Answers that change: best and slide, past 6 and 12, with 61 to 4,000 marks, at least one of them bad, now 8." This is that
-- sentence, for the checks of each call beside the same checks in the order before (geometry's OrderBefore). Everything that a call's
-- contract says follows from the verdict of its checks: where that is as before, so is the answer; and where it is another refusal, the
-- number is all that changes, since every refusal by these checks leaves lent memory as it was, with sum and count 0.
use mathlib.Core.Path.{◌≡◌, refl}
use mathlib.Core.Bool.{true, false}
use Prim.Native.Nat.{ℕ, min, ◌≤◌}
use native.Mathlib.Omega.{arith}
use lib.IntN.{pos}
use lib.ListN.{length, replicate}
use borrow.Author.Tests.{leb-true, le-leb}
use Rattle.geometry.specs.Mark.{rising}
use Rattle.geometry.specs.Strip.{Strip, strip, most_marks, most_short}
use Rattle.geometry.specs.Refusal.{Verdict, refused}
use Rattle.geometry.specs.declared.refusal.Refusal.TheVariants.{TooManyMarks, BadMark}
use Rattle.geometry.specs.Entry.{same_lengths_lem, good_marks_lem, entry}
use Rattle.geometry.specs.Pass.{gap_checks, pass_verdict}
use Rattle.geometry.proofs.Verdicts.{one-passed, pass-one}
use Rattle.geometry.proofs.OrderBefore.{entry_before, pass_verdict_before, Decides, pass-decided, pass-undecided, pass_same, entry-same}
use Rattle.full.specs.Full as full
use Rattle.full.specs.Full.{FullLent, full_checks}
use Rattle.slide.specs.Slide as slide
use Rattle.slide.specs.Slide.{SlideLent, slide_checks, SlideContract}
use Rattle.best.specs.Best as best
use Rattle.best.specs.Best.{BestLent, best_checks, BestContract}
use Rattle.best.specs.Best.{BestAnswer}
use Rattle.demands.proofs.Refusals.{slide-refused, best-refused}

-- the checks of the three passes in the order before
abbrev pub full_before : Strip → ℕ → FullLent → Verdict
full_before s g lent = pass_verdict_before most_marks s g (length lent.positions) full.work_named (length lent.work)

abbrev pub slide_before : Strip → ℕ → SlideLent → Verdict
slide_before s g lent = pass_verdict_before most_short s g (min (length lent.sides) (length lent.edges)) slide.work_named (length lent.work)

abbrev pub best_before : Strip → ℕ → BestLent → Verdict
best_before s g lent = pass_verdict_before most_short s g (min (length lent.positions) (length lent.left_out)) best.work_named (length lent.work)

-- "past 6 and 12, with 61 to 4,000 marks, at least one of them bad"
pub record LongAndBad (s : Strip) (g : ℕ) : Type 0 where
  pub past-6 : same_lengths_lem s ≡ true
  pub past-12 : g ≤ 8
  pub from-61 : 61 ≤ length s.places
  pub to-4000 : length s.places ≤ 4000
  pub one-bad : good_marks_lem s ≡ false

-- for one call of slide or best: 7 before and 8 now for these, and no change for any other
pub record ChangesThese (s : Strip) (g : ℕ) (before now : Verdict) : Type 0 where
  pub these : LongAndBad s g → (before ≡ refused TooManyMarks) × (now ≡ refused BadMark)
  pub no-others : (LongAndBad s g → ⊥) → now ≡ before

pub record OrderChanged : Type 0 where
  -- full and the writer
  pub full-as-before : (s : Strip) (g : ℕ) (lent : FullLent) → full_checks s g lent ≡ full_before s g lent
  pub writer-as-before : (s : Strip) → entry most_marks s ≡ entry_before most_marks s
  -- slide and best
  pub slide-changes : (s : Strip) (g : ℕ) (lent : SlideLent) → ChangesThese s g (slide_before s g lent) (slide_checks s g lent)
  pub best-changes : (s : Strip) (g : ℕ) (lent : BestLent) → ChangesThese s g (best_before s g lent) (best_checks s g lent)
  -- and what they answer to such a strip
  pub slide-answers : (s : Strip) (g : ℕ) (lent left : SlideLent) (number : ℕ) → SlideContract s g lent left number → LongAndBad s g
      → (number ≡ 8) × (left ≡ lent)
  pub best-answers : (s : Strip) (g : ℕ) (lent left : BestLent) (answer : BestAnswer) → BestContract s g lent left answer → LongAndBad s g
      → (answer.number ≡ 8) × (answer.sum ≡ 0) × (answer.count ≡ 0) × (left ≡ lent)

-- these strips are those on which the order decides for a call that takes 60 marks
module _ (s : Strip) (g : ℕ) where
  decides : LongAndBad s g → Decides (gap_checks g) most_short s
  decides d =
      record {
        past-6 = d.past-6;
        past-own = pass-one _ (le-leb g 8 d.past-12);
        over-limit = d.from-61;
        in-most = d.to-4000;
        one-bad = d.one-bad;
      }

  long-and-bad : Decides (gap_checks g) most_short s → LongAndBad s g
  long-and-bad d =
      record {
        past-6 = d.past-6;
        past-12 = leb-true g 8 (one-passed _ d.past-own);
        from-61 = d.over-limit;
        to-4000 = d.in-most;
        one-bad = d.one-bad;
      }

  changes : (shortest named lent : ℕ)
      → ChangesThese s g (pass_verdict_before most_short s g shortest named lent) (pass_verdict most_short s g shortest named lent)
  changes shortest named lent =
      record {
        these = λ h. pass-decided most_short s g shortest named lent (decides h);
        no-others = λ h. pass-undecided most_short s g shortest named lent (omega arith) (λ d. h (long-and-bad d));
      }

pub order-changed : OrderChanged
order-changed =
    record {
      full-as-before = λ s g lent. pass_same s g _ _ _;
      writer-as-before = entry-same;
      slide-changes = λ s g lent. changes s g _ _ _;
      best-changes = λ s g lent. changes s g _ _ _;
      slide-answers = λ s g lent left number call h. slide-refused s g BadMark lent left number call ((changes s g _ _ _).these h).1;
      best-answers = λ s g lent left answer call h. best-refused s g BadMark lent left answer call ((changes s g _ _ _).these h).1;
    }

-- There are such strips: 61 marks with labels of no length.
pub there-are-such : LongAndBad (strip (replicate 61 (pos 0)) (replicate 61 0) (replicate 61 1)) 0
unfolding rising
there-are-such = record { past-6 = refl; past-12 = omega arith; from-61 = omega arith; to-4000 = omega arith; one-bad = refl }
