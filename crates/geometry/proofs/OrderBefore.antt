-- The order of the checks on entry before document 02's P5, and what the new order changes. Before, a call tested 7 once, by the marks that
-- it takes, and then 8. Now 7 over 4,000 comes first, then 8, then 7 by the marks that the call takes. A verdict changes exactly where the
-- earlier checks are passed, there are more marks than the call takes but at most 4,000, and one is bad: from 7 to 8.
use mathlib.Core.Path.{◌≡◌, refl, sym, ◌∙◌}
use mathlib.Core.Bool.{Bool, true, false}
use mathlib.Core.List.{List, [], ◌++◌}
use Prim.Native.Nat.{ℕ, ◌≤◌, ◌<◌}
use native.Mathlib.Omega.{arith}
use lib.Dec.{leb}
use lib.ListN.{length}
use borrow.Author.Tests.{le-leb, lt-leb, leb-true, leb-false}
use Rattle.geometry.specs.Strip.{Strip, most_marks}
use Rattle.geometry.specs.Refusal.{Refusal, Check, Verdict, accepted, refused, TooManyMarks, BadMark, after_check, first_failure}
use Rattle.geometry.specs.Entry.{same_lengths_lem, good_marks_lem, lists_checks, count_checks, value_checks, entry_checks, entry}
use Rattle.geometry.specs.Pass.{gap_checks, answer_checks, work_checks, pass_verdict}
use Rattle.geometry.proofs.Verdicts.{then, failure-append, same_then, refusal-stands, both-passed, all-passed, one-passed, pass-one}
use Rattle.geometry.proofs.Accepted.{to-own, to-count, to_values}

-- the checks on entry in the order before
abbrev pub entry_checks_before : List Check → ℕ → Strip → List Check
entry_checks_before own limit s = lists_checks s ++ own ++ count_checks limit s ++ value_checks s

-- the verdict on a strip alone, and on the checks 6 to 10 and 12 of a pass, in that order
abbrev pub entry_before : ℕ → Strip → Verdict
entry_before limit s = first_failure (entry_checks_before [] limit s)

abbrev pub pass_verdict_before : ℕ → Strip → ℕ → ℕ → ℕ → ℕ → Verdict
pass_verdict_before limit s g shortest named lent =
    first_failure (entry_checks_before (gap_checks g) limit s ++ answer_checks (length s.places) shortest ++ work_checks named lent)

-- the strips on which the order decides, for a call that takes at most limit marks
pub record Decides (own : List Check) (limit : ℕ) (s : Strip) : Type 0 where
  pub past-6 : same_lengths_lem s ≡ true
  pub past-own : first_failure own ≡ accepted
  pub over-limit : limit < length s.places
  pub in-most : length s.places ≤ most_marks
  pub one-bad : good_marks_lem s ≡ false

-- the verdict by the earlier checks and the three tests: at most 4,000 marks, all good, and as few as the call takes
abbrev too_many : Bool → Verdict
too_many few = after_check few TooManyMarks accepted

abbrev a_bad_one : Bool → Verdict
a_bad_one good = after_check good BadMark accepted

abbrev judged : Verdict → Bool → Bool → Bool → Verdict
judged earlier taken good few = then (then (then earlier (too_many taken)) (a_bad_one good)) (too_many few)

abbrev judged_before : Verdict → Bool → Bool → Verdict
judged_before earlier good few = then (then earlier (too_many few)) (a_bad_one good)

-- all cases: they differ in one
all-cases : (earlier : Verdict) (taken good few : Bool) → (taken ≡ false → few ≡ false)
    → (earlier ≡ accepted → taken ≡ true → good ≡ false → few ≡ false → ⊥)
    → judged earlier taken good few ≡ judged_before earlier good few
all-cases (refused r) taken good few fewer other = refl
all-cases accepted true true true fewer other = refl
all-cases accepted true true false fewer other = refl
all-cases accepted true false true fewer other = refl
all-cases accepted true false false fewer other = absurd (other refl refl refl refl)
all-cases accepted false good true fewer other = absurd (mathlib.Core.Bool.false≢true (sym (fewer refl)))
all-cases accepted false good false fewer other = refl

module _ (own : List Check) (limit : ℕ) (s : Strip) where
  abbrev count : ℕ
  count = length s.places

  -- both orders in these terms
  now-judged : first_failure (entry_checks own limit s)
      ≡ judged (first_failure (to-own own s)) (leb count most_marks) (good_marks_lem s) (leb count limit)
  unfolding first_failure
  now-judged =
      rw (
        failure-append (to_values own s) (count_checks limit s),
        failure-append (to-count own s) (value_checks s),
        failure-append (to-own own s) (count_checks most_marks s),
      )
      refl

  before-judged : first_failure (entry_checks_before own limit s) ≡ judged_before (first_failure (to-own own s)) (good_marks_lem s) (leb count limit)
  unfolding first_failure
  before-judged = rw (failure-append (to-own own s ++ count_checks limit s) (value_checks s), failure-append (to-own own s) (count_checks limit s)) refl

  -- where the order decides: 7 before, 8 now
  pub decided : Decides own limit s
      → (first_failure (entry_checks_before own limit s) ≡ refused TooManyMarks) × (first_failure (entry_checks own limit s) ≡ refused BadMark)
  decided d =
      let passed = all-passed (lists_checks s) own (pass-one _ d.past-6) d.past-own in (
        before-judged ∙ rw (passed, lt-leb count limit d.over-limit) refl,
        now-judged ∙ rw (passed, le-leb count most_marks d.in-most, d.one-bad) refl,
      )

  -- and everywhere else they agree
  pub undecided : limit ≤ most_marks → (Decides own limit s → ⊥)
      → first_failure (entry_checks own limit s) ≡ first_failure (entry_checks_before own limit s)
  undecided most other =
      now-judged
      ∙ all-cases (first_failure (to-own own s)) (leb count most_marks) (good_marks_lem s) (leb count limit)
      (λ long. let over = leb-false count most_marks long in lt-leb count limit (omega arith))
      (λ passed taken bad many.
      other
      (record {
        past-6 = one-passed _ (both-passed (lists_checks s) own passed).0;
        past-own = (both-passed (lists_checks s) own passed).1;
        over-limit = leb-false count limit many;
        in-most = leb-true count most_marks taken;
        one-bad = bad;
      }))
      ∙ sym before-judged

-- the same of all checks of a pass: a refusal on entry stands, and equal verdicts on entry are followed by equal ones
module _ (limit : ℕ) (s : Strip) (g shortest named lent : ℕ) where
  abbrev answers : List Check
  answers = answer_checks (length s.places) shortest

  behind : (now before : List Check) → first_failure now ≡ first_failure before
      → first_failure (now ++ answers ++ work_checks named lent) ≡ first_failure (before ++ answers ++ work_checks named lent)
  behind now before same = same_then (now ++ answers) (before ++ answers) (work_checks named lent) (same_then now before answers same)

  stands : (checks : List Check) (r : Refusal) → first_failure checks ≡ refused r
      → first_failure (checks ++ answers ++ work_checks named lent) ≡ refused r
  stands checks r e = refusal-stands (checks ++ answers) (work_checks named lent) r (refusal-stands checks answers r e)

  pub pass-decided : Decides (gap_checks g) limit s
      → (pass_verdict_before limit s g shortest named lent ≡ refused TooManyMarks) × (pass_verdict limit s g shortest named lent ≡ refused BadMark)
  unfolding pass_verdict
  pass-decided d =
      let verdicts = decided (gap_checks g) limit s d in
      (stands (entry_checks_before (gap_checks g) limit s) TooManyMarks verdicts.0, stands (entry_checks (gap_checks g) limit s) BadMark verdicts.1)

  pub pass-undecided : limit ≤ most_marks → (Decides (gap_checks g) limit s → ⊥)
      → pass_verdict limit s g shortest named lent ≡ pass_verdict_before limit s g shortest named lent
  unfolding pass_verdict
  pass-undecided most other =
      behind (entry_checks (gap_checks g) limit s) (entry_checks_before (gap_checks g) limit s) (undecided (gap_checks g) limit s most other)

-- A call that takes 4,000 marks has the verdicts that it had.
pub entry-same : (s : Strip) → entry most_marks s ≡ entry_before most_marks s
unfolding entry
entry-same s = undecided [] most_marks s (omega arith) (λ d. omega (arith, d.over-limit, d.in-most))

pub pass_same : (s : Strip) (g shortest named lent : ℕ)
    → pass_verdict most_marks s g shortest named lent ≡ pass_verdict_before most_marks s g shortest named lent
pass_same s g shortest named lent =
    pass-undecided most_marks s g shortest named lent (omega arith) (λ d. omega (arith, d.over-limit, d.in-most))
