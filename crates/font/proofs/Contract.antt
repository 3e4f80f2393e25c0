-- The calls meet their contracts. Each makes its checks in the contract's order, but tests 8 in two parts: the count of bytes, and the
-- width where the count fits. A length in range has a count that fits, so the test of the count refuses nothing that 8 does not.
use mathlib.Core.Path.{◌≡◌, refl, sym, ◌∙◌, ap}
use mathlib.Core.Bool.{Bool, true}
use mathlib.Core.List.{List, [], ◌∷◌}
use Prim.Native.Nat.{ℕ, ◌≤◌}
use lib.Dec.{leb}
use lib.ListN.{length}
use borrow.Author.Tests.{leb-true, eqb-true}
use Rattle.std.specs.Prelude.{Result, Ok, Err, IsErrAnd}
use Rattle.std.specs.List.{list_all}
use Rattle.geometry.specs.Lists.{sum_list}
use Rattle.geometry.specs.Mark.{most_length, length_in_range_lem}
use Rattle.geometry.specs.Strip.{most_marks}
use Rattle.geometry.specs.Refusal.{Check, Verdict, accepted, refused, refusal_number, number_of, at_most, after_check, first_failure}
use Rattle.geometry.specs.declared.refusal.Refusal.{Refusal}
use Rattle.geometry.specs.declared.refusal.Refusal.TheVariants.{ListsUnequal, TooManyMarks, ListTooShort}
use Rattle.geometry.proofs.Split.{by_eqb, one-to}
use Rattle.geometry.proofs.Verdicts.{refusal-positive, then, failure-append, first-passed, one-passed, part-first}
use Rattle.font.specs.Text.{text_width, longest_beginning_lem, lengths_of}
use Rattle.font.specs.Calls.{letter_check, length_check, measured_answer, measure_verdict, MeasureContract}
use Rattle.font.specs.Calls.{beginning_answer, beginning_verdict, BeginningContract}
use Rattle.font.specs.Calls.{sum_check, lengths_verdict}
use Rattle.font.specs.inner.Counts.{most_bytes, count_fits_lem, ReadableTexts}
use Rattle.font.proofs.Beginnings.{longest-is}
use Rattle.font.proofs.CutTexts.{counts-of-good}
use Rattle.font.proofs.Widths.{count-of-good, range-of-some}

-- a check and then others, by the verdicts of both
check-then : (c : Check) (cs : List Check) {first rest : Verdict} → first_failure (c ∷ []) ≡ first → first_failure cs ≡ rest
    → first_failure (c ∷ cs) ≡ then first rest
check-then c cs is others = failure-append (c ∷ []) cs ∙ rw (is, others) refl

-- 13 and then 8, whose test is made in two parts
pub in-two-parts : (bytes : List ℕ) (counts lengths : Bool) (cs : List Check) → (lengths ≡ true → counts ≡ true)
    → first_failure (letter_check bytes ∷ length_check counts ∷ length_check lengths ∷ cs)
    ≡ first_failure (letter_check bytes ∷ length_check lengths ∷ cs)
unfolding first_failure
in-two-parts bytes counts lengths cs needs =
    let letters = letter_check bytes in
    ap (after_check letters.passes letters.otherwise) (part-first counts (length_check lengths) cs needs)

module _ (text : List ℕ) where
  -- the checks of `measure` as it makes them, one after the other
  abbrev count_check : Check
  count_check = length_check (count_fits_lem (length text))

  abbrev width_check : Check
  width_check = length_check (length_in_range_lem (text_width text))

  pub measure-in-turn : {letters count width : Verdict} → first_failure (letter_check text ∷ []) ≡ letters
      → first_failure (count_check ∷ []) ≡ count
      → first_failure (width_check ∷ []) ≡ width → measure_verdict text ≡ then letters (then count width)
  unfolding measure_verdict
  measure-in-turn letters count width =
      sym (in-two-parts text (count_fits_lem (length text)) (length_in_range_lem (text_width text)) [] (count-of-good text))
      ∙ check-then (letter_check text) _ letters (check-then count_check _ count width)

  -- the width is asked for behind the first two: that a text of some bytes is not too wide is then the whole of its test
  pub range-is : first_failure (count_check ∷ []) ≡ accepted → leb (text_width text) most_length ≡ length_in_range_lem (text_width text)
  range-is count = sym (range-of-some text (one-to most_bytes (length text) (one-passed count_check count)).0)

  -- a refusal, and the length
  pub not-measured : (answer : Result ℕ Refusal) (r : Refusal) → IsErrAnd answer (λ e. e ≡ r) → measure_verdict text ≡ refused r
      → MeasureContract text (measured_answer answer)
  not-measured (Ok width) r is decides = absurd is
  not-measured (Err q) r is decides = record { number_is = ap refusal_number is ∙ sym (ap number_of decides); length-is = rw decides refl }

  pub measured : {width : ℕ} → width ≡ text_width text → measure_verdict text ≡ accepted → MeasureContract text (measured_answer (Ok width))
  measured is decides = record { number_is = rw decides refl; length-is = rw decides is }

  -- `beginning`: a refusal, and the count
  pub not-begun : (answer : Result ℕ Refusal) (r : Refusal) → IsErrAnd answer (λ e. e ≡ r) → beginning_verdict text ≡ refused r
      → BeginningContract text (beginning_answer answer)
  not-begun (Ok count) r is decides = absurd is
  not-begun (Err q) r is decides =
      record {
        number_is = ap refusal_number is ∙ sym (ap number_of decides);
        count-is = rw decides refl;
        longest = λ passed. absurd (refusal-positive r (ap number_of (sym decides ∙ passed)));
      }

  pub begun : {count : ℕ} → count ≡ longest_beginning_lem text → beginning_verdict text ≡ accepted
      → BeginningContract text (beginning_answer (Ok count))
  begun is decides =
      record { number_is = rw decides refl; count-is = rw decides is; longest = λ _. rw is (longest-is text) }

module _ (texts counts : List ℕ) (room : ℕ) where
  -- the checks of `check_texts` as it makes them
  abbrev counts_check : Check
  counts_check = length_check (list_all count_fits_lem counts)

  abbrev lengths_check : Check
  lengths_check = length_check (list_all length_in_range_lem (lengths_of counts texts))

  abbrev marks_check : Check
  marks_check = at_most (length counts) most_marks TooManyMarks

  abbrev room_check : Check
  room_check = at_most (length counts) room ListTooShort

  -- where 6 is passed, the test of the counts refuses nothing that 8 does not
  texts-in-parts : lengths_verdict texts counts room
      ≡ first_failure (sum_check texts counts ∷ marks_check ∷ letter_check texts ∷ counts_check ∷ lengths_check ∷ room_check ∷ [])
  unfolding lengths_verdict first_failure
  texts-in-parts =
      by_eqb (sum_list counts) (length texts)
      (λ t. after_check t ListsUnequal (first_failure (marks_check ∷ letter_check texts ∷ lengths_check ∷ room_check ∷ []))
      ≡ after_check t ListsUnequal (first_failure (marks_check ∷ letter_check texts ∷ counts_check ∷ lengths_check ∷ room_check ∷ [])))
      (λ sum.
      let parts = in-two-parts texts counts_check.passes lengths_check.passes (room_check ∷ []) (counts-of-good counts texts sum) in
      ap (after_check marks_check.passes TooManyMarks) (sym parts))
      (λ _. refl)

  -- one after the other
  pub texts-in-turn : {six seven letters few range nine : Verdict} → first_failure (sum_check texts counts ∷ []) ≡ six
      → first_failure (marks_check ∷ []) ≡ seven → first_failure (letter_check texts ∷ []) ≡ letters → first_failure (counts_check ∷ []) ≡ few
      → first_failure (lengths_check ∷ []) ≡ range → first_failure (room_check ∷ []) ≡ nine
      → lengths_verdict texts counts room ≡ then six (then seven (then letters (then few (then range nine))))
  texts-in-turn six seven letters few range nine =
      texts-in-parts
      ∙ check-then (sum_check texts counts) _ six
      (check-then marks_check _ seven
      (check-then (letter_check texts) _ letters (check-then counts_check _ few (check-then lengths_check _ range nine))))

  -- past all checks the texts can be measured, their lengths are in range, and the list is long enough
  pub accepted-parts : lengths_verdict texts counts room ≡ accepted
      → ReadableTexts texts counts × (list_all length_in_range_lem (lengths_of counts texts) ≡ true) × (length counts ≤ room)
  unfolding lengths_verdict
  accepted-parts passed =
      let six = first-passed (sum_check texts counts) _ passed in
      let seven = first-passed marks_check _ six.1 in
      let thirteen = first-passed (letter_check texts) _ seven.1 in
      let eight = first-passed lengths_check _ thirteen.1 in
      let sum = eqb-true (sum_list counts) (length texts) six.0 in (
        record { adds-up = sum; letters-good = thirteen.0; counts-good = counts-of-good counts texts sum eight.0 },
        eight.0,
        leb-true (length counts) room (one-passed room_check eight.1),
      )
