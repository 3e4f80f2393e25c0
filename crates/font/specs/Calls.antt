-- What the three calls settle: the number, the length or the count, and the length list at exit.
use Rattle.std.specs.Prelude.{ℕ, ◌≡◌, Bool, List, [], ◌∷◌, eqb, length, Result, Ok, Err}
use Rattle.geometry.specs.Lists.{sum_list}
use Rattle.std.specs.List.{list_all}
use Rattle.geometry.specs.Mark.{length_in_range_lem}
use Rattle.geometry.specs.Strip.{most_marks}
use Rattle.geometry.specs.Refusal.{Check, Verdict, accepted, refused, refusal_number, number_of, at_most, first_failure}
use Rattle.geometry.specs.declared.refusal.Refusal.{Refusal}
use Rattle.geometry.specs.declared.refusal.Refusal.TheVariants.{ListsUnequal, TooManyMarks, BadMark, ListTooShort, StrayByte}
use Rattle.geometry.specs.Pass.{written}
use Rattle.font.specs.Letters.{in_font_lem}
use Rattle.font.specs.Text.{text_width, IsLongest, longest_beginning_lem, lengths_of}

-- "13, a byte outside 32 to 126, tested before the width": over all bytes that are handed over
abbrev pub letter_check : List ℕ → Check
letter_check bytes = record { passes = list_all in_font_lem bytes; otherwise = StrayByte }

-- "a length of 0 or over 240 is 8"
abbrev pub length_check : Bool → Check
length_check good = record { passes = good; otherwise = BadMark }

-- "Every refusal gives its number, with sum, count and length 0"
abbrev pub value_after : Verdict → ℕ → ℕ
value_after accepted value = value
value_after (refused r) value = 0

-- what the call gives: a number and a length. "When an answer is an enum, a definition gives this paper's number and values for each of its
-- cases."
pub record Measured : Type 0 where
  pub number : ℕ
  pub length : ℕ

abbrev pub measured_answer : Result ℕ Refusal → Measured
measured_answer (Ok width) = record { number = 0; length = width }
measured_answer (Err r) = record { number = refusal_number r; length = 0 }

-- a text's length as a label: 13 over the whole text, then 8
unfoldable pub measure_verdict : List ℕ → Verdict
measure_verdict text = first_failure (letter_check text ∷ length_check (length_in_range_lem (text_width text)) ∷ [])

pub record MeasureContract (text : List ℕ) (r : Measured) : Type 0 where
  pub number_is : r.number ≡ number_of (measure_verdict text)
  pub length-is : r.length ≡ value_after (measure_verdict text) (text_width text)

-- a number and a count
pub record Beginning : Type 0 where
  pub number : ℕ
  pub count : ℕ

abbrev pub beginning_answer : Result ℕ Refusal → Beginning
beginning_answer (Ok count) = record { number = 0; count = count }
beginning_answer (Err r) = record { number = refusal_number r; count = 0 }

-- "this call gives its count of bytes and refuses only by 13, over the whole text"
unfoldable pub beginning_verdict : List ℕ → Verdict
beginning_verdict text = first_failure (letter_check text ∷ [])

-- the count by its definition, and in document 02's words
pub record BeginningContract (text : List ℕ) (r : Beginning) : Type 0 where
  pub number_is : r.number ≡ number_of (beginning_verdict text)
  pub count-is : r.count ≡ value_after (beginning_verdict text) (longest_beginning_lem text)
  pub longest : beginning_verdict text ≡ accepted → IsLongest text r.count

-- "6 (the counts do not add up to the byte list)"
abbrev pub sum_check : List ℕ → List ℕ → Check
sum_check texts counts = record { passes = eqb (sum_list counts) (length texts); otherwise = ListsUnequal }

-- "The filling call tests 6 [..], 7 (over 4,000 texts), 13 over all texts, 8, then 9", where the length list has `room` elements. Past 6
-- the texts are the whole byte list.
abbrev pub lengths_checks : List ℕ → List ℕ → ℕ → List Check
lengths_checks texts counts room =
    sum_check texts counts
    ∷ at_most (length counts) most_marks TooManyMarks
    ∷ letter_check texts
    ∷ length_check (list_all length_in_range_lem (lengths_of counts texts))
    ∷ at_most (length counts) room ListTooShort
    ∷ []

unfoldable pub lengths_verdict : List ℕ → List ℕ → ℕ → Verdict
lengths_verdict texts counts room = first_failure (lengths_checks texts counts room)

-- the length list afterwards: "a refusal leaves the length list unchanged", and beyond its used part it is unchanged too
abbrev pub lengths_after : Verdict → List ℕ → List ℕ → List ℕ
lengths_after accepted lengths old = written lengths old
lengths_after (refused r) lengths old = old

pub record LengthsContract (texts counts entry exit : List ℕ) (number : ℕ) : Type 0 where
  pub number_is : number ≡ number_of (lengths_verdict texts counts (length entry))
  pub lengths-are : exit ≡ lengths_after (lengths_verdict texts counts (length entry)) (lengths_of counts texts) entry
