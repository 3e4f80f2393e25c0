-- "passes and writer, on entry: 6 mark lists of unequal length; then 7 too many marks (writer: over 4,000); then 8 a value out of range
-- or places not rising". A strip may be too long for a pass and have a bad mark, and document 02, P5, says which decides: "Both rules
-- apply to such a strip, so their order changes: over 4,000 marks is 7, then a bad mark is 8, then too many for the pass is 7."
use Rattle.std.specs.Prelude.{ℕ, List, [], ◌∷◌, ◌++◌, Bool, ◌&&◌, eqb, ℤ, length}
use Rattle.std.specs.List.{list_all}
use Rattle.geometry.specs.Mark.{place_in_range_lem, length_in_range_lem, weight_in_range_lem, rising}
use Rattle.geometry.specs.Strip.{Strip, most_marks}
use Rattle.geometry.specs.Refusal.{Check, Verdict, at_most, first_failure, ListsUnequal, TooManyMarks, BadMark}

abbrev pub same_lengths_lem : Strip → Bool
same_lengths_lem s = eqb (length s.places) (length s.lengths) && eqb (length s.places) (length s.weights)

-- "a value out of range or places not rising"
abbrev pub good_places_lem : List ℤ → Bool
good_places_lem zs = list_all place_in_range_lem zs && rising zs

abbrev pub good_labels_lem : List ℕ → List ℕ → Bool
good_labels_lem ls ws = list_all length_in_range_lem ls && list_all weight_in_range_lem ws

abbrev pub good_marks_lem : Strip → Bool
good_marks_lem s = good_places_lem s.places && good_labels_lem s.lengths s.weights

-- 6
abbrev pub lists_checks : Strip → List Check
lists_checks s = record { passes = same_lengths_lem s; otherwise = ListsUnequal } ∷ []

-- 7 over so many marks
abbrev pub count_checks : ℕ → Strip → List Check
count_checks most s = at_most (length s.places) most TooManyMarks ∷ []

-- 8
abbrev pub value_checks : Strip → List Check
value_checks s = record { passes = good_marks_lem s; otherwise = BadMark } ∷ []

-- The checks on entry in their order, for a call that takes at most limit marks; own are those that it makes right after 6. Where limit
-- is 4,000, the last check never fails.
abbrev pub entry_checks : List Check → ℕ → Strip → List Check
entry_checks own limit s = lists_checks s ++ own ++ count_checks most_marks s ++ value_checks s ++ count_checks limit s

-- those on the strip alone, which are all that the writer makes: "A pass accepts it if the checks on entry are passed"
unfoldable pub entry : ℕ → Strip → Verdict
entry limit s = first_failure (entry_checks [] limit s)
