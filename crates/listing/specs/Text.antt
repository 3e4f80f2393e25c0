-- The listing program's text, line by line. "Fixed words are compared byte for byte, each line ending in byte 0A."
use Rattle.std.specs.Prelude.{ℕ, ◌+◌, ◌/◌, ◌%◌, List, [], ◌∷◌, ◌++◌, map, Bool, cond, leb, length}
use Rattle.std.proofs.Math.Option.{Option, none, some}
use Rattle.geometry.specs.Lists.{sum_list}
use Rattle.geometry.specs.Mark.{Mark}
use Rattle.geometry.specs.Strip.{Strip, marks_of, most_short}
use Rattle.geometry.specs.Position.{Position, code}
use Rattle.geometry.specs.Placing.{first_placing, best_sum}
use Rattle.geometry.specs.Refusal.{refusal_number}
use Rattle.geometry.specs.declared.refusal.Refusal.{Refusal}
use Rattle.geometry.specs.declared.refusal.Refusal.TheVariants.{TooManyMarks}
use Rattle.job.specs.Outcome.{Outcome, given, refusal}

-- "The listing program uses gap 1" (document 02, P2)
abbrev pub listing_gap : ℕ
listing_gap = 1

-- the fixed words, as bytes
abbrev pub marks_word : List ℕ
marks_word = 109 ∷ 97 ∷ 114 ∷ 107 ∷ 115 ∷ 32 ∷ []  -- "marks "

abbrev pub full_word : List ℕ
full_word = 102 ∷ 117 ∷ 108 ∷ 108 ∷ []  -- "full"

abbrev pub slide_word : List ℕ
slide_word = 115 ∷ 108 ∷ 105 ∷ 100 ∷ 101 ∷ 32 ∷ []  -- "slide "

abbrev pub best_word : List ℕ
best_word = 98 ∷ 101 ∷ 115 ∷ 116 ∷ 32 ∷ []  -- "best "

abbrev pub out_word : List ℕ
out_word = 111 ∷ 117 ∷ 116 ∷ []  -- "out"

abbrev pub of_word : List ℕ
of_word = 32 ∷ 111 ∷ 102 ∷ 32 ∷ []  -- " of "

abbrev pub none_word : List ℕ
none_word = 110 ∷ 111 ∷ 110 ∷ 101 ∷ []  -- "none"

abbrev pub fits_word : List ℕ
fits_word = 102 ∷ 105 ∷ 116 ∷ 115 ∷ []  -- "fits"

abbrev pub refused_word : List ℕ
refused_word = 114 ∷ 101 ∷ 102 ∷ 117 ∷ 115 ∷ 101 ∷ 100 ∷ 32 ∷ []  -- "refused "

-- byte 0A
abbrev pub line_end : List ℕ
line_end = 10 ∷ []

-- a digit of n at a power of ten, if n reaches it
abbrev pub digit_at : ℕ → ℕ → List ℕ
digit_at power n = cond (leb power n) ((48 + n / power % 10) ∷ []) []

-- a number below 100,000 in decimal digits; no number of a listing is greater
unfoldable pub decimal : ℕ → List ℕ
decimal n = digit_at 10000 n ++ digit_at 1000 n ++ digit_at 100 n ++ digit_at 10 n ++ ((48 + n % 10) ∷ [])

-- numbers, "each after a space"
unfoldable pub spaced : List ℕ → List ℕ
spaced [] = []
spaced (n ∷ ns) = (32 ∷ decimal n) ++ spaced ns

-- "the count"
abbrev pub marks_line : ℕ → List ℕ
marks_line n = marks_word ++ decimal n ++ line_end

-- "the full positions, each after a space, or "none""; "For the empty strip the second line is "full" alone"
abbrev pub full_tail : Option (List Position) → List ℕ
full_tail none = 32 ∷ none_word
full_tail (some ps) = spaced (map code ps)

abbrev pub full_line : List Mark → List ℕ
full_line ms = full_word ++ full_tail (first_placing listing_gap ms) ++ line_end

-- ""fits" or "none""
abbrev pub slide_line : Bool → List ℕ
slide_line fits = slide_word ++ cond fits fits_word none_word ++ line_end

-- "the best sum and the weight of all marks"
abbrev pub best_line : ℕ → ℕ → List ℕ
best_line sum all = best_word ++ decimal sum ++ of_word ++ decimal all ++ line_end

-- "the left-out numbers, each after a space, or "none" if no mark is left out"
abbrev pub out_tail : List ℕ → List ℕ
out_tail [] = 32 ∷ none_word
out_tail (n ∷ ns) = spaced (n ∷ ns)

abbrev pub out_line : List ℕ → List ℕ
out_line out = out_word ++ out_tail out ++ line_end

-- "A refused job gives the single line "refused" with a space and the number."
abbrev pub refused_line : Refusal → List ℕ
refused_line r = refused_word ++ decimal (refusal_number r) ++ line_end

-- "Above 60 marks, slide and best read "refused 7" after the line's word, and there is no out line."
abbrev pub too_long : List ℕ
too_long = refused_line TooManyMarks

abbrev pub too_long_lines : List ℕ
too_long_lines = slide_word ++ too_long ++ best_word ++ too_long

-- the lines below the full line of a strip of at most 60 marks; whether the slide pass fits and the left-out list are handed in
abbrev pub short_lines : Strip → Bool → List ℕ → List ℕ
short_lines s fits out = slide_line fits ++ best_line (best_sum listing_gap (marks_of s)) (sum_list s.weights) ++ out_line out

-- the lines of a strip below its count
abbrev pub strip_lines : Strip → Bool → List ℕ → List ℕ
strip_lines s fits out = full_line (marks_of s) ++ cond (leb (length s.places) most_short) (short_lines s fits out) too_long_lines

-- the listing of what a job says
unfoldable pub listing_of : Outcome Strip → Bool → List ℕ → List ℕ
listing_of (refusal r) fits out = refused_line r
listing_of (given s) fits out = marks_line (length s.places) ++ strip_lines s fits out
