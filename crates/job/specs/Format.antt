-- The job's form. "Header: count of marks (16 bits), place of the first mark (signed 16 bits, ..). Then a record for each mark: a bit
-- map byte, then only the fields whose bit stands, in this order." The table of fields stands here row by row, with the range of each.
use Rattle.std.specs.Prelude.{ℕ, zero, suc, ◌+◌, ◌*◌, ◌/◌, ◌%◌, ◌^◌, [], ◌∷◌, Bool, ◌&&◌, leb, eqb}
use Rattle.geometry.specs.Lists.{any_of}
use Rattle.geometry.specs.Mark.{length_in_range_lem, weight_in_range_lem}
use Rattle.geometry.specs.Strip.{most_marks}

-- "8 bits" and "16 bits", as bytes
abbrev pub byte_width : ℕ
byte_width = 1

abbrev pub word_width : ℕ
word_width = 2

-- the header's bytes: two words
abbrev pub header_length : ℕ
header_length = 4

-- a row of the table: the field's bit in the map, its width in bytes, its value if absent, and its range
pub record Field : Type 0 where
  pub bit : ℕ
  pub width : ℕ
  pub absent : ℕ
  pub in_range : ℕ → Bool

-- "The step field's range is 1 to 60,000."
abbrev pub most_step : ℕ
most_step = 60000

abbrev pub step_in_range : ℕ → Bool
step_in_range s = leb 1 s && leb s most_step

-- "if absent": 1, 8, 1
abbrev pub absent_step : ℕ
absent_step = 1

abbrev pub absent_length : ℕ
absent_length = 8

abbrev pub absent_weight : ℕ
absent_weight = 1

-- "bit 0 (lowest): step from the mark before, 16 bits, unsigned"
abbrev pub step_field : Field
step_field = record { bit = 0; width = word_width; absent = absent_step; in_range = step_in_range }

-- "bit 1: length, 8 bits"
abbrev pub length_field : Field
length_field = record { bit = 1; width = byte_width; absent = absent_length; in_range = length_in_range_lem }

-- "bit 2: weight, 16 bits, unsigned"
abbrev pub weight_field : Field
weight_field = record { bit = 2; width = word_width; absent = absent_weight; in_range = weight_in_range_lem }

-- a bit of a map byte stands; bit 0 is the lowest
abbrev pub bit_stands : ℕ → ℕ → Bool
bit_stands k map_byte = eqb (map_byte / 2 ^ k % 2) 1

-- "a bit of 3 to 7 stands"
unfoldable pub stray_bits : ℕ → Bool
stray_bits map_byte = any_of (λ k. bit_stands k map_byte) (3 ∷ 4 ∷ 5 ∷ 6 ∷ 7 ∷ [])

-- the longest record has a map byte and every field; "The first record has no step."
abbrev pub first_record_most : ℕ
first_record_most = 1 + (length_field.width + weight_field.width)

abbrev pub record_most : ℕ
record_most = 1 + (step_field.width + (length_field.width + weight_field.width))

-- the longest job of so many marks
abbrev pub job_most_of : ℕ → ℕ
job_most_of zero = header_length
job_most_of (suc n) = header_length + (first_record_most + record_most * n)

-- the longest job: 24,002 bytes, as `job-most-is` in proofs/ says. STRIP_JOB_MOST of include/strip.h is this number.
abbrev pub job_most : ℕ
job_most = job_most_of most_marks
