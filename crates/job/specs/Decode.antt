-- What the bytes of a job say: its marks, or the first check that is not passed, in the order of "Where the labeller says no".
use Rattle.std.specs.Prelude.{ℕ, zero, suc, List, [], ◌∷◌, Bool, true, false, not, ◌&&◌, ◌||◌, leb, eqb, ℤ, pos, ◌+ℤ◌, length, take, drop}
use Rattle.std.specs.Int.Signed.{le_z}
use Rattle.geometry.specs.Mark.{place_in_range_lem, most_place}
use Rattle.geometry.specs.Strip.{Strip, strip, most_marks}
use Rattle.geometry.specs.declared.refusal.Refusal.TheVariants.{BytesEnd, StrayBit, AbsentValue, OutOfRange, BytesLeftOver, ListTooShort}
use Rattle.job.specs.Number.{big_endian, signed}
use Rattle.job.specs.Outcome.{Outcome, given, refusal, checked, and_then}
use Rattle.job.specs.Format.{word_width, header_length, Field, step_field, length_field, weight_field, bit_stands, stray_bits}

-- a value at the front of some bytes, and the bytes after it
pub record Front (A : Type 0) : Type 0 where
  pub value : A
  pub rest : List ℕ

abbrev pub front : {A : Type 0} → A → List ℕ → Front A
front value rest = record { value = value; rest = rest }

-- "reader, each field in turn: 1 bytes end inside it; 3 it holds its absent value; 4 out of range"
unfoldable pub standing_field : Field → List ℕ → Outcome (Front ℕ)
standing_field f bs =
    checked (leb f.width (length bs)) BytesEnd
    (checked (not (eqb (big_endian (take f.width bs)) f.absent)) AbsentValue
    (checked (f.in_range (big_endian (take f.width bs))) OutOfRange
    (given (front (big_endian (take f.width bs)) (drop f.width bs)))))

-- "only the fields whose bit stands": another has its absent value and no bytes
abbrev pub field_if : Bool → Field → List ℕ → Outcome (Front ℕ)
field_if true f bs = standing_field f bs
field_if false f bs = given (front f.absent bs)

abbrev pub decode_field : Field → ℕ → List ℕ → Outcome (Front ℕ)
decode_field f map_byte bs = field_if (bit_stands f.bit map_byte) f bs

-- the place of a mark: "The first record has no step", its place stands in the header; any other is a step after the mark before
abbrev pub place_after : Bool → ℤ → ℕ → ℤ
place_after true z step = z
place_after false z step = z +ℤ pos step

-- "step taken or absent, before the length field: 4 the new place is above 30,000". z is the place in the header for the first record,
-- and the place of the mark before for any other.
unfoldable pub decode_place : Bool → ℤ → ℕ → List ℕ → Outcome (Front ℤ)
decode_place first z map_byte bs =
    and_then (decode_field step_field map_byte bs) (λ step.
    checked (le_z (place_after first z step.value) most_place) OutOfRange
    (given (front (place_after first z step.value) step.rest)))

-- a mark whose place is signed; that of geometry's `Mark` is a dot
pub record SignedMark : Type 0 where
  pub place : ℤ
  pub label_length : ℕ
  pub weight : ℕ

abbrev pub mark_of : ℤ → ℕ → ℕ → SignedMark
mark_of place label_length weight = record { place = place; label_length = label_length; weight = weight }

-- the length and the weight of the mark at a place
unfoldable pub decode_label : ℤ → ℕ → List ℕ → Outcome (Front SignedMark)
decode_label place map_byte bs =
    and_then (decode_field length_field map_byte bs) (λ len.
    and_then (decode_field weight_field map_byte len.rest) (λ wt.
    given (front (mark_of place len.value wt.value) wt.rest)))

-- "2 a bit of 3 to 7 stands, or bit 0 in the first record"
abbrev pub has_stray_bit_lem : Bool → ℕ → Bool
has_stray_bit_lem first map_byte = stray_bits map_byte || (first && bit_stands step_field.bit map_byte)

-- "reader, each record in turn: 1 map byte missing; 2 ..", then its fields
unfoldable pub decode_record : Bool → ℤ → List ℕ → Outcome (Front SignedMark)
decode_record first z [] = refusal BytesEnd
decode_record first z (map_byte ∷ bs) =
    checked (not (has_stray_bit_lem first map_byte)) StrayBit
    (and_then (decode_place first z map_byte bs) (λ place. decode_label place.value map_byte place.rest))

abbrev pub no_marks : Strip
no_marks = strip [] [] []

abbrev pub cons_mark : SignedMark → Strip → Strip
cons_mark m s = strip (m.place ∷ s.places) (m.label_length ∷ s.lengths) (m.weight ∷ s.weights)

abbrev pub with_mark : SignedMark → Outcome Strip → Outcome Strip
with_mark m (given s) = given (cons_mark m s)
with_mark m (refusal r) = refusal r

-- n records, and "after the last record: 5 bytes left over"
unfoldable pub decode_records : ℕ → Bool → ℤ → List ℕ → Outcome Strip
decode_records zero first z bs = checked (leb (length bs) 0) BytesLeftOver (given no_marks)
decode_records (suc n) first z bs =
    and_then (decode_record first z bs) (λ m. with_mark m.value (decode_records n false m.value.place m.rest))

-- "Header: count of marks (16 bits), place of the first mark (signed 16 bits, two's complement; 0 if the count is 0)."
abbrev pub header_count : List ℕ → ℕ
header_count bs = big_endian (take word_width bs)

abbrev pub header_place : List ℕ → ℤ
header_place bs = signed (big_endian (take word_width (drop word_width bs)))

abbrev pub zero_place : ℤ → Bool
zero_place z = le_z (pos 0) z && le_z z (pos 0)

-- a header: the count of marks and the place of the first
pub record Header : Type 0 where
  pub count : ℕ
  pub place : ℤ

abbrev pub header_of : ℕ → ℤ → Header
header_of count place = record { count = count; place = place }

-- "4 count over 4,000, first place outside its range, or not 0 at count 0"
abbrev pub header_in_range_lem : ℕ → ℤ → Bool
header_in_range_lem count place = leb count most_marks && (place_in_range_lem place && (not (eqb count 0) || zero_place place))

-- "reader, header: 1 fewer than 4 bytes; then 4 .."
unfoldable pub decode_header : List ℕ → Outcome Header
decode_header bs =
    checked (leb header_length (length bs)) BytesEnd
    (checked (header_in_range_lem (header_count bs) (header_place bs)) OutOfRange
    (given (header_of (header_count bs) (header_place bs))))

-- the header; then "reader, mark lists: 9 a lent list shorter than the count", the shortest of them having `shortest` elements; then
-- the records
unfoldable pub decode : ℕ → List ℕ → Outcome Strip
decode shortest bs =
    and_then (decode_header bs) (λ h.
    checked (leb h.count shortest) ListTooShort
    (decode_records h.count true h.place (drop header_length bs)))
