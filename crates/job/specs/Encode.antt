-- The job of a strip: header, then a record for each mark. "A field holding the value it would have if absent is wrong", so such a field
-- is left out.
use Rattle.std.specs.Prelude.{ℕ, ◌+◌, ◌-◌, ◌^◌, List, [], ◌∷◌, ◌++◌, Bool, true, false, cond, leb, eqb, ℤ, pos, length, get_or}
use Rattle.geometry.specs.Dot.{dot}
use Rattle.geometry.specs.Strip.{Strip, most_marks}
use Rattle.geometry.specs.declared.refusal.Refusal.TheVariants.{ListTooShort}
use Rattle.geometry.specs.Refusal.{Verdict, accepted, refused}
use Rattle.geometry.specs.Entry.{entry}
use Rattle.job.specs.Number.{bytes_of, word_of}
use Rattle.job.specs.Outcome.{Outcome, given, refusal, checked}
use Rattle.job.specs.Format.{word_width, Field, step_field, length_field, weight_field}

-- a field's part of the map byte, and its bytes
unfoldable pub encode_bit : Field → ℕ → ℕ
encode_bit f v = cond (eqb v f.absent) 0 (2 ^ f.bit)

unfoldable pub encode_field : Field → ℕ → List ℕ
encode_field f v = cond (eqb v f.absent) [] (bytes_of f.width v)

-- "a bit map byte, then only the fields whose bit stands, in this order"
unfoldable pub encode_map : ℕ → ℕ → ℕ → ℕ
encode_map step l w = encode_bit step_field step + (encode_bit length_field l + encode_bit weight_field w)

unfoldable pub encode_record : ℕ → ℕ → ℕ → List ℕ
encode_record step l w = encode_map step l w ∷ (encode_field step_field step ++ (encode_field length_field l ++ encode_field weight_field w))

-- the step from a place z to a place y. "The first record has no step": the absent value stands for it, which writes no field
abbrev pub step_to : Bool → ℤ → ℤ → ℕ
step_to true z y = step_field.absent
step_to false z y = dot y - dot z

-- the records of marks that follow a mark at place z; for the first mark z is its own place
unfoldable pub encode_records : Bool → ℤ → List ℤ → List ℕ → List ℕ → List ℕ
encode_records first z [] ls ws = []
encode_records first z (y ∷ zs) [] ws = []
encode_records first z (y ∷ zs) (l ∷ ls) [] = []
encode_records first z (y ∷ zs) (l ∷ ls) (w ∷ ws) = encode_record (step_to first z y) l w ++ encode_records false y zs ls ws

-- "place of the first mark (..; 0 if the count is 0)"
abbrev pub first_place_lem : List ℤ → ℤ
first_place_lem places = get_or places 0 (pos 0)

-- "Header: count of marks (16 bits), place of the first mark (signed 16 bits, two's complement; ..)."
unfoldable pub header_bytes : List ℤ → List ℕ
header_bytes places = bytes_of word_width (length places) ++ bytes_of word_width (word_of (first_place_lem places))

abbrev pub records_of : Strip → List ℕ
records_of s = encode_records true (first_place_lem s.places) s.places s.lengths s.weights

unfoldable pub encode : Strip → List ℕ
encode s = header_bytes s.places ++ records_of s

abbrev pub after_entry : {A : Type 0} → Verdict → Outcome A → Outcome A
after_entry accepted o = o
after_entry (refused r) o = refusal r

-- "passes and writer, on entry: 6 mark lists of unequal length; then 7 too many marks (writer: over 4,000); then 8 a value out of
-- range or places not rising"; then "9 .. the job longer than the output", which has `room` bytes
unfoldable pub job_for : ℕ → Strip → Outcome (List ℕ)
job_for room s = after_entry (entry most_marks s) (checked (leb (length (encode s)) room) ListTooShort (given (encode s)))
