-- The records that the writer makes of good marks are read back as those marks: a field, then a record, then all records.
-- What is written of a good value is read as that value, with what stood behind it left over: a field with its absent value has no bytes
-- and its bit does not stand, and any other has its bytes and passes its checks. The step from one place to the next leads to the next.
use mathlib.Core.Path.{◌≡◌, refl, sym, ◌∙◌, ap}
use mathlib.Core.Bool.{Bool, true, false, not, cond, ◌&&◌}
use mathlib.Core.List.{List, [], ◌∷◌, ◌++◌, append_assoc}
use Prim.Native.Nat.{ℕ, ◌+◌, ◌-◌, ◌≤◌, ◌<◌}
use native.Mathlib.Omega.{arith}
use lib.Dec.{eqb}
use lib.IntN.{ℤ, pos, ◌+ℤ◌}
use lib.Signed.{le_z}
use lib.ListN.{length, length-append}
use lib.Seq.{take_at, drop_at}
use Rattle.geometry.specs.Dot.{dot}
use Rattle.geometry.specs.Mark.{place_in_range_lem, least_place, most_place, most_length, most_weight}
use Rattle.geometry.specs.Strip.{strip}
use Rattle.geometry.proofs.Split.{by_eqb, and-snd, one-to}
use Rattle.geometry.proofs.Dots.{dot-add, mag-add, dot-injective, range-dots, range-mag}
use Rattle.job.specs.Number.{big_endian, bytes_of}
use Rattle.job.specs.Outcome.{given}
use Rattle.job.specs.Format.{most_step, absent_step, absent_length, absent_weight, Field, step_field, length_field, weight_field}
use Rattle.job.specs.Decode.{front, field_if, decode_field, place_after, decode_place, mark_of, decode_label, has_stray_bit_lem, decode_record, decode_records}
use Rattle.job.specs.Encode.{encode_bit, encode_field, encode_map, encode_record, step_to, encode_records}
use Rattle.job.proofs.Numbers.{bytes-length, back_one, back-two}
use Rattle.job.proofs.MapByte.{bits, MapOf, bits-map, no_stray}
use Rattle.job.proofs.FieldChecks.{field-good, in-range}
use Rattle.job.proofs.MarksAfter.{Follows, GoodMark, MarksAfter}

-- a field, left out or with its bytes, is read as its value
field_back : (f : Field) (v : ℕ) (rest : List ℕ) → big_endian (bytes_of f.width v) ≡ v → f.in_range v ≡ true
    → field_if (not (eqb v f.absent)) f (encode_field f v ++ rest) ≡ given (front v rest)
unfolding encode_field
field_back f v rest b r =
    by_eqb v f.absent (λ t. field_if (not t) f (cond t [] (bytes_of f.width v) ++ rest) ≡ given (front v rest))
    (λ e. ap (λ (k : ℕ). given (front k rest)) (sym e))
    (λ n.
    let bytes = bytes_of f.width v in
    let l = bytes-length f.width v in
    let h : f.width ≤ length (bytes ++ rest) = omega (arith, length-append bytes rest) in
    field-good f (bytes ++ rest) v (sym (ap big_endian (take_at bytes rest f.width l) ∙ b)) h n r
    ∙ ap (λ (k : List ℕ). given (front v k)) (drop_at bytes rest f.width l))

-- the step from z to y leads from z to y
module _ (z y : ℤ) (pz : place_in_range_lem z ≡ true) (py : place_in_range_lem y ≡ true) where
  step-lands : dot z ≤ dot y → z +ℤ pos (dot y - dot z) ≡ y
  step-lands h =
      let n = dot y - dot z in
      let there : dot z + n ≡ dot y = omega arith in
      let small : dot z + n < 65536 = omega (arith, range-dots y py) in
      dot-injective (z +ℤ pos n) y (mag-add z n (range-mag z pz) small) (range-mag y py) (dot-add z n (range-mag z pz) ∙ there)

  -- the same for the first mark too, which takes no step
  lands : (first : Bool) → Follows first z y → place_after first z (step_to first z y) ≡ y
  lands true f = f
  lands false f = step-lands (omega arith)

  -- the step is in the range of its field
  step-bounds : (first : Bool) → Follows first z y → (1 ≤ step_to first z y) × (step_to first z y ≤ most_step)
  step-bounds true f = omega arith
  step-bounds false f = omega (arith, range-dots z pz, range-dots y py)

-- the first record is written without a step, so its bit 0 does not stand
no-first-step : (first : Bool) (z y : ℤ) → (first && not (eqb (step_to first z y) absent_step)) ≡ false
no-first-step true z y = refl
no-first-step false z y = refl

-- a record of a good mark, with some bytes behind it
module _ (first : Bool) (z y : ℤ) (l w : ℕ) (rest : List ℕ) (pz : place_in_range_lem z ≡ true) (good : GoodMark first z y l w) where
  -- its step and its map byte
  abbrev step : ℕ
  step = step_to first z y

  abbrev map : ℕ
  map = bits (eqb step absent_step) (eqb l absent_length) (eqb w absent_weight)

  -- the bits that stand are those of the fields that are not left out
  is-map : MapOf (eqb step absent_step) (eqb l absent_length) (eqb w absent_weight) map
  is-map = bits-map (eqb step absent_step) (eqb l absent_length) (eqb w absent_weight)

  -- what stands behind the map byte, behind the step, and behind the length
  abbrev behind_length : List ℕ
  behind_length = encode_field weight_field w ++ rest

  abbrev behind_step : List ℕ
  behind_step = encode_field length_field l ++ behind_length

  abbrev behind_map : List ℕ
  behind_map = encode_field step_field step ++ behind_step

  -- the bytes in the order in which they are read
  bytes-are : encode_record step l w ++ rest ≡ map ∷ behind_map
  unfolding encode_record encode_map encode_bit
  bytes-are =
      ap (λ (bs : List ℕ). map ∷ bs)
      (append_assoc (encode_field step_field step) (encode_field length_field l ++ encode_field weight_field w) rest
      ∙ ap (λ (bs : List ℕ). encode_field step_field step ++ bs) (append_assoc (encode_field length_field l) (encode_field weight_field w) rest))

  -- no bit stands that must not
  calm : has_stray_bit_lem first map ≡ false
  calm = rw (no_stray map is-map.small, is-map.step-bit) (no-first-step first z y)

  -- each field in turn is read as its value
  bounds : (1 ≤ step) × (step ≤ most_step)
  bounds = step-bounds z y pz good.place first good.follows

  step_back : decode_field step_field map behind_map ≡ given (front step behind_step)
  step_back =
      rw is-map.step-bit
      (field_back step_field step behind_step (back-two step (omega (arith, bounds.1))) (in-range step most_step bounds.0 bounds.1))

  -- the length and the weight are within their fields
  small-length : l ≤ most_length
  small-length = (one-to most_length l good.label_length).1

  length_back : decode_field length_field map behind_step ≡ given (front l behind_length)
  length_back = rw is-map.length-bit (field_back length_field l behind_length (back_one l (omega (arith, small-length))) good.label_length)

  small-weight : w ≤ most_weight
  small-weight = (one-to most_weight w good.weight).1

  weight-back : decode_field weight_field map behind_length ≡ given (front w rest)
  weight-back = rw is-map.weight-bit (field_back weight_field w rest (back-two w (omega (arith, small-weight))) good.weight)

  -- so is the place, then the mark, then the whole record
  landed : place_after first z step ≡ y
  landed = lands z y pz good.place first good.follows

  place-back : decode_place first z map behind_map ≡ given (front y behind_step)
  unfolding decode_place
  place-back = rw (step_back, landed, and-snd (le_z least_place y) (le_z y most_place) good.place) refl

  label-back : decode_label y map behind_step ≡ given (front (mark_of y l w) rest)
  unfolding decode_label
  label-back = rw (length_back, weight-back) refl

  record-back : decode_record first z (encode_record step l w ++ rest) ≡ given (front (mark_of y l w) rest)
  unfolding decode_record
  record-back = rw (bytes-are, calm, place-back) label-back

-- all records are read as the marks they were made of
pub records-back : (first : Bool) (z : ℤ) (zs : List ℤ) (ls ws : List ℕ) → place_in_range_lem z ≡ true → MarksAfter first z zs ls ws
    → decode_records (length zs) first z (encode_records first z zs ls ws) ≡ given (strip zs ls ws)
unfolding decode_records encode_records
records-back first z [] [] [] pz h = refl
records-back first z [] [] (w ∷ ws) pz h = absurd h
records-back first z [] (l ∷ ls) ws pz h = absurd h
records-back first z (y ∷ zs) [] ws pz h = absurd h
records-back first z (y ∷ zs) (l ∷ ls) [] pz h = absurd h
records-back first z (y ∷ zs) (l ∷ ls) (w ∷ ws) pz h =
    rw (record-back first z y l w (encode_records false y zs ls ws) pz h.0, records-back false y zs ls ws h.0.place h.1) refl
