-- The records that the reader takes are written back with the same bytes: a record, then all records.
-- Its fields are (FieldsReadWritten). No bit of 3 to 7 stands, so the three bits are the whole map byte. The step that was read is the step
-- between the two places. So the marks that were read follow one another, and their records are the bytes that were read.
use mathlib.Core.Path.{◌≡◌, refl, sym, ◌∙◌, ap}
use mathlib.Core.Bool.{Bool, true, false, not, ◌&&◌, ◌||◌}
use mathlib.Core.List.{List, [], ◌∷◌, ◌++◌, append_assoc}
use mathlib.Core.Logic.{inl, inr}
use Prim.Native.Nat.{ℕ, zero, suc, ◌+◌, ◌≤◌, ◌<◌}
use native.Mathlib.Omega.{arith}
use borrow.Author.Tests.{eqb-true, not-true}
use lib.Dec.{eqb}
use lib.IntN.{ℤ, pos, ◌+ℤ◌}
use lib.Signed.{le_z}
use Rattle.geometry.specs.Dot.{dot}
use Rattle.geometry.specs.Mark.{place_in_range_lem, most_place}
use Rattle.geometry.specs.Strip.{Strip}
use Rattle.geometry.specs.declared.refusal.Refusal.TheVariants.{StrayBit}
use Rattle.geometry.specs.inner.Place.{place_of_lem, most_dot}
use Rattle.geometry.proofs.Split.{lt-or-ge, clash, one-to}
use Rattle.geometry.proofs.Dots.{dot-add, range-dots, range-mag}
use Rattle.geometry.proofs.Places.{place-of-dot, place-step, place-above, place-fits}
use Rattle.job.specs.Number.{Bytes}
use Rattle.job.specs.Outcome.{Outcome, given, and_then}
use Rattle.job.specs.Format.{most_step, absent_step, step_field, length_field, weight_field, bit_stands, stray_bits}
use Rattle.job.specs.Decode.{Front, place_after, decode_place, SignedMark}
use Rattle.job.specs.Decode.{decode_label, has_stray_bit_lem, decode_record, decode_records}
use Rattle.job.specs.Encode.{encode_bit, encode_field, encode_map, encode_record, step_to, encode_records}
use Rattle.job.proofs.Outcomes.{checked-given, then-given}
use Rattle.job.proofs.MapByte.{map-bits, some-stray}
use Rattle.job.proofs.AllRecords.{first-record, no_record}
use Rattle.job.proofs.MarksAfter.{Follows, GoodMark, MarksAfter}
use Rattle.job.proofs.FieldsReadWritten.{PlaceBack, place-inverse, LabelBack, label-inverse}

-- the step that was read is the step between the places
step_same : (first : Bool) (z : ℤ) (s : ℕ) → place_in_range_lem z ≡ true → (first ≡ true → s ≡ absent_step)
    → step_to first z (place_after first z s) ≡ s
step_same true z s pz h = sym (h refl)
step_same false z s pz h = omega (arith, dot-add z s (range-mag z pz))

-- a place that was read comes after the one before
after-follows : (first : Bool) (z : ℤ) (s : ℕ) → place_in_range_lem z ≡ true → 1 ≤ s → Follows first z (place_after first z s)
after-follows true z s pz h = refl
after-follows false z s pz h = omega (arith, dot-add z s (range-mag z pz))

-- and it is in range, if it is not above it
after-in-range : (first : Bool) (z : ℤ) (s : ℕ) → place_in_range_lem z ≡ true → le_z (place_after first z s) most_place ≡ true
    → place_in_range_lem (place_after first z s) ≡ true
after-in-range true z s pz near = pz
after-in-range false z s pz near =
    let e : z +ℤ pos s ≡ place_of_lem (dot z + s) = ap (λ (y : ℤ). y +ℤ pos s) (sym (place-of-dot z (range-mag z pz))) ∙ place-step (dot z) s in
    rw e
    (elim (lt-or-ge most_dot (dot z + s)) [
      | inl h ↦ clash (rw e at near) (place-above (dot z + s) h)
      | inr h ↦ place-fits (dot z + s) (omega (arith, range-dots z pz)) h
    ])

neither : (s t : Bool) → (s || t) ≡ false → (s ≡ false) × (t ≡ false)
neither false t e = (refl, e)
neither true t e = clash refl e

-- a first record, in which bit 0 does not stand, has the absent step
no_step : (first stands : Bool) (s : ℕ) → (first && stands) ≡ false → eqb s absent_step ≡ not stands → first ≡ true → s ≡ absent_step
no_step true stands s e b f = eqb-true s absent_step (b ∙ ap not e)
no_step false stands s e b f = clash f refl

-- a map byte in which no bit of 3 to 7 stands is below 8
map-small : (map : ℕ) → map < 256 → stray_bits map ≡ false → map < 8
map-small map h e = elim (lt-or-ge map 8) [ inl k ↦ k | inr k ↦ clash (some-stray map k h) e ]

-- what holds of a record that was read: its mark is in its ranges and follows the one before, and it is written with the same bytes
record RecordBack (first : Bool) (z : ℤ) (bs : List ℕ) (x : Front SignedMark) : Type 0 where
  good : GoodMark first z x.value.place x.value.label_length x.value.weight
  same : encode_record (step_to first z x.value.place) x.value.label_length x.value.weight ++ x.rest ≡ bs
  tail : Bytes x.rest

-- from the parts of a record: its map byte, its place, its length and weight
module _ (first : Bool) (z : ℤ) (map : ℕ) (bs : List ℕ) (pz : place_in_range_lem z ≡ true) (byte : map < 256)
    (calm : has_stray_bit_lem first map ≡ false)
    (p : Front ℤ) (place : PlaceBack first z map bs p) (x : Front SignedMark)
    (label : LabelBack (place_after first z place.step.value) map place.step.rest x) where
  -- the three values that were read
  abbrev step : ℕ
  step = place.step.value

  abbrev l : ℕ
  l = label.len.value

  abbrev w : ℕ
  w = label.wt.value

  -- the two tests of the map byte, one by one
  tests : (stray_bits map ≡ false) × ((first && bit_stands 0 map) ≡ false)
  tests = neither (stray_bits map) (first && bit_stands 0 map) calm

  -- the step to the place, the map byte and the fields are written as they were read
  same_step : step_to first z (place_after first z step) ≡ step
  same_step = step_same first z step pz (no_step first (bit_stands 0 map) step tests.1 place.step_back.bit_kept)

  same_map : encode_map step l w ≡ map
  unfolding encode_map encode_bit
  same_map =
      rw (place.step_back.bit_kept, label.length_back.bit_kept, label.weight-back.bit_kept) (map-bits map (map-small map byte tests.0))

  same-fields : (encode_field step_field step ++ (encode_field length_field l ++ encode_field weight_field w)) ++ label.wt.rest ≡ bs
  same-fields =
      append_assoc (encode_field step_field step) (encode_field length_field l ++ encode_field weight_field w) label.wt.rest
      ∙ ap (λ (bs : List ℕ). encode_field step_field step ++ bs)
      (append_assoc (encode_field length_field l) (encode_field weight_field w) label.wt.rest
      ∙ ap (λ (bs : List ℕ). encode_field length_field l ++ bs) label.weight-back.same
      ∙ label.length_back.same)
      ∙ place.step_back.same

  together : RecordBack first z (map ∷ bs) x
  unfolding encode_record
  together =
      rw label.is
      (record {
        good =
            record {
              follows = after-follows first z step pz (one-to most_step step place.step_back.fits).0;
              place = after-in-range first z step pz place.near;
              label_length = label.length_back.fits;
              weight = label.weight-back.fits;
            };
        same = rw (same_step, same_map) (ap (λ (bs : List ℕ). map ∷ bs) same-fields);
        tail = label.weight-back.tail;
      })

-- it holds of every record that is read
record-inverse : (first : Bool) (z : ℤ) (bs : List ℕ) (x : Front SignedMark) → place_in_range_lem z ≡ true → Bytes bs
    → decode_record first z bs ≡ given x
    → RecordBack first z bs x
unfolding decode_record
record-inverse first z [] x pz h e = let k : ◌≡◌ {A = ℕ} 0 1 = cc in absurd (omega arith)
record-inverse first z (map ∷ bs) x pz h e =
    let after : Front ℤ → Outcome (Front SignedMark) = λ place. decode_label place.value map place.rest in
    let p = checked-given (not (has_stray_bit_lem first map)) StrayBit (and_then (decode_place first z map bs) after) x e in
    let q = then-given (decode_place first z map bs) after x p.after in
    let place = place-inverse first z map bs q.first (λ i. h (suc i)) q.is in
    let label = label-inverse (place_after first z place.step.value) map place.step.rest x place.step_back.tail
    (ap after (sym place.is) ∙ q.after) in
    together first z map bs pz (h 0) (not-true _ p.passes) q.first place x label

-- what holds of all records that were read
pub record RecordsBack (first : Bool) (z : ℤ) (bs : List ℕ) (s : Strip) : Type 0 where
  pub marks-after : MarksAfter first z s.places s.lengths s.weights
  pub same_bytes : encode_records first z s.places s.lengths s.weights ≡ bs

-- it holds of every strip that is read
pub records-inverse : (n : ℕ) (first : Bool) (z : ℤ) (bs : List ℕ) (s : Strip) → place_in_range_lem z ≡ true → Bytes bs
    → decode_records n first z bs ≡ given s → RecordsBack first z bs s
unfolding encode_records
records-inverse zero first z bs s pz h e =
    rw ((no_record first z bs s e).0, (no_record first z bs s e).1) (record { marks-after = tt; same_bytes = refl })
records-inverse (suc n) first z bs s pz h e =
    let f = first-record n first z bs s e in
    let r = record-inverse first z bs f.front pz h f.read in
    let b = records-inverse n false f.front.value.place f.front.rest f.others r.good.place r.tail f.rest in
    rw f.whole (record { marks-after = (r.good, b.marks-after); same_bytes = rw b.same_bytes r.same })
