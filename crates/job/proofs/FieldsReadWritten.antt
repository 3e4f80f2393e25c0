-- The fields that the reader takes are written back with the same bytes: a value that was read is in its range, and it is the absent one
-- exactly where its bit does not stand, so its field is written with the same bytes. So are the place, which is one field, and the length
-- and the weight, which are two.
use mathlib.Core.Path.{◌≡◌, refl, sym}
use mathlib.Core.Bool.{Bool, true, false, not}
use mathlib.Core.List.{List, [], ◌∷◌, ◌++◌}
use Prim.Native.Nat.{ℕ, ◌+◌, ◌≤◌}
use native.Mathlib.Omega.{arith}
use borrow.Author.Tests.{leb-true, eqb-false, eq-eqb, not-true}
use lib.Dec.{leb, eqb}
use lib.IntN.{ℤ}
use lib.Signed.{le_z}
use lib.ListN.{length, take, drop}
use lib.Seq.{get_or-drop}
use Rattle.geometry.specs.Mark.{most_place}
use Rattle.geometry.specs.declared.refusal.Refusal.TheVariants.{BytesEnd, AbsentValue, OutOfRange}
use Rattle.job.specs.Number.{big_endian, bytes_of, Bytes}
use Rattle.job.specs.Outcome.{Outcome, given, checked, and_then}
use Rattle.job.specs.Format.{byte_width, word_width, Field, step_field, length_field, weight_field, bit_stands}
use Rattle.job.specs.Decode.{Front, front, standing_field, field_if, decode_field, place_after, decode_place, SignedMark, mark_of}
use Rattle.job.specs.Decode.{decode_label}
use Rattle.job.specs.Encode.{encode_field}
use Rattle.job.proofs.Numbers.{same-one, same-two}
use Rattle.job.proofs.Outcomes.{checked-given, then-given, given-same}
use Rattle.job.proofs.RecordBytes.{field-none, field-some}

-- what stands behind the first k bytes are bytes
pub bytes_drop : (k : ℕ) (bs : List ℕ) → Bytes bs → Bytes (drop k bs)
bytes_drop k bs h i = rw (get_or-drop k bs i 0) (h (k + i))

-- a number of one byte or of two at the front, read and written back, is the same bytes
front-one : (bs : List ℕ) → Bytes bs → byte_width ≤ length bs → bytes_of byte_width (big_endian (take byte_width bs)) ++ drop byte_width bs ≡ bs
front-one [] h k = absurd (omega arith)
front-one (a ∷ bs) h k = rw (same-one a (h 0)) refl

front-two : (bs : List ℕ) → Bytes bs → word_width ≤ length bs → bytes_of word_width (big_endian (take word_width bs)) ++ drop word_width bs ≡ bs
front-two [] h k = absurd (omega arith)
front-two (a ∷ []) h k = absurd (omega arith)
front-two (a ∷ b ∷ bs) h k = rw (same-two a b (h 0) (h 1)) refl

-- what holds of a field that was read: its bit, its range, its bytes, and that bytes follow
pub record FieldBack (f : Field) (stands : Bool) (bs : List ℕ) (x : Front ℕ) : Type 0 where
  pub bit_kept : eqb x.value f.absent ≡ not stands
  pub fits : f.in_range x.value ≡ true
  pub same : encode_field f x.value ++ x.rest ≡ bs
  pub tail : Bytes x.rest

-- it holds of every field that is read, whether its bit stands or not
field-inverse : (f : Field) (stands : Bool) (bs : List ℕ) (x : Front ℕ) → f.in_range f.absent ≡ true
    → (f.width ≤ length bs → bytes_of f.width (big_endian (take f.width bs)) ++ drop f.width bs ≡ bs) → Bytes bs
    → field_if stands f bs ≡ given x → FieldBack f stands bs x
unfolding standing_field
field-inverse f false bs x a whole h e =
    rw (← given-same e)
    (record { bit_kept = eq-eqb f.absent f.absent refl; fits = a; same = rw (field-none f f.absent refl) refl; tail = h })
field-inverse f true bs x a whole h e =
    let v = big_endian (take f.width bs) in
    let good : Outcome (Front ℕ) = given (front v (drop f.width bs)) in
    let in-range = checked (f.in_range v) OutOfRange good in
    let p = checked-given (leb f.width (length bs)) BytesEnd (checked (not (eqb v f.absent)) AbsentValue in-range) x e in
    let q = checked-given (not (eqb v f.absent)) AbsentValue in-range x p.after in
    let r = checked-given (f.in_range v) OutOfRange good x q.after in
    let n = not-true (eqb v f.absent) q.passes in
    rw (← given-same r.after)
    (record {
      bit_kept = n;
      fits = r.passes;
      same = rw (field-some f v (eqb-false v f.absent n)) (whole (leb-true f.width (length bs) p.passes));
      tail = bytes_drop f.width bs h;
    })

-- what holds of a place that was read: its step, and that it is not above the range
pub record PlaceBack (first : Bool) (z : ℤ) (map : ℕ) (bs : List ℕ) (x : Front ℤ) : Type 0 where
  pub step : Front ℕ
  pub step_back : FieldBack step_field (bit_stands 0 map) bs step
  pub near : le_z (place_after first z step.value) most_place ≡ true
  pub is : x ≡ front (place_after first z step.value) step.rest

-- it holds of every place that is read
pub place-inverse : (first : Bool) (z : ℤ) (map : ℕ) (bs : List ℕ) (x : Front ℤ) → Bytes bs → decode_place first z map bs ≡ given x
    → PlaceBack first z map bs x
unfolding decode_place
place-inverse first z map bs x h e =
    let after : Front ℕ → Front ℤ = λ step. front (place_after first z step.value) step.rest in
    let p = then-given (decode_field step_field map bs)
    (λ step. checked (le_z (place_after first z step.value) most_place) OutOfRange (given (after step))) x e in
    let q = checked-given (le_z (place_after first z p.first.value) most_place) OutOfRange (given (after p.first)) x p.after in
    record {
      step = p.first;
      step_back = field-inverse step_field (bit_stands 0 map) bs p.first refl (front-two bs h) h p.is;
      near = q.passes;
      is = sym (given-same q.after);
    }

-- what holds of a length and a weight that were read
pub record LabelBack (place : ℤ) (map : ℕ) (bs : List ℕ) (x : Front SignedMark) : Type 0 where
  pub len : Front ℕ
  pub wt : Front ℕ
  pub length_back : FieldBack length_field (bit_stands 1 map) bs len
  pub weight-back : FieldBack weight_field (bit_stands 2 map) len.rest wt
  pub is : x ≡ front (mark_of place len.value wt.value) wt.rest

-- it holds of every length and weight that are read
pub label-inverse : (place : ℤ) (map : ℕ) (bs : List ℕ) (x : Front SignedMark) → Bytes bs → decode_label place map bs ≡ given x
    → LabelBack place map bs x
unfolding decode_label
label-inverse place map bs x h e =
    let made : ℕ → Front ℕ → Outcome (Front SignedMark) = λ l wt. given (front (mark_of place l wt.value) wt.rest) in
    let p = then-given (decode_field length_field map bs) (λ len. and_then (decode_field weight_field map len.rest) (made len.value)) x e in
    let q = then-given (decode_field weight_field map p.first.rest) (made p.first.value) x p.after in
    let l = field-inverse length_field (bit_stands 1 map) bs p.first refl (front-one bs h) h p.is in
    record {
      len = p.first;
      wt = q.first;
      length_back = l;
      weight-back = field-inverse weight_field (bit_stands 2 map) p.first.rest q.first refl (front-two p.first.rest l.tail) l.tail q.is;
      is = sym (given-same q.after);
    }
