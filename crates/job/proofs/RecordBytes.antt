-- A record as it is written: its map byte, and the bytes of each field that does not have its absent value. So it has at most a byte and
-- the width of each field, and the first record, which has no step, two bytes less.
use mathlib.Core.Path.{◌≡◌, refl, sym, ◌∙◌}
use mathlib.Core.Bool.{cond}
use mathlib.Core.List.{List, [], ◌∷◌, ◌++◌, append_assoc}
use Prim.Native.Nat.{ℕ, ◌+◌, ◌≤◌}
use native.Mathlib.Omega.{arith}
use borrow.Author.Tests.{eq-eqb, ne_eqb}
use lib.ListN.{length, length-append}
use Rattle.geometry.proofs.Split.{by_eqb}
use Rattle.job.specs.Number.{bytes_of}
use Rattle.job.specs.Format.{absent_step, Field, step_field, length_field, weight_field, first_record_most, record_most}
use Rattle.job.specs.Encode.{encode_field, encode_map, encode_record}
use Rattle.job.proofs.Numbers.{bytes-length}

-- a field is left out if it has its absent value
pub field-none : (f : Field) (v : ℕ) → v ≡ f.absent → encode_field f v ≡ []
unfolding encode_field
field-none f v e = rw (eq-eqb v f.absent e) refl

pub field-some : (f : Field) (v : ℕ) → (v ≡ f.absent → ⊥) → encode_field f v ≡ bytes_of f.width v
unfolding encode_field
field-some f v n = rw (ne_eqb v f.absent n) refl

pub field-most : (f : Field) (v : ℕ) → length (encode_field f v) ≤ f.width
unfolding encode_field
field-most f v =
    by_eqb v f.absent (λ t. length (cond t [] (bytes_of f.width v)) ≤ f.width) (λ e. omega arith) (λ n. omega (arith, bytes-length f.width v))

-- the three fields
abbrev pub step_bytes : ℕ → List ℕ
step_bytes step = encode_field step_field step

abbrev pub length_bytes : ℕ → List ℕ
length_bytes l = encode_field length_field l

abbrev pub weight_bytes : ℕ → List ℕ
weight_bytes w = encode_field weight_field w

module _ (step l w : ℕ) where
  -- the bytes of a record, by the fields as they are passed on
  record-bytes : encode_record step l w ≡ encode_map step l w ∷ (step_bytes step ++ (length_bytes l ++ weight_bytes w))
  unfolding encode_record encode_field
  record-bytes = refl

  -- in the order in which they are put
  pub record-joined : ((encode_map step l w ∷ step_bytes step) ++ length_bytes l) ++ weight_bytes w ≡ encode_record step l w
  record-joined = append_assoc (encode_map step l w ∷ step_bytes step) (length_bytes l) (weight_bytes w) ∙ sym record-bytes

  -- and its length, at most a byte and the width of each field
  pub record-size : length (encode_record step l w) ≡ 1 + length (step_bytes step) + length (length_bytes l) + length (weight_bytes w)
  record-size =
      rw (record-bytes, length-append (step_bytes step) (length_bytes l ++ weight_bytes w), length-append (length_bytes l) (weight_bytes w)) (omega arith)

  pub record-most : length (encode_record step l w) ≤ record_most
  record-most =
      omega (
        arith,
        record-size,
        field-most step_field step,
        field-most length_field l,
        field-most weight_field w,
      )

-- the first record has no step
pub first-record-most : (l w : ℕ) → length (encode_record absent_step l w) ≤ first_record_most
first-record-most l w =
    let no_step : length (step_bytes absent_step) ≡ 0 = rw (field-none step_field absent_step refl) refl in
    omega (arith, record-size absent_step l w, field-most length_field l, field-most weight_field w)
