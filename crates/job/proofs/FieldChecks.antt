-- A field whose bit stands is judged by the first check that it does not pass: its bytes end, or it holds its absent value, or it is out
-- of range; else it is good.
use mathlib.Core.Path.{◌≡◌, refl}
use mathlib.Core.Bool.{Bool, true, false, not, ◌&&◌}
use mathlib.Core.List.{List}
use Prim.Native.Nat.{ℕ, ◌≤◌, ◌<◌}
use borrow.Author.Tests.{le-leb, lt-leb, eq-eqb, ne_eqb}
use lib.Dec.{leb, eqb}
use lib.ListN.{length, take, drop}
use native.Mathlib.Omega.{arith}
use Rattle.geometry.specs.Mark.{length_in_range_lem, most_length}
use Rattle.geometry.proofs.Split.{one-to}
use Rattle.geometry.specs.declared.refusal.Refusal.TheVariants.{BytesEnd, AbsentValue, OutOfRange}
use Rattle.job.specs.Number.{big_endian}
use Rattle.job.specs.Outcome.{given, refusal, checked}
use Rattle.job.specs.Format.{byte_width, absent_length, Field, length_field}
use Rattle.job.specs.Decode.{Front, front, standing_field, field_if}
use Rattle.job.proofs.Outcomes.{checked-given, given-same}

module _ (f : Field) (bs : List ℕ) where
  -- the bytes end inside it: refusal 1
  pub field-ends : length bs < f.width → standing_field f bs ≡ refusal BytesEnd
  unfolding standing_field
  field-ends h = rw (lt-leb f.width (length bs) h) refl

  module _ (v : ℕ) (e : v ≡ big_endian (take f.width bs)) (h : f.width ≤ length bs) where
    -- the value as it was read: refusal 3, refusal 4, or the field
    pub field-absent : v ≡ f.absent → standing_field f bs ≡ refusal AbsentValue
    unfolding standing_field
    field-absent a = rw (le-leb f.width (length bs) h, ← e, eq-eqb v f.absent a) refl

    pub field_out : (v ≡ f.absent → ⊥) → f.in_range v ≡ false → standing_field f bs ≡ refusal OutOfRange
    unfolding standing_field
    field_out n r = rw (le-leb f.width (length bs) h, ← e, ne_eqb v f.absent n, r) refl

    pub field-good : (v ≡ f.absent → ⊥) → f.in_range v ≡ true → standing_field f bs ≡ given (front v (drop f.width bs))
    unfolding standing_field
    field-good n r = rw (le-leb f.width (length bs) h, ← e, ne_eqb v f.absent n, r) refl

-- the test of a range that begins at 1
pub in-range : (v most : ℕ) → 1 ≤ v → v ≤ most → (leb 1 v && leb v most) ≡ true
in-range v most h k = rw (le-leb 1 v h, le-leb v most k) refl

-- a length that is given fits a byte
pub length-fits : (stands : Bool) (bs : List ℕ) (x : Front ℕ) → field_if stands length_field bs ≡ given x → x.value < 256
unfolding standing_field
length-fits true bs x e =
    let v = big_endian (take byte_width bs) in
    let good = given (front v (drop byte_width bs)) in
    let ranged = checked (length_in_range_lem v) OutOfRange good in
    let whole = checked-given (leb byte_width (length bs)) BytesEnd (checked (not (eqb v absent_length)) AbsentValue ranged) x e in
    let written = checked-given (not (eqb v absent_length)) AbsentValue ranged x whole.after in
    let r = checked-given (length_in_range_lem v) OutOfRange good x written.after in
    rw (← given-same r.after) (omega (arith, (one-to most_length v r.passes).1))
length-fits false bs x e = rw (← given-same e) (omega arith)
