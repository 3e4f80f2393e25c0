-- Records that are all accepted give as many marks as there are records.
-- The first record gives the first mark, and the records after it, read from its place on, give the others; with no record left, no byte
-- and no mark is left. So by induction each of the three lists is as long as the count of records.
use mathlib.Core.Path.{◌≡◌, refl, sym, ap}
use mathlib.Core.Bool.{Bool, false}
use mathlib.Core.List.{List, [], ◌∷◌}
use Prim.Native.Nat.{ℕ, zero, suc, ◌≤◌}
use native.Mathlib.Omega.{arith}
use borrow.Author.Tests.{leb-true}
use lib.Dec.{leb}
use lib.IntN.{ℤ}
use lib.ListN.{length}
use Rattle.geometry.specs.Strip.{Strip}
use Rattle.geometry.specs.declared.refusal.Refusal.TheVariants.{BytesLeftOver}
use Rattle.job.specs.Outcome.{Outcome, given, refusal}
use Rattle.job.specs.Decode.{Front, SignedMark, decode_record, no_marks, cons_mark, with_mark, decode_records}
use Rattle.job.proofs.Outcomes.{never, given-same, checked-given, then-given}

-- n + 1 records that are accepted: the first of them, the others, and the strip they give together
pub record FirstRecord (n : ℕ) (first : Bool) (z : ℤ) (bs : List ℕ) (s : Strip) : Type 0 where
  pub front : Front SignedMark
  pub read : decode_record first z bs ≡ given front
  pub others : Strip
  pub rest : decode_records n false front.value.place front.rest ≡ given others
  pub whole : s ≡ cons_mark front.value others

-- a strip given with a mark in front: the others were given, and it is the mark and the others
pub with-given : (m : SignedMark) (o : Outcome Strip) (s : Strip) → with_mark m o ≡ given s
    → (others : Strip) × (o ≡ given others) × (s ≡ cons_mark m others)
with-given m (given others) s e = (others, refl, sym (given-same e))
with-given m (refusal r) s e = never r s e

-- records that are accepted have a first one and others, all accepted
pub first-record : (n : ℕ) (first : Bool) (z : ℤ) (bs : List ℕ) (s : Strip) → decode_records (suc n) first z bs ≡ given s
    → FirstRecord n first z bs s
unfolding decode_records
first-record n first z bs s e =
    let p = then-given (decode_record first z bs) (λ m. with_mark m.value (decode_records n false m.value.place m.rest)) s e in
    let q = with-given p.first.value (decode_records n false p.first.value.place p.first.rest) s p.after in
    record { front = p.first; read = p.is; others = q.0; rest = q.1; whole = q.2 }

-- no records are accepted only if no byte is left over, and they give no marks
pub no_record : (first : Bool) (z : ℤ) (bs : List ℕ) (s : Strip) → decode_records 0 first z bs ≡ given s → (bs ≡ []) × (s ≡ no_marks)
unfolding decode_records
no_record first z [] s e = (refl, sym (given-same e))
no_record first z (b ∷ bs) s e =
    let p = checked-given (leb (length (b ∷ bs)) 0) BytesLeftOver (given no_marks) s e in
    let h : suc (length bs) ≤ 0 = leb-true (suc (length bs)) 0 p.passes in
    absurd (omega arith)

-- a strip whose three lists have n elements each
pub record Count (n : ℕ) (s : Strip) : Type 0 where
  pub places_count : length s.places ≡ n
  pub lengths-count : length s.lengths ≡ n
  pub weights-count : length s.weights ≡ n

pub count-marks : (n : ℕ) (first : Bool) (z : ℤ) (bs : List ℕ) (s : Strip) → decode_records n first z bs ≡ given s → Count n s
count-marks zero first z bs s e =
    rw (no_record first z bs s e).1 (record { places_count = refl; lengths-count = refl; weights-count = refl })
count-marks (suc n) first z bs s e =
    let f = first-record n first z bs s e in
    let k = count-marks n false f.front.value.place f.front.rest f.others f.rest in
    rw f.whole
    (record { places_count = ap suc k.places_count; lengths-count = ap suc k.lengths-count; weights-count = ap suc k.weights-count })
