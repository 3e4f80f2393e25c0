-- Filling the lists from records that are all accepted leaves the marks of these records.
-- The record at hand has the first mark of those that are left, so storing it keeps what was stored and what is left together the whole;
-- when no record is left no mark is, and the lists hold the whole.
use mathlib.Core.Path.{◌≡◌, refl, sym, ◌∙◌, ap}
use mathlib.Core.Bool.{Bool}
use mathlib.Core.List.{List}
use Prim.Native.Nat.{ℕ, ◌-◌, ◌≤◌}
use native.Mathlib.Omega.{arith}
use lib.Dec.{leb}
use lib.IntN.{ℤ}
use lib.ListN.{length}
use Rattle.geometry.specs.Strip.{Strip}
use Rattle.geometry.specs.declared.refusal.Refusal.TheVariants.{BytesLeftOver}
use Rattle.geometry.specs.Refusal.{accepted}
use Rattle.geometry.proofs.Split.{by_bool}
use Rattle.job.specs.Outcome.{Outcome, given, refusal, checked, verdict_of}
use Rattle.job.specs.Decode.{SignedMark, no_marks, cons_mark, with_mark, decode_records}
use Rattle.job.specs.Calls.{shortest}
use Rattle.job.specs.inner.Step.{Filled}
use Rattle.job.proofs.Outcomes.{accepted-given}
use Rattle.job.proofs.RecordsLeft.{left_at, with-verdict}
use Rattle.job.proofs.AllRecords.{Count, count-marks}
use Rattle.job.proofs.StoredMarks.{StoringMarks, storing-ends}

-- the marks of an outcome, none at a refusal
abbrev pub marks_in : Outcome Strip → Strip
marks_in (given s) = s
marks_in (refusal r) = no_marks

-- a mark in front of records that are accepted is the first of their marks
with-marks : (m : SignedMark) (o : Outcome Strip) → verdict_of o ≡ accepted → marks_in (with_mark m o) ≡ cons_mark m (marks_in o)
with-marks m (given s) e = refl
with-marks m (refusal r) e = let z : ◌≡◌ {A = ℕ} 0 1 = cc in absurd (omega arith)

module _ (m : SignedMark) (left others : Outcome Strip) (next : left ≡ with_mark m others) (acc : verdict_of left ≡ accepted) where
  -- after a good record the rest is accepted, and its mark is the first of those left
  pub next-accepted : verdict_of others ≡ accepted
  next-accepted = sym (with-verdict m others) ∙ sym (ap verdict_of next) ∙ acc

  pub next-mark : marks_in left ≡ cons_mark m (marks_in others)
  next-mark = ap marks_in next ∙ with-marks m others next-accepted

-- with no record left no mark is left
no-marks : (first : Bool) (z : ℤ) (bs : List ℕ) → marks_in (decode_records 0 first z bs) ≡ no_marks
unfolding decode_records
no-marks first z bs =
    by_bool (leb (length bs) 0) (λ t. marks_in (checked t BytesLeftOver (given no_marks)) ≡ no_marks) (λ _. refl) (λ _. refl)

pub none_left : (count i : ℕ) (z : ℤ) (bs : List ℕ) → count ≤ i → marks_in (left_at count i z bs) ≡ no_marks
none_left count i z bs h =
    let none : count - i ≡ 0 = omega arith in
    rw none (no-marks _ _ _)

-- when none is left the lists are filled
pub filled-all : (count : ℕ) (first : Bool) (z : ℤ) (bs : List ℕ) (left : Strip) (i : ℕ) (old cur : Strip)
    → verdict_of (decode_records count first z bs) ≡ accepted → left ≡ no_marks → count ≤ shortest old
    → StoringMarks (marks_in (decode_records count first z bs)) left i old cur → Filled (decode_records count first z bs) old cur
filled-all count first z bs left i old cur acc none room s =
    let g = accepted-given (decode_records count first z bs) acc in
    let k : Count count g.value = count-marks count first z bs g.value g.is in
    rw g.is (storing-ends g.value left i old cur none (omega arith) (omega arith) (omega arith) (rw g.is at s))
