-- One turn over the records. With some records left, what they say is the mark of the record at hand in front of what the records after it
-- say, or the refusal of the record at hand. So the verdict on what is left stays the same from turn to turn.
use mathlib.Core.Path.{◌≡◌, refl}
use mathlib.Core.List.{List}
use Prim.Native.Nat.{ℕ, suc, ◌+◌, ◌-◌, ◌≤◌, ◌<◌}
use native.Mathlib.Omega.{arith}
use borrow.Author.Tests.{ne_eqb, le-leb, lt-leb}
use lib.Dec.{leb, eqb}
use lib.IntN.{ℤ}
use lib.ListN.{length}
use Rattle.geometry.specs.Strip.{Strip}
use Rattle.geometry.specs.declared.refusal.Refusal.{Refusal}
use Rattle.geometry.specs.declared.refusal.Refusal.TheVariants.{BytesLeftOver}
use Rattle.geometry.specs.Refusal.{accepted, after_check}
use Rattle.geometry.proofs.Split.{by_eqb}
use Rattle.job.specs.Outcome.{Outcome, given, refusal, checked, verdict_of}
use Rattle.job.specs.Decode.{SignedMark, front, decode_record, no_marks, with_mark, decode_records}

-- what is left at turn i, with the place of the mark before
abbrev pub left_at : ℕ → ℕ → ℤ → List ℕ → Outcome Strip
left_at count i z bs = decode_records (count - i) (eqb i 0) z bs

-- a mark in front changes no verdict
pub with-verdict : (m : SignedMark) (o : Outcome Strip) → verdict_of (with_mark m o) ≡ verdict_of o
with-verdict m (given s) = refl
with-verdict m (refusal r) = refl

module _ (count i : ℕ) (z : ℤ) (bs : List ℕ) where
  -- with no record left the bytes that are left decide
  pub records-over : count ≤ i → verdict_of (left_at count i z bs) ≡ after_check (eqb (length bs) 0) BytesLeftOver accepted
  unfolding decode_records
  records-over h =
      let none : count - i ≡ 0 = omega arith in
      rw none
      (by_eqb (length bs) 0 (λ t. verdict_of (checked (leb (length bs) 0) BytesLeftOver (given no_marks)) ≡ after_check t BytesLeftOver accepted)
      (λ e. rw (le-leb (length bs) 0 (omega arith)) refl)
      (λ n. rw (lt-leb (length bs) 0 (omega arith)) refl))

  module _ (more : i < count) where
    -- what is left is the record at hand and those after it
    one_more : count - i ≡ suc (count - (i + 1))
    one_more = omega arith

    -- a record that is refused decides for all that is left
    pub turn-refused : (r : Refusal) → decode_record (eqb i 0) z bs ≡ refusal r → left_at count i z bs ≡ refusal r
    unfolding decode_records
    turn-refused r e = rw (one_more, e) refl

    -- a record that is good leaves the records after it
    pub turn-next : (m : SignedMark) (rest : List ℕ) → decode_record (eqb i 0) z bs ≡ given (front m rest)
        → left_at count i z bs ≡ with_mark m (left_at count (i + 1) m.place rest)
    unfolding decode_records
    turn-next m rest e = rw (one_more, e, ne_eqb (i + 1) 0 (omega arith)) refl
