-- Bytes that are put one after the other: what was put and what is put behind it are together put at the first position, and a job keeps
-- its length.
use mathlib.Core.Path.{◌≡◌, refl, sym, ◌∙◌, ap}
use mathlib.Core.List.{List, [], ◌∷◌, ◌++◌}
use Prim.Native.Nat.{ℕ, ◌+◌}
use native.Mathlib.Omega.{arith}
use lib.ListN.{length, set, length-append}
use lib.Seq.{length-sets}
use Rattle.job.specs.inner.Put.{PutAt}
use Rattle.job.proofs.StoredMarks.{stores-append}

-- one byte, then some bytes and more behind them
pub put_byte : (old : List ℕ) (at v : ℕ) → PutAt old at (v ∷ []) (at + 1) (set old at v)
put_byte old at v = record { next-is = refl; job_is = refl }

pub put_two : (xs ys : List ℕ) {old mid new : List ℕ} {at next end : ℕ} → PutAt old at xs next mid → PutAt mid next ys end new
    → PutAt old at (xs ++ ys) end new
put_two xs ys {old} {mid} {new} {at} {next} {end} p q =
    record {
      next-is = q.next-is ∙ rw (p.next-is, length-append xs ys) (omega arith);
      job_is = q.job_is ∙ rw (p.job_is, p.next-is) (sym (stores-append xs ys old at));
    }

pub put-length : {old bs new : List ℕ} {at next : ℕ} → PutAt old at bs next new → length new ≡ length old
put-length {old} {bs} {new} {at} p = ap length p.job_is ∙ length-sets old at bs
