-- No job is longer than `job_most`: the header has 4 bytes, the first record no step and so at most 4, and every other record at most 6.
-- So the job of n marks has at most 4 + 4 + 6 (n − 1) bytes, and 4 if there are none; 24,002 for 4,000 marks.
use mathlib.Core.Path.{◌≡◌, refl}
use mathlib.Core.Bool.{Bool, true, false}
use mathlib.Core.List.{List, [], ◌∷◌}
use Prim.Native.Nat.{ℕ, zero, suc, ◌+◌, ◌*◌, ◌≤◌}
use native.Mathlib.Omega.{arith}
use lib.IntN.{ℤ}
use lib.ListN.{length, length-append}
use Rattle.geometry.specs.Strip.{Strip, most_marks}
use Rattle.geometry.specs.Refusal.{accepted}
use Rattle.geometry.specs.Entry.{entry}
use Rattle.geometry.proofs.Accepted.{entry-accepted}
use Rattle.job.specs.Format.{header_length, absent_step, record_most, job_most_of, job_most}
use Rattle.job.specs.Encode.{encode_record, step_to, encode_records, first_place_lem, encode}
use Rattle.job.proofs.RecordBytes.{record-most, first-record-most}
use Rattle.job.proofs.RecordsToWrite.{encode-size}

pub job-most-is : job_most ≡ 24002
job-most-is = refl

-- at most six bytes for each record
records-most : (first : Bool) (z : ℤ) (zs : List ℤ) (ls ws : List ℕ) → length (encode_records first z zs ls ws) ≤ record_most * length zs
unfolding encode_records
records-most first z [] ls ws = omega arith
records-most first z (y ∷ zs) [] ws = omega arith
records-most first z (y ∷ zs) (l ∷ ls) [] = omega arith
records-most first z (y ∷ zs) (l ∷ ls) (w ∷ ws) =
    let own = encode_record (step_to first z y) l w in
    omega (arith, length-append own (encode_records false y zs ls ws), record-most (step_to first z y) l w, records-most false y zs ls ws)

-- the header and all records, the first of which has no step
all_most : (z : ℤ) (zs : List ℤ) (ls ws : List ℕ) → header_length + length (encode_records true z zs ls ws) ≤ job_most_of (length zs)
unfolding encode_records
all_most z [] ls ws = omega arith
all_most z (y ∷ zs) [] ws = omega arith
all_most z (y ∷ zs) (l ∷ ls) [] = omega arith
all_most z (y ∷ zs) (l ∷ ls) (w ∷ ws) =
    let own = encode_record absent_step l w in
    omega (arith, length-append own (encode_records false y zs ls ws), first-record-most l w, records-most false y zs ls ws)

-- by the count of marks
pub job-at-most : (s : Strip) → length (encode s) ≤ job_most_of (length s.places)
job-at-most s = rw (encode-size s) (all_most (first_place_lem s.places) s.places s.lengths s.weights)

-- more marks have no shorter longest job
most-grows : (n m : ℕ) → n ≤ m → job_most_of n ≤ job_most_of m
most-grows zero zero h = omega arith
most-grows zero (suc m) h = omega arith
most-grows (suc n) zero h = absurd (omega arith)
most-grows (suc n) (suc m) h = omega arith

-- of every strip that the writer takes
pub job-in-most : (s : Strip) → entry most_marks s ≡ accepted → length (encode s) ≤ job_most
job-in-most s good =
    let few = (entry-accepted most_marks s good).few in
    omega (arith, job-at-most s, most-grows (length s.places) most_marks few)
