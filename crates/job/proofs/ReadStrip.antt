-- What the contracts of the two calls leave a caller with. A read with number 0 has a strip: the job says it, the writer takes it, and the
-- used part of each list at exit is its list. A write with number 0 has a job. A call with another number has left the lent lists as they
-- were, with count or length 0. The number is 0 exactly where the definitions give a value, so it decides which of the two holds.
use mathlib.Core.Path.{◌≡◌, ◌∙◌}
use mathlib.Core.List.{List}
use Prim.Native.Nat.{ℕ, ◌≤◌}
use native.Mathlib.Omega.{arith}
use lib.ListN.{length, take}
use Rattle.geometry.specs.Strip.{Strip, strip, first_marks, most_marks}
use Rattle.geometry.specs.declared.refusal.Refusal.{Refusal}
use Rattle.geometry.specs.Refusal.{accepted, refusal_number}
use Rattle.geometry.specs.Entry.{entry}
use Rattle.geometry.specs.Pass.{written}
use Rattle.geometry.proofs.Accepted.{entry-accepted}
use Rattle.geometry.proofs.Lent.{same-three, used-is, used-within}
use Rattle.job.specs.Number.{Bytes}
use Rattle.job.specs.Outcome.{given, refusal}
use Rattle.job.specs.Encode.{job_for}
use Rattle.job.specs.Calls.{Read, Written, ReadContract, WriteContract, shortest, read_into}
use Rattle.job.proofs.Outcomes.{number-given, number-refused}
use Rattle.job.proofs.RoundTrips.{read-accepted}

-- a read that is accepted: the strip that was read, and the three lists at exit
pub record ReadStrip (job : List ℕ) (entry_lists exit : Strip) (r : Read) : Type 0 where
  pub found : Strip
  pub says : read_into entry_lists job ≡ given found
  pub takes : entry most_marks found ≡ accepted
  pub count-is : r.count ≡ length found.places
  pub places-are : exit.places ≡ written found.places entry_lists.places
  pub lengths-are : exit.lengths ≡ written found.lengths entry_lists.lengths
  pub weights-are : exit.weights ≡ written found.weights entry_lists.weights
  pub used : first_marks r.count exit ≡ found
  pub within : r.count ≤ shortest exit

-- from the contract of the reader, where the number is 0
pub read-strip : (job : List ℕ) (entry_lists exit : Strip) (r : Read) → Bytes job → ReadContract job entry_lists exit r → r.number ≡ 0
    → ReadStrip job entry_lists exit r
read-strip job entry_lists exit r bytes call zero =
    let g = number-given r.number (read_into entry_lists job) call.number_is zero in
    let s = g.value in
    let takes = read-accepted (shortest entry_lists) job s g.is bytes in
    let a = entry-accepted most_marks s takes in
    let count : r.count ≡ length s.places = rw g.is at call.count-is in
    let places : exit.places ≡ written s.places entry_lists.places = rw g.is at call.places-are in
    let lengths : exit.lengths ≡ written s.lengths entry_lists.lengths = rw g.is at call.lengths-are in
    let weights : exit.weights ≡ written s.weights entry_lists.weights = rw g.is at call.weights-are in
    let in-lengths = count ∙ a.same-lengths in
    let in-weights = count ∙ a.same-weights in
    let fits-places = used-within s.places entry_lists.places places count in
    let fits-lengths = used-within s.lengths entry_lists.lengths lengths in-lengths in
    let fits-weights = used-within s.weights entry_lists.weights weights in-weights in
    record {
      found = s;
      says = g.is;
      takes = takes;
      count-is = count;
      places-are = places;
      lengths-are = lengths;
      weights-are = weights;
      used = same-three strip
          (used-is s.places entry_lists.places places count)
          (used-is s.lengths entry_lists.lengths lengths in-lengths)
          (used-is s.weights entry_lists.weights weights in-weights);
      within = omega arith;
    }

-- a read that is refused: which refusal, and that nothing was changed
pub record ReadRefused (job : List ℕ) (entry_lists exit : Strip) (r : Read) : Type 0 where
  pub which : Refusal
  pub says : read_into entry_lists job ≡ refusal which
  pub number_is : r.number ≡ refusal_number which
  pub count-zero : r.count ≡ 0
  pub unchanged : exit ≡ entry_lists

-- from the contract of the reader, where the number is not 0
pub read-refused : (job : List ℕ) (entry_lists exit : Strip) (r : Read) → ReadContract job entry_lists exit r → (r.number ≡ 0 → ⊥)
    → ReadRefused job entry_lists exit r
read-refused job entry_lists exit r call nonzero =
    let q = number-refused r.number (read_into entry_lists job) call.number_is nonzero in
    let places : exit.places ≡ entry_lists.places = rw q.is at call.places-are in
    let lengths : exit.lengths ≡ entry_lists.lengths = rw q.is at call.lengths-are in
    let weights : exit.weights ≡ entry_lists.weights = rw q.is at call.weights-are in
    record {
      which = q.which;
      says = q.is;
      number_is = q.number;
      count-zero = rw q.is at call.count-is;
      unchanged = same-three strip places lengths weights;
    }

-- a write that is accepted: the job, and the output at exit
pub record WrittenJob (s : Strip) (entry_job exit : List ℕ) (r : Written) : Type 0 where
  pub job : List ℕ
  pub made : job_for (length entry_job) s ≡ given job
  pub length-is : r.length ≡ length job
  pub job_is : exit ≡ written job entry_job
  pub used : take r.length exit ≡ job
  pub within : r.length ≤ length exit

-- from the contract of the writer, where the number is 0
pub written-job : (s : Strip) (entry_job exit : List ℕ) (r : Written) → WriteContract s entry_job exit r → r.number ≡ 0
    → WrittenJob s entry_job exit r
written-job s entry_job exit r call zero =
    let g = number-given r.number (job_for (length entry_job) s) call.number_is zero in
    let count : r.length ≡ length g.value = rw g.is at call.length-is in
    let is : exit ≡ written g.value entry_job = rw g.is at call.job_is in
    record {
      job = g.value;
      made = g.is;
      length-is = count;
      job_is = is;
      used = used-is g.value entry_job is count;
      within = used-within g.value entry_job is count;
    }
