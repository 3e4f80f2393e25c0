-- Demand 2 seen of code, both round trips: a job that is accepted, read and written back has the same bytes; a strip that the writer
-- accepts, written and read back, has the same marks.
use Rattle.std.specs.Prelude.{◌≡◌, List, ℕ, ◌≤◌, ◌<◌, length}
use Rattle.geometry.specs.Strip.{Strip}
use Rattle.geometry.specs.Refusal.{refusal_number}
use Rattle.geometry.specs.declared.refusal.Refusal.TheVariants.{ListTooShort}
use Rattle.job.specs.Calls.{shortest, Read, Written, read_answer, written_answer, ReadContract, WriteContract}
use Rattle.demands.specs.Demands.{NotRead, StripRead, NotWritten, JobWritten}
use Rattle.demands.specs.declared.trips.Trip as handed

-- What a trip hands back of its two calls: the numbers of the reader and the writer, the count of marks read and the length of the job
-- written. Where the first call refuses, the second is not made and has its number.
pub record Trip : Type 0 where
  pub read : ℕ
  pub written : ℕ
  pub count : ℕ
  pub length : ℕ

abbrev pub read_of : Trip → Read
read_of r = record { number = r.read; count = r.count }

abbrev pub written_of : Trip → Written
written_of r = record { number = r.written; length = r.length }

abbrev pub trip_of : handed.Trip → Trip
trip_of t =
    let read = read_answer t.read in
    let made = written_answer t.written in
    record { read = read.number; written = made.number; count = read.count; length = made.length }

-- The contract: the job, the three lent lists and the copy at entry and at exit, and what is handed back.
pub record JobThereAndBack (job : List ℕ) (entry exit : Strip) (output copy : List ℕ) (r : Trip) : Type 0 where
  -- the reader ran on the job
  pub read-ran : ReadContract job entry exit (read_of r)
  -- where it refuses, nothing is written and its number is handed on
  pub where-refused : (r.read ≡ 0 → ⊥) → NotWritten r.read output copy (written_of r)
  -- "9 .. the job longer than the output"
  pub where-too-long : r.read ≡ 0 → length output < length job → NotWritten (refusal_number ListTooShort) output copy (written_of r)
  -- the same bytes
  pub there_and_back : r.read ≡ 0 → length job ≤ length output → JobWritten job output copy (written_of r)

-- The contract: the strip, the output and the three lent lists at entry and at exit, and what is handed back.
pub record MarksThereAndBack (s : Strip) (output job : List ℕ) (entry exit : Strip) (r : Trip) : Type 0 where
  -- the writer ran on the strip
  pub write-ran : WriteContract s output job (written_of r)
  -- where it refuses, nothing is read and its number is handed on
  pub where-refused : (r.written ≡ 0 → ⊥) → NotRead r.written entry exit (read_of r)
  -- "9 a lent list shorter than the count"
  pub where-too-short : r.written ≡ 0 → shortest entry < length s.places → NotRead (refusal_number ListTooShort) entry exit (read_of r)
  -- the same marks
  pub there_and_back : r.written ≡ 0 → length s.places ≤ shortest entry → StripRead s entry exit (read_of r)
