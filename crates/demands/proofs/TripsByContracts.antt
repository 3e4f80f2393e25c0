-- Both round trips, from the contracts of the two job calls. A job that was read with number 0 says a strip that stands in the used part
-- of the lent lists; the writer takes it and gives the same bytes, if they fit into the output. A job that was written with number 0
-- stands in the used part of the output; the reader finds the same strip in it, if the lent lists are long enough. Where the room is too
-- small the second call refuses 9.
use mathlib.Core.Path.{◌≡◌, refl}
use mathlib.Core.List.{List}
use Prim.Native.Nat.{ℕ, ◌≤◌, ◌<◌}
use native.Mathlib.Omega.{arith}
use lib.ListN.{length, take}
use Rattle.geometry.specs.Strip.{Strip, strip, first_marks}
use Rattle.geometry.specs.Refusal.{refusal_number}
use Rattle.geometry.specs.declared.refusal.Refusal.{Refusal}
use Rattle.geometry.specs.declared.refusal.Refusal.TheVariants.{ListTooShort}
use Rattle.geometry.proofs.Lent.{same-three}
use Rattle.job.specs.Number.{Bytes}
use Rattle.job.specs.Outcome.{given, refusal}
use Rattle.job.specs.Decode.{decode}
use Rattle.job.specs.Encode.{job_for}
use Rattle.job.specs.Calls.{Read, Written, shortest, read_into, ReadContract, WriteContract}
use borrow.Author.Tests.{lt-leb}
use Rattle.job.specs.Encode.{encode}
use Rattle.job.proofs.WriteContract.{job-too-long}
use Rattle.job.proofs.RoundTrips.{same-job, written-then-read, read-then-written, read-too-short}
use Rattle.job.proofs.ReadStrip.{ReadStrip, read-strip, WrittenJob, written-job}
use Rattle.demands.specs.Demands.{NotRead, StripRead, NotWritten, JobWritten}

-- what each call leaves, by what its job or its strip says
module _ (job : List ℕ) (lent left : Strip) (answer : Read) (call : ReadContract job lent left answer) where
  -- a job that is refused is not read, and one that says a strip is read as it
  pub not-read : (r : Refusal) → read_into lent job ≡ refusal r → NotRead (refusal_number r) lent left answer
  not-read r says =
      record {
        number_is = rw says at call.number_is;
        count-zero = rw says at call.count-is;
        unchanged = same-three strip (rw says at call.places-are) (rw says at call.lengths-are) (rw says at call.weights-are);
      }

  pub strip-read : (s : Strip) → read_into lent job ≡ given s → StripRead s lent left answer
  strip-read s says =
      record {
        number-zero = rw says at call.number_is;
        count-is = rw says at call.count-is;
        marks-written = same-three strip (rw says at call.places-are) (rw says at call.lengths-are) (rw says at call.weights-are);
      }

module _ (s : Strip) (lent left : List ℕ) (answer : Written) (call : WriteContract s lent left answer) where
  -- a strip that is refused is not written, and one that has a job is written as it
  pub not_written : (r : Refusal) → job_for (length lent) s ≡ refusal r → NotWritten (refusal_number r) lent left answer
  not_written r makes =
      record { number_is = rw makes at call.number_is; length-zero = rw makes at call.length-is; unchanged = rw makes at call.job_is }

  pub job-written : (job : List ℕ) → job_for (length lent) s ≡ given job → JobWritten job lent left answer
  job-written job makes =
      record { number-zero = rw makes at call.number_is; length-is = rw makes at call.length-is; job-written = rw makes at call.job_is }

-- a job that is read and written back; `said` is the strip that it says
module _ (job : List ℕ) (bytes : Bytes job) (lent left : Strip) (read : Read) (call : ReadContract job lent left read)
    (zero : read.number ≡ 0) (output copy : List ℕ) (made : Written)
    (write : WriteContract (first_marks read.count left) output copy made) where
  -- what the reader found
  abbrev said : ReadStrip job lent left read
  said = read-strip job lent left read bytes call zero

  -- the writer was given just that
  written_back : WriteContract said.found output copy made
  written_back = rw said.used at write

  -- the same bytes come out, or 9 if they do not fit
  pub job-back : length job ≤ length output → JobWritten job output copy made
  job-back room =
      job-written said.found output copy made written_back job
      (read-then-written (shortest lent) (length output) job said.found bytes said.says room)

  pub too-long-back : length output < length job → NotWritten (refusal_number ListTooShort) output copy made
  too-long-back short =
      let same = same-job (shortest lent) job said.found said.says bytes in
      let over = lt-leb (length (encode said.found)) (length output) (rw same short) in
      not_written said.found output copy made written_back ListTooShort
      (job-too-long (length output) said.found ListTooShort said.takes (rw over refl))

-- a strip that is written and read back; `wrote` is the job that it has
module _ (s : Strip) (output job : List ℕ) (made : Written) (call : WriteContract s output job made)
    (zero : made.number ≡ 0) (lent left : Strip) (read : Read)
    (reading : ReadContract (take made.length job) lent left read) where
  -- what the writer made
  abbrev wrote : WrittenJob s output job made
  wrote = written-job s output job made call zero

  -- the reader was given just that
  read_back : ReadContract wrote.job lent left read
  read_back = rw wrote.used at reading

  -- it says the strip again, wherever the lists are long enough
  says_back : (room : ℕ) → length s.places ≤ room → decode room wrote.job ≡ given s
  says_back room enough = written-then-read (length output) room s wrote.job wrote.made enough

  -- the same strip comes out, or 9 if it does not fit
  pub strip-back : length s.places ≤ shortest lent → StripRead s lent left read
  strip-back enough = strip-read wrote.job lent left read read_back s (says_back (shortest lent) enough)

  pub too-short-back : shortest lent < length s.places → NotRead (refusal_number ListTooShort) lent left read
  too-short-back short =
      let count = length s.places in
      not-read wrote.job lent left read read_back ListTooShort
      (read-too-short count (shortest lent) wrote.job s (says_back count (omega arith)) short)
