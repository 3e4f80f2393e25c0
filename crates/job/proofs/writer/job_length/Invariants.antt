-- `job::writer::job_length` meets its contract: the length so far and that of the records to come are together the whole.
use mathlib.Core.Path.{◌≡◌}
use Prim.Native.Nat.{ℕ, ◌+◌, ◌*◌, ◌≤◌}
use lib.ListN.{length}
use Rattle.geometry.specs.Strip.{Strip, lists_of}
use Rattle.job.specs.Format.{header_length, record_most}
use Rattle.job.specs.Encode.{records_of}
use Rattle.job.proofs.RecordsToWrite.{records_from}
use Rattle.job.proofs.writer.job_length.Given as goal

pub record Counted (s : Strip) (total i : ℕ) : Type 0 where
  pub small : total ≤ header_length + record_most * i
  pub together : header_length + length (records_of s) ≡ total + length (records_from s i)

abbrev pub invariant-loop-i : goal.invariant-loop-i
invariant-loop-i l = Counted (lists_of l.marks.strip) l.total l.i
