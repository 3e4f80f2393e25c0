-- `job::reader::check_records` meets its contract: the verdict on all records is that on the records that are left.
use mathlib.Core.Path.{◌≡◌}
use Rattle.job.specs.Outcome.{verdict_of}
use Rattle.job.specs.inner.Step.{marks_behind}
use Rattle.job.proofs.RecordsLeft.{left_at}
use Rattle.job.proofs.reader.check_records.Given as goal

abbrev pub invariant-loop-i : goal.invariant-loop-i
invariant-loop-i l = verdict_of (marks_behind l.fn.header l.fn.records) ≡ verdict_of (left_at l.fn.header.count l.i l.place l.rest)
