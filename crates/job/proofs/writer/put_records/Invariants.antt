-- `job::writer::put_records` meets its contract: what is put so far and the records to come are together the whole.
use Rattle.geometry.specs.Strip.{lists_of}
use Rattle.job.proofs.RecordsToWrite.{Putting}
use Rattle.job.proofs.writer.put_records.Given as goal

abbrev pub invariant-loop-i : goal.invariant-loop-i
invariant-loop-i l = Putting (lists_of l.marks.strip) l.i l.initial.job l.job l.at
