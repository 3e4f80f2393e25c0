-- `job::writer::put_records` meets its contract: what is put so far and the records to come are together the whole.
use native.Mathlib.Omega.{arith}
use Rattle.geometry.specs.Strip.{lists_of}
use Rattle.job.proofs.RecordsToWrite.{putting-next, putting-ends, own_room}
use Rattle.job.proofs.writer.put_records.Goals as goal

pub put_record-at-requires : goal.put_record-at-requires
put_record-at-requires c =
    let marks = lists_of c.args.marks.strip in
    own_room marks c.args.marks.good c.loop-i.i (omega arith) c.record_at.result c.record_at.ensures c.loop-i.invariant

pub loop-i-preserved : goal.loop-i-preserved
loop-i-preserved c =
    let marks = lists_of c.args.marks.strip in
    putting-next marks c.args.marks.good c.loop-i.i (omega arith) c.record_at.result c.record_at.ensures c.loop-i.invariant c.put_record-at.ensures

pub returns : goal.returns
returns c =
    let marks = lists_of c.args.marks.strip in
    putting-ends marks c.loop-i.i _ _ c.loop-i.at (omega arith) c.loop-i.invariant
