-- `job::writer::job_length` meets its contract: the length so far and that of the records to come are together the whole.
use mathlib.Core.Path.{◌≡◌, refl}
use native.Mathlib.Omega.{arith}
use lib.ListN.{length}
use Rattle.geometry.specs.Strip.{lists_of, most_marks}
use Rattle.geometry.proofs.Accepted.{entry-accepted}
use Rattle.job.proofs.RecordsToWrite.{records_from, size-next, none_from, encode-size}
use Rattle.job.proofs.writer.job_length.Goals as goal

pub overflow_add-total : goal.overflow_add-total
overflow_add-total c =
    let marks = lists_of c.args.marks.strip in
    omega (arith, (entry-accepted most_marks marks c.args.marks.good).few)

pub loop-i-preserved : goal.loop-i-preserved
loop-i-preserved c =
    let marks = lists_of c.args.marks.strip in
    let l = c.loop-i in
    let n = c.record_length-total in
    record {
      small = omega arith;
      together = size-next marks c.args.marks.good l.i (omega arith) c.record_at.result c.record_at.ensures l.total
          n.result l.invariant.together n.ensures.0;
    }

pub returns : goal.returns
returns c =
    let marks = lists_of c.args.marks.strip in
    let l = c.loop-i in
    let none : length (records_from marks l.i) ≡ 0 = rw (none_from marks l.i (omega arith)) refl in
    omega (arith, encode-size marks, l.invariant.together)
