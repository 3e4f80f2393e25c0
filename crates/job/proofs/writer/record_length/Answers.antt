-- `job::writer::record_length` meets its contract: the map byte and the three fields.
use native.Mathlib.Omega.{arith}
use Rattle.job.proofs.RecordBytes.{record-size}
use Rattle.job.proofs.writer.record_length.Goals as goal

pub returns : goal.returns
returns c =
    let one = c.args.one in
    (omega (arith, record-size one.step one.length one.weight), omega arith)
