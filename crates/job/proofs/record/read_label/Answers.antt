-- `job::record::read_label` meets its contract: a length that was read fits a byte.
use mathlib.Core.Path.{sym}
use native.Mathlib.Omega.{arith}
use Rattle.job.proofs.FieldChecks.{length-fits}
use Rattle.job.proofs.record.read_label.Goals as goal

pub overflow_cast-result : goal.overflow_cast-result
overflow_cast-result c = omega (arith, length-fits _ c.args.bytes.now _ (sym c.in_ok-length.ensures))
