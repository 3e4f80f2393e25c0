-- `job::field::number_of` meets its contract.
use mathlib.Core.Path.{sym, ◌∙◌}
use native.Mathlib.Omega.{arith}
use Rattle.job.proofs.Numbers.{number-of-one, number-of-two}
use Rattle.job.proofs.field.number_of.Goals as goal

pub returns-then-bytes-eq1 : goal.returns-then-bytes-eq1
returns-then-bytes-eq1 c = sym (number-of-one c.args.bytes.now (omega arith))

pub returns : goal.returns
returns c = c.from_be_bytes.ensures ∙ sym (number-of-two c.args.bytes.now (omega arith))
