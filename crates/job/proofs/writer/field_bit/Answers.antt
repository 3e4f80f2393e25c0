-- `job::writer::field_bit` meets its contract.
use mathlib.Core.Path.{refl}
use Prim.Native.Nat.{◌^◌, ◌≤◌}
use native.Mathlib.Omega.{arith}
use Rattle.job.specs.Encode.{encode_bit}
use Rattle.job.specs.inner.Step.{row_of}
use Rattle.job.specs.declared.field.Field.{Field}
use Rattle.job.specs.declared.field.Field.TheVariants.{Step, Length, Weight}
use Rattle.job.proofs.writer.field_bit.Goals as goal

-- no bit of a field is above bit 2
small : (f : Field) → 2 ^ (row_of f).bit ≤ 4
small Step = omega arith
small Length = omega arith
small Weight = omega arith

pub returns-then-is_absent : goal.returns-then-is_absent
unfolding encode_bit
returns-then-is_absent c = (rw (← c.is_absent.ensures, c.if-is_absent.true) refl, omega arith)

pub returns-else-is_absent : goal.returns-else-is_absent
unfolding encode_bit
returns-else-is_absent c = (rw (← c.is_absent.ensures, c.if-is_absent.false) c.bit.ensures, omega (arith, c.bit.ensures, small c.args.field))
