-- `job::writer::field_length` meets its contract.
use mathlib.Core.Path.{refl, sym, ◌∙◌}
use native.Mathlib.Omega.{arith}
use Rattle.job.specs.Encode.{encode_field}
use Rattle.job.specs.inner.Step.{row_of}
use Rattle.job.proofs.Numbers.{bytes-length}
use Rattle.job.proofs.writer.field_length.Goals as goal

pub returns-then-is_absent : goal.returns-then-is_absent
unfolding encode_field
returns-then-is_absent c = (rw (← c.is_absent.ensures, c.if-is_absent.true) refl, omega arith)

pub returns-else-is_absent : goal.returns-else-is_absent
unfolding encode_field
returns-else-is_absent c =
    (rw (← c.is_absent.ensures, c.if-is_absent.false) (c.width.ensures ∙ sym (bytes-length (row_of c.args.field).width c.args.value)), omega arith)
