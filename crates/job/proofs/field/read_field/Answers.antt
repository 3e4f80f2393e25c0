-- `job::field::read_field` meets its contract: each return stands at the first check that is not passed.
use mathlib.Core.Path.{◌≡◌, sym, ◌∙◌, ap}
use native.Mathlib.Omega.{arith}
use Prim.Native.Nat.{◌≤◌}
use lib.ListN.{length, take}
use Rattle.job.specs.Number.{big_endian}
use Rattle.job.specs.inner.Step.{row_of}
use Rattle.job.proofs.FieldChecks.{field-ends, field-absent, field_out, field-good}
use Rattle.job.proofs.field.read_field.Goals as goal

pub returns-in_default : goal.returns-in_default
returns-in_default c =
    rw (← c.stands_in.ensures, c.if-not-stands_in.false)
    (sym (field-ends (row_of c.args.field) c.args.bytes.now (omega (arith, c.width.ensures, c.in_default.ensures.cases))))

pub returns-then-value-absent : goal.returns-then-value-absent
returns-then-value-absent c =
    let f = row_of c.args.field in
    let bytes = c.args.bytes.now in
    let v = c.number_of-value.result in
    let inside : f.width ≤ length bytes = omega (arith, c.width.ensures, c.in-Some.ensures.cases.0) in
    let value : v ≡ big_endian (take f.width bytes) = c.number_of-value.ensures ∙ rw (← c.width.ensures) (ap big_endian c.in-Some.ensures.cases.1) in
    rw (← c.stands_in.ensures, c.if-not-stands_in.false) (sym (field-absent f bytes v value inside (omega arith)))

pub returns-then-not-in_range : goal.returns-then-not-in_range
returns-then-not-in_range c =
    let f = row_of c.args.field in
    let bytes = c.args.bytes.now in
    let v = c.number_of-value.result in
    let inside : f.width ≤ length bytes = omega (arith, c.width.ensures, c.in-Some.ensures.cases.0) in
    let value : v ≡ big_endian (take f.width bytes) = c.number_of-value.ensures ∙ rw (← c.width.ensures) (ap big_endian c.in-Some.ensures.cases.1) in
    rw (← c.stands_in.ensures, c.if-not-stands_in.false)
    (sym (field_out f bytes v value inside (λ same. omega arith) (sym c.in_range.ensures ∙ c.if-not-in_range.true)))

pub returns : goal.returns
returns c =
    let f = row_of c.args.field in
    let bytes = c.args.bytes.now in
    let v = c.number_of-value.result in
    let inside : f.width ≤ length bytes = omega (arith, c.width.ensures, c.in-Some.ensures.cases.0) in
    let value : v ≡ big_endian (take f.width bytes) = c.number_of-value.ensures ∙ rw (← c.width.ensures) (ap big_endian c.in-Some.ensures.cases.1) in
    rw (← c.stands_in.ensures, c.if-not-stands_in.false, c.in-Some.ensures.cases.2, c.width.ensures)
    (sym (field-good f bytes v value inside (λ same. omega arith) (sym c.in_range.ensures ∙ c.if-not-in_range.false)))
