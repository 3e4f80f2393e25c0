-- `logger::floor::floor` meets its contract: by the exponent, and by the sign.
use mathlib.Core.Bool.{true, false}
use native.Mathlib.Omega.{arith}
use Rattle.std.specs.Bool.{passes}
use Rattle.std.proofs.lemmas.Bool.{le-leb, lt-leb}
use Rattle.logger.specs.Product.{sign_bit}
use Rattle.logger.proofs.Reach.{reach-no-nan, exponent-below-142}
use Rattle.logger.proofs.FloorByBits.{below-zero, not-below-zero}
use Rattle.logger.proofs.CutCode.{fits-16, floor-16}
use Rattle.logger.proofs.floor.floor.Goals as goal

pub float_to_bits-bits : goal.float_to_bits-bits
float_to_bits-bits c = reach-no-nan c.args.value c.requires

pub returns-then-below_zero : goal.returns-then-below_zero
returns-then-below_zero c =
    let held = passes _ c.well_formed.0.1 in
    below-zero c.args.value held c.requires (omega (arith, c.if-exponent-lt-EXPONENT_OF_1.true)) (omega (arith, c.if-below_zero.true))

pub returns-else-below_zero : goal.returns-else-below_zero
returns-else-below_zero c =
    let held = passes _ c.well_formed.0.1 in
    not-below-zero c.args.value held c.requires (omega (arith, c.if-exponent-lt-EXPONENT_OF_1.true)) (omega (arith, c.if-below_zero.false))

pub overflow_sub-behind : goal.overflow_sub-behind
overflow_sub-behind c = omega (arith, exponent-below-142 c.args.value (passes _ c.well_formed.0.1) c.requires)

pub overflow_cast-result-then-bits-lt-SIGN : goal.overflow_cast-result-then-bits-lt-SIGN
overflow_cast-result-then-bits-lt-SIGN c =
    let held = passes _ c.well_formed.0.1 in
    fits-16 c.args.value held c.requires (omega (arith, c.if-exponent-lt-EXPONENT_OF_1.false)) false

pub overflow_cast-result-else-bits-lt-SIGN-2 : goal.overflow_cast-result-else-bits-lt-SIGN-2
overflow_cast-result-else-bits-lt-SIGN-2 c =
    let held = passes _ c.well_formed.0.1 in
    fits-16 c.args.value held c.requires (omega (arith, c.if-exponent-lt-EXPONENT_OF_1.false)) true

pub returns-then-bits-lt-SIGN : goal.returns-then-bits-lt-SIGN
returns-then-bits-lt-SIGN c =
    let held = passes _ c.well_formed.0.1 in
    floor-16 c.args.value held c.requires (omega (arith, c.if-exponent-lt-EXPONENT_OF_1.false)) false
    (lt-leb sign_bit _ c.if-bits-lt-SIGN.true)

pub returns-else-bits-lt-SIGN : goal.returns-else-bits-lt-SIGN
returns-else-bits-lt-SIGN c =
    let held = passes _ c.well_formed.0.1 in
    floor-16 c.args.value held c.requires (omega (arith, c.if-exponent-lt-EXPONENT_OF_1.false)) true
    (le-leb sign_bit _ c.if-bits-lt-SIGN.false)
