-- `logger::place` meets its contract: what is in range is placed, and of the rest what came decides.
use mathlib.Core.Path.{sym}
use Rattle.geometry.proofs.Dots.{fetched}
use Rattle.logger.proofs.Places.{in-range-reach}
use Rattle.logger.proofs.Contract.{placed-in-range, not-placed, first-failed, out-of-range}
use Rattle.logger.proofs.place.Goals as goal

pub floor-requires : goal.floor-requires
floor-requires c = in-range-reach c.in_dots-dots.result (sym c.if-in_range.ensures)

pub returns-then-in_range : goal.returns-then-in_range
returns-then-in_range c =
    rw (fetched c.floor.result c.floor.type_inv)
    (placed-in-range c.args.logged c.given-given.ensures c.given-given.type_inv c.in_dots-dots.ensures c.in_range.ensures c.if-in_range.true c.floor.ensures)

pub returns-in_err-check : goal.returns-in_err-check
returns-in_err-check c =
    not-placed c.args.logged _ _ c.from_residual.ensures.1
    (first-failed c.args.logged c.given-given.ensures c.given-given.type_inv c.in_dots-dots.ensures c.in_range.ensures c.in_err-check.ensures
    c.is_finite.ensures.value)

pub returns : goal.returns
returns c =
    out-of-range c.args.logged c.given-given.ensures c.given-given.type_inv c.in_dots-dots.ensures c.in_range.ensures c.if-in_range.false
    c.in_ok-check.ensures c.is_finite.ensures.value
