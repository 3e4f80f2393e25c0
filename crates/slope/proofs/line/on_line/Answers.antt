-- `slope::line::on_line` meets its contract: the two products are those that the definition compares.
use mathlib.Core.Path.{sym, ◌∙◌}
use native.Mathlib.Omega.{arith}
use borrow.Author.Tests.{eqb-true, eq-eqb}
use Rattle.geometry.proofs.Split.{is-eqb}
use Rattle.slope.specs.inner.Marks.{point_at}
use Rattle.slope.proofs.FirstTwo.{on-line-by-steps}
use Rattle.slope.proofs.line.on_line.Goals as goal

pub returns : goal.returns
returns c =
    let at = point_at c.args.xs.now c.args.ys.now in
    is-eqb _ _ (omega (arith, eqb-true, eq-eqb))
    ∙ sym (on-line-by-steps (at 0) (at 1) (at c.args.k) c.from_first-across.result c.from_first-upwards.result c.from_first-second_across.result
    c.from_first-second_upwards.result c.from_first-across.ensures.is c.from_first-second_upwards.ensures.is c.from_first-upwards.ensures.is
    c.from_first-second_across.ensures.is)
