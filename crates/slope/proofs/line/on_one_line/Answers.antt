-- `slope::line::on_one_line` meets its contract: each turn tests one mark more, and behind the last none is left.
use native.Mathlib.Omega.{arith}
use Rattle.slope.proofs.Tested.{tested-more, tested-all}
use Rattle.slope.proofs.line.on_one_line.Goals as goal

pub loop-k-preserved : goal.loop-k-preserved
loop-k-preserved c =
    tested-more c.args.xs.now c.args.ys.now c.requires c.loop-k.k c.loop-k.good c.on_line-good.result (omega arith)
    c.loop-k.invariant c.on_line-good.ensures

pub returns : goal.returns
returns c = tested-all c.args.xs.now c.args.ys.now c.requires c.loop-k.k c.loop-k.good (omega arith) c.loop-k.invariant
