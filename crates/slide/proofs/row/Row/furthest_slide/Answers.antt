-- The answer for the whole row is that for what is left of it.
use mathlib.Core.Path.{sym, ◌∙◌}
use native.Mathlib.Omega.{arith}
use Rattle.slide.specs.inner.Table.{cell_in}
use Rattle.slide.proofs.FurthestSlide.{furthest-found, furthest-next, furthest-none}
use Rattle.slide.proofs.row.Row.furthest_slide.Goals as goal

pub returns-then-reach-self : goal.returns-then-reach-self
returns-then-reach-self c =
    omega (arith, c.loop-d.invariant ∙ furthest-found (cell_in c.args.self.cells.now) c.args.reach c.loop-d.d (omega arith) (omega arith))

pub loop-d-preserved : goal.loop-d-preserved
loop-d-preserved c = c.loop-d.invariant ∙ furthest-next (cell_in c.args.self.cells.now) c.args.reach c.loop-d.d (omega arith) (omega arith)

pub returns : goal.returns
returns c = sym (c.loop-d.invariant ∙ furthest-none _ _ _ (omega arith))
