-- `font::texts::counts_add_up` meets its contract: the counts so far and what is left of the bytes are all bytes, so the counts add up
-- exactly if those that are left add up to what is left.
use mathlib.Core.Path.{sym}
use native.Mathlib.Omega.{arith}
use borrow.Author.Tests.{eq-eqb, ne_eqb, eqb-true}
use Rattle.geometry.specs.Lists.{sum_list}
use Rattle.geometry.proofs.Split.{is-eqb}
use Rattle.font.proofs.CutTexts.{sum-next, sum-ends}
use Rattle.font.proofs.texts.counts_add_up.Goals as goal

pub returns-then-left-count : goal.returns-then-left-count
returns-then-left-count c =
    let counts = c.args.counts.now in
    sym (ne_eqb (sum_list counts) c.args.bytes (omega (arith, sum-next counts c.loop-count.count-index (omega arith))))

pub loop-count-preserved : goal.loop-count-preserved
loop-count-preserved c = omega (arith, sum-next c.args.counts.now c.loop-count.count-index (omega arith))

pub returns : goal.returns
returns c =
    let a = c.args in
    is-eqb (sum_list a.counts.now) a.bytes (omega (arith, eqb-true, eq-eqb, sum-ends a.counts.now c.loop-count.count-index (omega arith)))
