-- `font::texts::fill` meets its contract: the lengths written so far and those that are left are the lengths of all texts.
use mathlib.Core.Path.{ap, ◌∙◌}
use native.Mathlib.Omega.{arith}
use Rattle.font.specs.Text.{text_width}
use Rattle.font.proofs.Going.{next-within, next_small, filling-on, filling-ends}
use Rattle.font.proofs.texts.fill.Goals as goal

pub split_at-requires : goal.split_at-requires
split_at-requires c = next-within _ _ _ c.loop-i.invariant.left c.loop-i-test.true

pub overflow_cast-lengths : goal.overflow_cast-lengths
overflow_cast-lengths c =
    let width_is = c.width.ensures ∙ ap text_width c.split_at.ensures.front in
    let small = next_small _ _ _ _ _ _ c.loop-i.invariant c.loop-i-test.true in
    omega (arith, width_is, small)

pub loop-i-preserved : goal.loop-i-preserved
loop-i-preserved c =
    let width_is = c.width.ensures ∙ ap text_width c.split_at.ensures.front in
    rw c.split_at.ensures.back (filling-on _ _ _ _ _ _ c.loop-i.invariant c.loop-i-test.true width_is (omega arith))

pub returns : goal.returns
returns c = filling-ends _ _ _ _ _ _ c.loop-i.invariant (omega arith) (omega arith)
