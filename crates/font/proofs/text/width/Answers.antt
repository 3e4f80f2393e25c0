-- `font::text::width` meets its contract: the sum so far and the width of what is left are the width of the text, which has so few bytes
-- that it fits 32 bits.
use native.Mathlib.Omega.{arith}
use Rattle.font.proofs.Widths.{text-between, width-next, width-ends}
use Rattle.font.proofs.text.width.Goals as goal

pub overflow_add-sum : goal.overflow_add-sum
overflow_add-sum c =
    let text = c.args.text.now in
    omega (arith, c.width_of-sum.ensures, width-next text c.loop-byte.byte-index (omega arith), text-between text, c.requires.few)

pub loop-byte-preserved : goal.loop-byte-preserved
loop-byte-preserved c = omega (arith, c.width_of-sum.ensures, width-next c.args.text.now c.loop-byte.byte-index (omega arith))

pub returns : goal.returns
returns c = omega (arith, width-ends c.args.text.now c.loop-byte.byte-index (omega arith))
