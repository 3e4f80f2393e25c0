-- `listing::text::put_each_spaced` meets its contract: after i turns the first i numbers stand behind the text.
use mathlib.Core.Path.{ap}
use native.Mathlib.Omega.{arith}
use lib.ListN.{length, take, length-take, length-append}
use Rattle.listing.specs.Text.{spaced}
use Rattle.listing.proofs.Lengths.{spaced-most}
use Rattle.listing.proofs.Spacing.{each-long, put-none, put-more}
use Rattle.listing.proofs.text.put_each_spaced.Goals as goal

pub loop-number-init : goal.loop-number-init
loop-number-init g c = (c.requires, put-none g.T.Into.converts _ _)

pub put_spaced-requires : goal.put_spaced-requires
put_spaced-requires g c =
    let numbers = c.args.numbers.now in
    let put = c.loop-number.invariant.1 in
    let long = each-long g.T.Into.converts (take c.loop-number.number-index numbers) put.converted put.each in
    omega (
      arith,
      c.loop-number.invariant.0,
      ap length put.items,
      length-append c.args.text.now.items (spaced put.converted),
      spaced-most put.converted,
      long,
      length-take c.loop-number.number-index numbers,
      c.loop-number-test.true,
    )

pub loop-number-preserved : goal.loop-number-preserved
loop-number-preserved g c = (
  c.loop-number.invariant.0,
  put-more g.T.Into.converts c.loop-number.invariant.1 c.loop-number-test.true c.number-item.is c.into.ensures c.put_spaced.ensures,
)
