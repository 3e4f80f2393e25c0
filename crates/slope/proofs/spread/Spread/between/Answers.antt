-- `slope::spread::Spread::between` meets its contract: the two tests are those of one side and of two.
use native.Mathlib.Omega.{arith}
use borrow.Author.Tests.{le-leb, leb-true}
use Rattle.std.proofs.Common.{rules}
use Rattle.geometry.proofs.Dots.{fetched}
use Rattle.slope.proofs.Apart.{sides-tell}
use Rattle.slope.proofs.spread.Spread.between.Goals as goal

pub returns : goal.returns
returns c =
    let distance = rw (fetched c.args.from (search rules), fetched c.args.to (search rules)) at c.distance-distance.ensures in
    sides-tell c.args.side c.args.from c.args.to c.requires c.distance-distance.result distance _ _ (omega (arith, leb-true, le-leb))
    (omega (arith, leb-true, le-leb))
