-- `slope::marks::Marks::spreads` meets its contract: the spreads along both axes tell which squares overlap, and behind the last mark there is none.
use Rattle.std.proofs.Common.{rules}
use Rattle.slope.proofs.Spreads.{spreads-are, spreads-beyond}
use Rattle.slope.proofs.marks.Marks.spreads.Goals as goal

pub returns-then-k-self : goal.returns-then-k-self
returns-then-k-self c =
    let marks = c.args.self in
    spreads-are marks.side marks.xs.now marks.ys.now marks.checked c.args.j c.args.k c.requires c.if-k-self.true
    c.spread_between.result.sides c.spread_between-then-k-self.result.sides c.spread_between.ensures c.spread_between-then-k-self.ensures

pub returns-else-k-self : goal.returns-else-k-self
returns-else-k-self c =
    let marks = c.args.self in
    spreads-beyond marks.side marks.xs.now marks.ys.now marks.checked c.args.j c.args.k c.requires (search rules)
