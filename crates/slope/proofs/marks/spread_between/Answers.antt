-- `slope::marks::spread_between` meets its contract: of coordinates that rise each is below those behind it, and 16 bits hold both.
use lib.IntN.{pos}
use lib.ListN.{get_or}
use Rattle.std.proofs.Common.{rules}
use Rattle.geometry.proofs.Dots.{fetched}
use Rattle.slope.proofs.Rises.{below-at}
use Rattle.slope.proofs.marks.spread_between.Goals as goal

pub between-requires : goal.between-requires
between-requires c =
    let cs = c.args.coordinates.now in
    rw (fetched (get_or cs c.args.j (pos 0)) (search rules), fetched (get_or cs c.args.k (pos 0)) (search rules))
    (below-at cs c.args.j c.args.k c.requires.rises c.requires.ordered c.requires.within)

pub returns : goal.returns
returns c =
    let cs = c.args.coordinates.now in
    rw (fetched (get_or cs c.args.j (pos 0)) (search rules), fetched (get_or cs c.args.k (pos 0)) (search rules)) at c.between.ensures
