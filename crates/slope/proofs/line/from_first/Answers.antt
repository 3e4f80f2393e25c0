-- `slope::line::from_first` meets its contract: of coordinates that rise the first is below all others, and 16 bits hold both.
use lib.IntN.{pos}
use lib.ListN.{get_or}
use Rattle.std.proofs.Common.{rules}
use Rattle.geometry.proofs.Dots.{fetched}
use Rattle.slope.proofs.Rises.{below-at}
use Rattle.slope.proofs.line.from_first.Goals as goal

pub distance-requires : goal.distance-requires
distance-requires c =
    let cs = c.args.coordinates.now in
    rw (fetched (get_or cs 0 (pos 0)) (search rules), fetched (get_or cs c.args.k (pos 0)) (search rules))
    (below-at cs 0 c.args.k c.requires.rises c.requires.second c.requires.within)
