-- `slope::pairs::apart` meets its contract: the squares of the pairs in the one set or the other do not overlap.
use Rattle.slope.proofs.Sets.{pairs-or}
use Rattle.slope.proofs.pairs.apart.Goals as goal

pub returns : goal.returns
returns c = pairs-or c.apart_along_x.ensures c.apart_along_y.ensures
