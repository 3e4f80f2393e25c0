-- `slope::pairs::ends_apart` meets its contract: the outer squares of the triples in the one set or the other do not overlap.
use Rattle.slope.proofs.Sets.{triples-or}
use Rattle.slope.proofs.pairs.ends_apart.Goals as goal

pub returns : goal.returns
returns c = triples-or c.ends_apart_along_x.ensures c.ends_apart_along_y.ensures
