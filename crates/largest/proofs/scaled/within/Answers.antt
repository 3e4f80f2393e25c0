-- `largest::scaled::within` meets its contract: a product of 8 bits and 8 has room in 16.
use mathlib.Core.Path.{refl}
use Rattle.largest.proofs.MostCells.{within-decides}
use Rattle.largest.proofs.scaled.within.Goals as goal

pub returns : goal.returns
returns c = within-decides c.args.most c.args.width refl
