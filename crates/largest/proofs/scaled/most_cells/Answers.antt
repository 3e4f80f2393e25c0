-- `largest::scaled::most_cells` meets its contract: from 0 on the greater of two, cell count by cell count.
use mathlib.Core.Path.{◌≡◌}
use Prim.Native.Nat.{max}
use native.Mathlib.Omega.{arith}
use Rattle.std.proofs.Common.{rules}
use Rattle.std.specs.List.{fold}
use Rattle.largest.proofs.MostCells.{most-folded}
use Rattle.largest.proofs.scaled.most_cells.Goals as goal

pub returns : goal.returns
returns c =
    let all : c.fold.result ≡ fold max 0 c.args.cells.now = search rules in
    omega (arith, all, most-folded 0 c.args.cells.now)
