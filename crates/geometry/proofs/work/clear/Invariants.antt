-- `geometry::work::clear` meets its contract: after i turns the first i elements of the named part are zeros and its rest is as it was.
use mathlib.Core.Path.{◌≡◌}
use lib.ListN.{length}
use Rattle.geometry.specs.Pass.{cleared}
use Rattle.geometry.proofs.work.clear.Given as goal

abbrev pub invariant-loop-cell : goal.invariant-loop-cell
invariant-loop-cell g l =
    (length l.cell-items ≡ length l.initial.cell-items) × (l.cell-items ≡ cleared l.cell-index l.zero l.initial.cell-items)
