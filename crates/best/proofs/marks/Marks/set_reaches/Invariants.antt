-- `Marks::set_reaches` meets its contract: the list has the reaches of the names before `name`.
use mathlib.Core.Path.{◌≡◌}
use lib.ListN.{length}
use Rattle.best.specs.inner.Handed.{strip_of}
use Rattle.best.specs.inner.Names.{names}
use Rattle.best.proofs.NamedReaches.{ReachesBelow}
use Rattle.best.proofs.marks.Marks.set_reaches.Given as goal

abbrev pub invariant-loop-name : goal.invariant-loop-name
invariant-loop-name l = record { long : length l.reaches ≡ names; below_name : ReachesBelow l.self.gap (strip_of l.self) l.reaches l.name }
