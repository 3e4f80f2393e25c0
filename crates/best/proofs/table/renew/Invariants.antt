-- `best::table::renew` meets its contract: the rows before `above` count mark k, the others do not yet.
use Prim.Native.Nat.{◌*◌}
use Rattle.best.specs.inner.Handed.{strip_of}
use Rattle.best.specs.inner.Names.{names}
use Rattle.best.specs.inner.Table.{Renewed}
use Rattle.best.proofs.table.renew.Given as goal

abbrev pub invariant-loop-above : goal.invariant-loop-above
invariant-loop-above l = Renewed l.marks.gap (strip_of l.marks) l.k (l.above * names) l.initial.work l.work
