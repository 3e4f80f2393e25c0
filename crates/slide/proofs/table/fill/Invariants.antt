-- The rows of the marks from k on are in place.
use Rattle.slide.specs.inner.Handed.{plain_of}
use Rattle.slide.specs.inner.Table.{TableFrom}
use Rattle.slide.proofs.table.fill.Given as goal

abbrev pub invariant-loop-k : goal.invariant-loop-k
invariant-loop-k l = TableFrom l.marks.gap l.initial.work l.work l.k (plain_of l.marks)
