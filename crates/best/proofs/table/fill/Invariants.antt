-- `best::table::fill` meets its contract: the table counts the marks from index k on.
use mathlib.Core.Path.{◌≡◌}
use lib.ListN.{drop}
use Rattle.best.specs.Best.{work_named}
use Rattle.best.specs.inner.Handed.{strip_of}
use Rattle.best.specs.inner.Table.{Filled}
use Rattle.best.proofs.table.fill.Given as goal

abbrev pub invariant-loop-k : goal.invariant-loop-k
invariant-loop-k l = record {
  filled : Filled l.marks.gap (strip_of l.marks) l.k l.work;
  rest_kept : drop work_named l.work ≡ drop work_named l.fn.work;
}
