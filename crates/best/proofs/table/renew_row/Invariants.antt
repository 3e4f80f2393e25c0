-- `best::table::renew_row` meets its contract: the cells of the row before `below` count mark k, those beyond need no
-- change, and what the cells share holds all the while.
use Rattle.best.specs.inner.Handed.{strip_of}
use Rattle.best.specs.inner.Table.{cell_of, Renewed}
use Rattle.best.specs.inner.Row.{RowOf}
use Rattle.best.proofs.table.renew_row.Given as goal

abbrev pub invariant-loop-below : goal.invariant-loop-below
invariant-loop-below l = record {
  renewed : Renewed l.marks.gap (strip_of l.marks) l.k (cell_of l.above l.below) l.initial.work l.work;
  shared : RowOf (strip_of l.marks) l.reaches l.work l.k l.above l.row;
}
