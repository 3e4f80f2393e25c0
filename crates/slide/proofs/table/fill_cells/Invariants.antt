-- After d turns the first d cells are right, and the scan may go on where it stopped.
use Rattle.slide.specs.inner.Handed.{mark_of}
use Rattle.slide.specs.inner.Table.{cell_in}
use Rattle.slide.proofs.FilledRows.{Scanned}
use Rattle.slide.proofs.table.fill_cells.Given as goal

abbrev pub invariant-loop-d : goal.invariant-loop-d
invariant-loop-d l = Scanned l.gap (mark_of l.fn.mark) (mark_of l.next.mark) (cell_in l.next.cells.now) l.cells l.d l.slides
