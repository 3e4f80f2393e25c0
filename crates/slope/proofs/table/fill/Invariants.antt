-- The rows of the marks from k on stand in the table, and that of mark k is at hand.
use Rattle.slope.specs.inner.Table.{RowIs, RowsFrom}
use Rattle.slope.proofs.table.fill.Given as goal

abbrev pub invariant-loop-k : goal.invariant-loop-k
invariant-loop-k l =
    let m = l.marks in
    RowsFrom m.side m.xs.now m.ys.now l.k l.table × RowIs m.side m.xs.now m.ys.now l.k l.next
