-- The last mark has nothing behind it, and any other has the row of the next.
use native.Mathlib.Omega.{arith}
use Rattle.std.proofs.Common.{rules}
use Rattle.slide.specs.inner.Handed.{mark_of}
use Rattle.slide.proofs.RowByRow.{table-last, table_before, cells-filled, cells-written}
use Rattle.slide.proofs.table.fill_mark.Goals as goal

pub returns-then-k-marks : goal.returns-then-k-marks
returns-then-k-marks c =
    let filled = cells-filled _ _ (c.fill.ensures.after (λ y e. e)) in
    table-last _ _ _ c.args.marks.checked _ _ c.args.k c.requires.within (mark_of c.at-mark.result) c.at-mark.ensures (omega arith)
    (cells-written _ _ _ _ _ _ _ _ (omega (arith, c.args.marks.checked.few)) (search rules) (search rules) (omega arith)
    (search rules) (omega arith) filled)

pub returns : goal.returns
returns c =
    table_before _ _ _ c.args.marks.checked _ _ c.args.k c.requires.within (mark_of c.at-mark.result) (mark_of c.at.result)
    c.at-mark.ensures c.at.ensures (omega arith) c.requires.behind
    (cells-written _ _ _ _ _ _ _ _ (omega (arith, c.args.marks.checked.few)) (search rules) (search rules) (omega arith)
    (search rules) (omega arith) (rw (← c.split_at_mut-filled.ensures.back) c.fill_cells.ensures))
