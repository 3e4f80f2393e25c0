-- After d turns the first d cells are right, and the scan may go on where it stopped.
use native.Mathlib.Omega.{arith}
use Rattle.slide.proofs.FilledRows.{found_within, scanned-more}
use Rattle.slide.proofs.table.fill_cells.Goals as goal

pub other_side-other-requires : goal.other_side-other-requires
other_side-other-requires c = found_within _ _ _ _ _ _ _ _ c.loop-d.invariant _ c.furthest_slide-slides.ensures

pub loop-d-preserved : goal.loop-d-preserved
loop-d-preserved c =
    scanned-more _ _ _ _ _ _ _ _ c.loop-d.invariant _ c.furthest_slide-slides.ensures _ _ _
    (omega arith) c.own_side-own.ensures c.other_side-other.ensures (omega arith) (omega arith)
