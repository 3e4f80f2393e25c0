-- The rows of the marks from k on are in place.
use mathlib.Core.Path.{refl}
use Rattle.slide.proofs.RowByRow.{table_none}
use Rattle.slide.proofs.table.fill.Goals as goal

pub loop-k-init : goal.loop-k-init
loop-k-init c = table_none _ _ _ c.args.marks.checked _ _ refl
