-- `slope::table::fill` meets its contract: behind the last mark any pair will do, and each turn puts a row in front.
use Rattle.slope.proofs.Rows.{rows-none, row-none}
use Rattle.slope.proofs.table.fill.Goals as goal

pub loop-k-init : goal.loop-k-init
loop-k-init c =
    let m = c.args.marks in
    (rows-none m.side m.xs.now m.ys.now m.checked c.args.table.now, row-none m.side m.xs.now m.ys.now m.checked)
