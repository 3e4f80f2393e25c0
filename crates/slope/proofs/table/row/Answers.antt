-- `slope::table::row` meets its contract: the pairs that stay are those that the definition names.
use native.Mathlib.Omega.{arith}
use Rattle.slope.proofs.Sets.{pairs-and, triples-and}
use Rattle.slope.proofs.Rows.{pairs-same, row-before}
use Rattle.slope.proofs.table.row.Goals as goal

pub returns : goal.returns
returns c =
    let marks = c.args.marks in
    pairs-same
    (row-before marks.side marks.xs.now marks.ys.now marks.checked c.args.k _ _ c.requires.within _ _ _ _ c.spreads-near.ensures c.spreads-far.ensures
    (omega arith) (omega arith))
    (pairs-and c.apart.ensures (c.begun.ensures _ (triples-and (c.ending_with.ensures _ c.requires.behind) c.ends_apart.ensures)))
