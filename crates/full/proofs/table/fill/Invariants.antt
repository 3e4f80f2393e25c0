-- `full::table::fill` meets its contract: after each turn the rows from the current mark on are right, `kept` is the current mark's, and
-- `next` is that mark.
use mathlib.Core.Path.{◌≡◌}
use lib.IntN.{pos}
use lib.ListN.{get_or}
use Rattle.full.proofs.Filling.{Filling}
use Rattle.full.proofs.table.fill.Given as goal

abbrev pub invariant-loop-i : goal.invariant-loop-i
invariant-loop-i l =
    let m = l.marks in
    Filling m.places.now m.lengths.now m.gap l.fn.work l.work l.kept.reaches l.i
    × (l.next.place ≡ get_or m.places.now l.i (pos 0)) × (l.next.length ≡ get_or m.lengths.now l.i 0)
