-- `full::walk::walk` meets its contract: the numbers written so far and the walk from the current mark on are the whole walk.
use Rattle.full.proofs.Walking.{Walking}
use Rattle.full.proofs.walk.walk.Given as goal

abbrev pub invariant-loop-i : goal.invariant-loop-i
invariant-loop-i l =
    let m = l.marks in
    Walking m.places.now m.lengths.now m.gap l.initial.positions l.positions l.reaches.above l.reaches.below l.i
