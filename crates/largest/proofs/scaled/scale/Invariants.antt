-- `largest::scaled::scale` meets its contract: the lengths written so far and those that are left are the lengths at the width.
use Rattle.largest.proofs.Scaling.{Scaling}
use Rattle.largest.proofs.scaled.scale.Given as goal

abbrev pub invariant-loop-i : goal.invariant-loop-i
invariant-loop-i l = Scaling l.width l.cells l.initial.lengths l.lengths l.i
