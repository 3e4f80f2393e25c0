-- `font::texts::fill` meets its contract: the lengths written so far and those that are left are the lengths of all texts.
use Rattle.font.proofs.Going.{Filling}
use Rattle.font.proofs.texts.fill.Given as goal

abbrev pub invariant-loop-i : goal.invariant-loop-i
invariant-loop-i l = Filling l.texts l.counts l.initial.lengths l.rest l.lengths l.i
