-- What is written so far is the beginning of the answer, and the walk of the rest is what is left.
use Rattle.slide.proofs.WalkedSoFar.{WalkedTo}
use Rattle.slide.proofs.walk.walk.Given as goal

abbrev pub invariant-loop-i : goal.invariant-loop-i
invariant-loop-i l =
    let m = l.marks in
    WalkedTo m.places.now m.lengths.now m.gap l.initial.sides l.sides l.initial.edges l.edges l.reaches.above l.reaches.below l.i
