-- The positions of the marks before k are written, and the sets of mark k and the one behind it are at hand.
use Rattle.slope.proofs.Walked.{WalkedTo}
use Rattle.slope.proofs.walk.walk.Given as goal

abbrev pub invariant-loop-k : goal.invariant-loop-k
invariant-loop-k l =
    let m = l.marks in
    WalkedTo m.side m.xs.now m.ys.now l.initial.positions l.k l.positions l.allowed l.free_next
