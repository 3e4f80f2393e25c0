-- All marks are on one line with the first two exactly if the marks before k are, and those from k on.
use mathlib.Core.Path.{◌≡◌}
use mathlib.Core.Bool.{◌&&◌}
use Rattle.slope.proofs.Tested.{tested}
use Rattle.slope.proofs.line.on_one_line.Given as goal

abbrev pub invariant-loop-k : goal.invariant-loop-k
invariant-loop-k l = tested l.xs l.ys 2 ≡ (l.good && tested l.xs l.ys l.k)
