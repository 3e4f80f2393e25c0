-- The three lists are equally long.
use native.Mathlib.Omega.{arith}
use Rattle.geometry.specs.Strip.{most_marks}
use Rattle.geometry.proofs.Accepted.{entry-accepted}
use Rattle.job.proofs.marks.Marks.record_at.Goals as goal

pub bounds-self-i : goal.bounds-self-i
bounds-self-i c = omega (arith, (entry-accepted most_marks _ c.args.self.good).same-lengths)

pub bounds-self-i-2 : goal.bounds-self-i-2
bounds-self-i-2 c = omega (arith, (entry-accepted most_marks _ c.args.self.good).same-weights)
