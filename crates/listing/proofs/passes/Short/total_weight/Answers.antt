-- The weight of all marks fits: there are 60 at most, of 1,000 each.
use native.Mathlib.Omega.{arith}
use Prim.Native.Nat.{◌*◌, ◌≤◌}
use Rattle.std.proofs.Common.{rules}
use Rattle.std.proofs.iter.runs.Sources.{sums}
use Rattle.std.specs.Prelude.{sum}
use Rattle.geometry.specs.Mark.{most_weight}
use Rattle.geometry.specs.Strip.{lists_of, most_short}
use Rattle.listing.proofs.Sums.{sum_is, short-most}
use Rattle.listing.proofs.passes.Short.total_weight.Goals as goal

pub sum-requires-clause-fits : goal.sum-requires-clause-fits
sum-requires-clause-fits c =
    let s = lists_of c.args.self.strip in
    let most : sum s.weights ≤ most_weight * most_short = omega (arith, sum_is s.weights, short-most s c.args.self.good) in
    search (rules, sums)
