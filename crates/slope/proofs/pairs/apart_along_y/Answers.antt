-- `slope::pairs::apart_along_y` meets its contract: at each number of sides the element is the set that the definition gives.
use Rattle.std.proofs.Common.{rules}
use Rattle.slope.proofs.Threes.{of-three}
use Rattle.slope.proofs.pairs.apart_along_y.Goals as goal

pub returns : goal.returns
returns c =
    let s = c.args.y in
    of-three s.sides s.few (λ none. rw none (search rules)) (λ one. rw one (search rules)) (λ two. rw two (search rules))
