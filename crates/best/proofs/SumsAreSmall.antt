-- A short strip earns at most `most_sum`, so the program's sums fit 32 bits.
-- Weights are at most 1,000, and a choice earns the weights of some of its marks, so its sum is at most 1,000 for each mark. What is left
-- of a strip has no more marks than the strip, and `worth` is the sum of a choice.
use mathlib.Core.Path.{◌≡◌}
use mathlib.Core.Bool.{true}
use mathlib.Core.List.{List, [], ◌∷◌}
use Prim.Native.Nat.{ℕ, ◌*◌, ◌≤◌}
use native.Mathlib.Omega.{arith}
use lib.IntN.{ℤ}
use lib.ListN.{length, drop, length-drop}
use Rattle.std.specs.List.{list_all}
use Rattle.geometry.specs.Mark.{Mark, weight_in_range_lem, most_weight}
use Rattle.geometry.specs.Strip.{Strip, marks_of_lists, marks_of}
use Rattle.geometry.specs.Position.{Position, unlabelled, at}
use Rattle.geometry.specs.Placing.{sum_of}
use Rattle.geometry.specs.inner.Each.{Each}
use Rattle.geometry.proofs.Split.{one-to}
use Rattle.geometry.proofs.Accepted.{length-marks, first_good, rest-good}
use Rattle.geometry.proofs.Each.{each-drop}
use Rattle.best.specs.inner.Worth.{worth, best_from}
use Rattle.best.specs.inner.Checked.{StripChecked}
use Rattle.best.specs.inner.Trial.{most_sum}
use Rattle.best.proofs.WorthIsBest.{best-earns}

-- each mark has a weight of at most 1,000
abbrev SmallWeights : List Mark → Type 0
SmallWeights ms = Each (λ m. m.weight ≤ most_weight) ms

-- so it is in a strip whose weights are in range
weights-small : (zs : List ℤ) (ls ws : List ℕ) → list_all weight_in_range_lem ws ≡ true → SmallWeights (marks_of_lists zs ls ws)
unfolding marks_of_lists
weights-small [] ls ws e = tt
weights-small (z ∷ zs) [] ws e = tt
weights-small (z ∷ zs) (l ∷ ls) [] e = tt
weights-small (z ∷ zs) (l ∷ ls) (w ∷ ws) e =
    ((one-to most_weight w (first_good weight_in_range_lem w ws e)).1, weights-small zs ls ws (rest-good weight_in_range_lem w ws e))

-- no choice earns more than 1,000 for each mark
sum-limit : (ms : List Mark) (ps : List Position) → SmallWeights ms → sum_of ms ps ≤ most_weight * length ms
unfolding sum_of
sum-limit [] ps h = omega arith
sum-limit (m ∷ ms) [] h = omega arith
sum-limit (m ∷ ms) (unlabelled ∷ ps) h = let r = sum-limit ms ps h.1 in omega arith
sum-limit (m ∷ ms) (at s d ∷ ps) h = let r = sum-limit ms ps h.1 in omega arith

-- what is left of a short strip earns no more
pub worth-limit : (g a b k : ℕ) (s : Strip) → StripChecked s → worth g a b (drop k (marks_of s)) ≤ most_sum
worth-limit g a b k s h =
    let rest = drop k (marks_of s) in
    let small = each-drop _ k (marks_of s) (weights-small s.places s.lengths s.weights h.weights-good) in
    omega (
      arith,
      best-earns g a b rest,
      sum-limit rest (best_from g a b rest) small,
      length-drop k (marks_of s),
      length-marks s h.same-lengths h.same-weights,
    )
