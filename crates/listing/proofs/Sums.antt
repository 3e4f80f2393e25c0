-- The sum of a list is the library's, and that of the weights of a short strip is at most 60,000: each is at most 1,000. No choice earns more.
use mathlib.Core.Path.{◌≡◌, refl, sym, ◌∙◌, ap}
use mathlib.Core.Bool.{true}
use mathlib.Core.List.{List, [], ◌∷◌}
use Prim.Native.Nat.{ℕ, ◌+◌, ◌*◌, ◌≤◌}
use native.Mathlib.Omega.{arith}
use lib.ListN.{length}
use Rattle.std.specs.Prelude.{sum}
use Rattle.std.specs.List.{list_all}
use Rattle.std.proofs.lemmas.List.Sums.{sum_by-cons}
use Rattle.geometry.specs.Lists.{sum_list}
use Rattle.geometry.specs.Mark.{weight_in_range_lem, most_weight}
use Rattle.geometry.specs.Strip.{Strip, marks_of, most_short}
use Rattle.geometry.specs.Refusal.{accepted}
use Rattle.geometry.specs.Entry.{entry}
use Rattle.geometry.proofs.Split.{one-to}
use Rattle.geometry.proofs.Accepted.{entry-accepted, first_good, rest-good}
use Rattle.geometry.proofs.Whole.{weights-of-marks, sum-within}
use Rattle.listing.specs.inner.Lines.{BestFound}

pub sum_is : (xs : List ℕ) → sum_list xs ≡ sum xs
unfolding sum_list
sum_is [] = refl
sum_is (x ∷ xs) = ap (λ (rest : ℕ). x + rest) (sum_is xs) ∙ sym (sum_by-cons (λ n. n) x xs)

weights-most : (ws : List ℕ) → list_all weight_in_range_lem ws ≡ true → sum_list ws ≤ most_weight * length ws
unfolding sum_list
weights-most [] e = omega arith
weights-most (w ∷ ws) e =
    omega (arith, (one-to most_weight w (first_good weight_in_range_lem w ws e)).1, weights-most ws (rest-good weight_in_range_lem w ws e))

module _ (s : Strip) (entered : entry most_short s ≡ accepted) where
  pub short-most : sum_list s.weights ≤ most_weight * most_short
  short-most =
      let good = entry-accepted most_short s entered in omega (arith, weights-most s.weights good.weights-good, good.same-weights, good.few)

  pub earned-most : {sum count : ℕ} {out : List ℕ} → BestFound s sum count out → sum ≤ most_weight * most_short
  earned-most found =
      let good = entry-accepted most_short s entered in
      let all = ap sum_list (weights-of-marks s good.same-lengths good.same-weights) in
      omega (arith, found.sum_is, found.chosen.greatest, sum-within (marks_of s) found.chosen.choice, all, short-most)
