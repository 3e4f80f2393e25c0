-- A list that is looked at whole: each element's test is joined to what the elements before it gave.
use mathlib.Core.Path.{◌≡◌, sym, ◌∙◌}
use mathlib.Core.Bool.{Bool, ◌&&◌}
use mathlib.Core.List.{List, [], ◌∷◌}
use Prim.Native.Nat.{ℕ}
use Rattle.std.proofs.Math.Bool.{and_assoc, and-true}
use Rattle.std.specs.List.{fold, list_all}

-- one element more
abbrev pub and_passes : (ℕ → Bool) → Bool → ℕ → Bool
and_passes test good x = good && test x

-- from what is good so far
pub all-folded : (test : ℕ → Bool) (good : Bool) (xs : List ℕ) → fold (and_passes test) good xs ≡ (good && list_all test xs)
all-folded test good [] = sym (and-true good)
all-folded test good (x ∷ xs) = all-folded test (good && test x) xs ∙ and_assoc good (test x) (list_all test xs)
