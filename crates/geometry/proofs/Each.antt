-- What holds of each element of a list holds of the one at an index, and of each from an index on.
use mathlib.Core.List.{List, [], ◌∷◌}
use Prim.Native.Nat.{ℕ, zero, suc, ◌<◌}
use native.Mathlib.Omega.{arith}
use lib.ListN.{length, get_or, drop}
use Rattle.geometry.specs.inner.Each.{Each}

module _ {A : Type 0} (P : A → Type 0) where
  pub each_at : (xs : List A) (d : A) (i : ℕ) → Each P xs → i < length xs → P (get_or xs i d)
  each_at [] d i h k = absurd (omega arith)
  each_at (x ∷ xs) d zero h k = h.0
  each_at (x ∷ xs) d (suc i) h k = each_at xs d i h.1 (omega arith)

  pub each-drop : (i : ℕ) (xs : List A) → Each P xs → Each P (drop i xs)
  each-drop zero xs h = h
  each-drop (suc i) [] h = tt
  each-drop (suc i) (x ∷ xs) h = each-drop i xs h.1
