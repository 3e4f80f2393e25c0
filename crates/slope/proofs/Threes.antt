-- A number of at most 2 is one of three: what follows from each of these, follows.
use mathlib.Core.Path.{◌≡◌, refl}
use Prim.Native.Nat.{ℕ, zero, suc, ◌≤◌}
use native.Mathlib.Omega.{arith}

pub of-three : {P : Type 0} (n : ℕ) → n ≤ 2 → (n ≡ 0 → P) → (n ≡ 1 → P) → (n ≡ 2 → P) → P
of-three zero h none one two = none refl
of-three (suc zero) h none one two = one refl
of-three (suc (suc n)) h none one two = two (omega arith)
