-- Digits with a sign, and what a shift that keeps the sign leaves of them.
use mathlib.Core.Path.{◌≡◌, refl, sym, ap, ◌∙◌, subst}
use mathlib.Core.Bool.{Bool, true, false, cond}
use Prim.Native.Nat.{ℕ, zero, suc, ◌-◌, ◌/◌, ◌≤◌, ◌<◌}
use native.Mathlib.Nat.{mul-le-mul_right}
use native.Mathlib.Omega.{arith}
use lib.IntN.{ℤ, pos, negsuc, neg_ℤ, ◌-ℤ◌}
use lib.Signed.{mag, shr_z}
use lib.Ieee.Nearest.{div_mono}
use mir.Val.{to_z, of_z}
use Rattle.std.specs.Int.{w32}
use Rattle.std.proofs.lemmas.Bool.{lt-ltb}
use Rattle.std.proofs.lemmas.Int.{to_z-of_z}

-- below zero the digits are taken from 0
abbrev pub signed : Bool → ℕ → ℤ
signed false d = pos d
signed true d = pos 0 -ℤ pos d

pub signed-is : (s : Bool) (d : ℕ) → cond s (neg_ℤ (pos d)) (pos d) ≡ signed s d
signed-is false d = refl
signed-is true zero = refl
signed-is true (suc d) =
    sym (ap (λ (t : Bool). cond t (negsuc (suc d - 1)) (pos (0 - suc d))) (lt-ltb 0 (suc d) (omega arith)) ∙ ap negsuc (omega arith))

pub signed-size : (s : Bool) (d : ℕ) → mag (signed s d) ≤ d
signed-size s d = subst (λ (z : ℤ). mag z ≤ d) (signed-is s d) (size s d)
  where
    size : (s : Bool) (d : ℕ) → mag (cond s (neg_ℤ (pos d)) (pos d)) ≤ d
    size false d = omega arith
    size true zero = omega arith
    size true (suc d) = omega arith

-- what the shift leaves is no larger than the whole part of the digits over so many parts
pub cut-size : (s : Bool) (d p : ℕ) → 0 < p → mag (shr_z (signed s d) p) ≤ d / p
cut-size s d p h = subst (λ (z : ℤ). mag (shr_z z p) ≤ d / p) (signed-is s d) (size s d)
  where
    size : (s : Bool) (d : ℕ) → mag (shr_z (cond s (neg_ℤ (pos d)) (pos d)) p) ≤ d / p
    size false d = omega arith
    size true zero = omega arith
    size true (suc d) = div_mono d p (suc d) p h h (mul-le-mul_right p (omega arith))

-- 32 bits hold what is so small
pub back-32 : (z : ℤ) → mag z < 0x8000_0000 → to_z w32 (of_z w32 z) ≡ z
back-32 z h = to_z-of_z w32 z (record { sfits = h })
