-- What the code holds of a number from 1 on: 32 bits hold the digits, with both signs, and what the shift leaves of them, and 16 bits too.
use mathlib.Core.Path.{◌≡◌, sym, ap, ◌∙◌, subst}
use mathlib.Core.Bool.{Bool, true, false}
use Prim.Native.Nat.{ℕ, ◌≤◌, ◌<◌}
use native.Mathlib.Nat.{lt_of_lt_of_le, lt_of_le_of_lt}
use lib.Dec.{T, lit≤}
use lib.IntN.{ℤ, pos, ◌-ℤ◌}
use lib.Signed.{shr_z}
use lib.Ieee.{Float, binary32, fits}
use mir.Val.{to_z, of_z, SFits}
use Rattle.std.specs.Int.{w16, w32}
use Rattle.std.proofs.lemmas.Int.{to_z_pos}
use Rattle.geometry.proofs.Dots.{back, held as held-16}
use Rattle.logger.specs.Value.{times, floor_of}
use Rattle.logger.proofs.Units.{exponent}
use Rattle.logger.specs.inner.Dots.{InReach}
use Rattle.logger.proofs.Reach.{sign, behind-sign, digits-of, few-digits, parts-of-one}
use Rattle.logger.proofs.Shifts.{signed, signed-size, back-32}
use Rattle.logger.proofs.FloorByBits.{cut-held, floor-cut}

-- the digits with a sign, as the code has them
abbrev pub coded : Bool → ℕ → ℤ
coded false d = to_z w32 d
coded true d = to_z w32 (of_z w32 (pos 0 -ℤ to_z w32 d))

coded-is : (s : Bool) (x : Float) → coded s (digits-of x) ≡ signed s (digits-of x)
coded-is s x = go s
  where
    below : digits-of x < 0x8000_0000
    below = lt_of_lt_of_le (few-digits x) (lit≤ tt)

    held-32 : to_z w32 (digits-of x) ≡ pos (digits-of x)
    held-32 = to_z_pos w32 (digits-of x) below

    go : (s : Bool) → coded s (digits-of x) ≡ signed s (digits-of x)
    go false = held-32
    go true =
        ap (λ (z : ℤ). to_z w32 (of_z w32 (pos 0 -ℤ z))) held-32
        ∙ back-32 (pos 0 -ℤ pos (digits-of x)) (lt_of_le_of_lt (signed-size true (digits-of x)) below)

-- and what the code's shift leaves of them
abbrev pub shifted : Bool → Float → ℤ
shifted s x = to_z w32 (of_z w32 (shr_z (coded s (digits-of x)) (parts-of-one (behind-sign x))))

module _ (x : Float) (held : T (fits binary32 x)) (reach : InReach x) (large : 119 ≤ exponent (behind-sign x)) where
  left : Bool → ℤ
  left s = shr_z (signed s (digits-of x)) (parts-of-one (behind-sign x))

  shifted-is : (s : Bool) → shifted s x ≡ left s
  unfolding left
  shifted-is s =
      ap (λ (z : ℤ). to_z w32 (of_z w32 (shr_z z (parts-of-one (behind-sign x))))) (coded-is s x)
      ∙ back-32 (left s) (lt_of_lt_of_le (cut-held x held reach large s) (lit≤ tt))

  left-held : (s : Bool) → SFits w16 (left s)
  unfolding left
  left-held s = held-16 (cut-held x held reach large s)

  pub fits-16 : (s : Bool) → SFits w16 (shifted s x)
  fits-16 s = subst (SFits w16) (sym (shifted-is s)) (left-held s)

  floor-left : (s : Bool) → sign x ≡ s → left s ≡ floor_of (times 1 x)
  unfolding left
  floor-left s is =
      ap (λ (t : Bool). shr_z (signed t (digits-of x)) (parts-of-one (behind-sign x))) (sym is) ∙ floor-cut x held reach large

  pub floor-16 : (s : Bool) → sign x ≡ s → to_z w16 (of_z w16 (shifted s x)) ≡ floor_of (times 1 x)
  floor-16 s is = ap (λ (z : ℤ). to_z w16 (of_z w16 z)) (shifted-is s) ∙ back (left-held s) ∙ floor-left s is
