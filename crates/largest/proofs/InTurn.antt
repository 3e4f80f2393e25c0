-- Widths in turn, each one dot less than the one before: what is left to be tried begins with the width itself, so if that fits it is the
-- first that does, and if it does not the first is among the smaller ones.
use mathlib.Core.Path.{◌≡◌, refl}
use mathlib.Core.Bool.{Bool, true, false}
use mathlib.Core.Option.{none, some}
use Prim.Native.Nat.{ℕ, zero, suc, ◌-◌, ◌≤◌}
use native.Mathlib.Omega.{arith}
use Rattle.geometry.specs.Lists.{first_of}
use Rattle.largest.specs.Widths.{widths_from}

module _ (fits : ℕ → Bool) where
  pub first_fits : (width : ℕ) → 1 ≤ width → fits width ≡ true → first_of fits (widths_from width) ≡ some width
  unfolding first_of widths_from
  first_fits zero least e = absurd (omega arith)
  first_fits (suc width) least e = rw e refl

  pub next-width : (width : ℕ) → 1 ≤ width → fits width ≡ false → first_of fits (widths_from width) ≡ first_of fits (widths_from (width - 1))
  unfolding first_of widths_from
  next-width zero least e = absurd (omega arith)
  next-width (suc width) least e = let less : suc width - 1 ≡ width = omega arith in rw (e, less) refl

  pub none_left : first_of fits (widths_from 0) ≡ none
  unfolding first_of widths_from
  none_left = refl
