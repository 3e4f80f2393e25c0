-- `slope::pairs::one_of` meets its contract: the lowest bit that is 1 stands for a quadrant of the set, and if the lower three are 0, the fourth is 1.
use mathlib.Core.Path.{◌≡◌, refl, sym, ◌∙◌, ap}
use mathlib.Core.Bool.{Bool, true, false}
use mathlib.Core.List.{map}
use Prim.Native.Nat.{ℕ, zero, suc, ◌<◌, ◌≤◌}
use native.Mathlib.Omega.{arith}
use Rattle.std.proofs.Common.{rules}
use Rattle.std.specs.Int.{w16, bit_at, trailing_zeros}
use Rattle.std.proofs.lemmas.Nat.Bits.{bit_at-trailing_zeros, bit_at-zero}
use Rattle.geometry.specs.Lists.{any_of}
use Rattle.slope.specs.Square.{Quadrant, AboveRight, AboveLeft, BelowLeft, BelowRight, every_quadrant}
use Rattle.slope.specs.inner.Sets.{index, digit, Quadrants}
use Rattle.slope.proofs.Sets.{most, most-any}
use Rattle.slope.proofs.pairs.one_of.Goals as goal

holds-by-digit : (t : Bool) → 0 < digit t → t ≡ true
holds-by-digit true h = refl
holds-by-digit false h = absurd (omega arith)

module _ (set : ℕ) (fits : set < 65536) (holds : Quadrant → Bool) (set-is : Quadrants set holds) (some : any_of holds every_quadrant ≡ true) where
  -- one of the four bits is 1, so the set is not 0
  one-bit : most set (map index every_quadrant) ≡ 1
  one-bit = most-any set index holds set-is.each every_quadrant ∙ ap digit some

  not-zero : 0 < set
  not-zero = by set one-bit
    where
      by : (n : ℕ) → most n (map index every_quadrant) ≡ 1 → 0 < n
      by zero e = absurd (omega (arith, bit_at-zero 0, bit_at-zero 1, bit_at-zero 2, bit_at-zero 3))
      by (suc n) e = omega arith

  lowest : (trailing_zeros w16 set < 16) × (bit_at set (trailing_zeros w16 set) ≡ 1) × ((i : ℕ) → i < trailing_zeros w16 set → bit_at set i ≡ 0)
  lowest = bit_at-trailing_zeros w16 set not-zero fits

  at-lowest : (q : Quadrant) → trailing_zeros w16 set ≡ index q → holds q ≡ true
  at-lowest q is = holds-by-digit (holds q) (omega (arith, set-is.each q, sym (ap (bit_at set) is) ∙ lowest.1))

  fourth : 3 ≤ trailing_zeros w16 set → holds BelowRight ≡ true
  fourth h = holds-by-digit (holds BelowRight)
      (omega (arith, set-is.each BelowRight, one-bit, lowest.2 0 (omega arith), lowest.2 1 (omega arith), lowest.2 2 (omega arith)))

pub returns-in-0 : goal.returns-in-0
returns-in-0 c holds set some = at-lowest c.args.set (omega arith) holds set some AboveRight c.in-0.is

pub returns-in-1 : goal.returns-in-1
returns-in-1 c holds set some = at-lowest c.args.set (omega arith) holds set some AboveLeft c.in-1.is

pub returns-in-2 : goal.returns-in-2
returns-in-2 c holds set some = at-lowest c.args.set (omega arith) holds set some BelowLeft c.in-2.is

pub returns-in_default : goal.returns-in_default
returns-in_default c holds set some = fourth c.args.set (omega arith) holds set some (search rules)
