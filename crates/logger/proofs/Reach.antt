-- What a number in reach is by its bits: finite, of an exponent below 142, and its digits in so many parts.
use mathlib.Core.Path.{◌≡◌, refl, sym, ap, ◌∙◌, subst}
use mathlib.Core.Logic.{inl, inr}
use mathlib.Core.Bool.{Bool, true}
use Prim.Native.Nat.{ℕ, zero, suc, ◌+◌, ◌-◌, ◌*◌, ◌%◌, ◌^◌, ◌≤◌, ◌<◌}
use native.Mathlib.Nat.{lt_irrefl, mul_assoc, mul_right_comm, le_trans, lt_of_lt_of_le, lt_of_mul-lt-mul_right, mul-lt-mul_of_pos_right}
use native.Mathlib.Omega.{arith}
use lib.Dec.{T, leb, lit≤}
use lib.Pow.{pow-add}
use lib.Ieee.{Float, nan, inf, fin, binary32, up, down, fits, to_bits, is_nan}
use lib.Ieee.Exact.{HasValue}
use Rattle.std.specs.Float.{float_is_finite, NotNan}
use Rattle.geometry.proofs.Split.{lt-or-ge}
use Rattle.logger.specs.Value.{times}
use Rattle.logger.specs.Product.{leading, infinite, sign_bit, Same}
use Rattle.logger.specs.inner.Dots.{InReach}
use Rattle.logger.proofs.Exacts.{exact, many}
use Rattle.logger.proofs.Patterns.{number-value, finite-behind, bits-of}
use Rattle.logger.proofs.Units.{exponent, fraction, digits, moved, units, one, one-pos, units-least, units-below, units-low}

reach-finite : (x : Float) → InReach x → float_is_finite x ≡ true
unfolding float_is_finite
reach-finite nan h = absurd h
reach-finite (inf s) h = absurd h
reach-finite (fin s m e) h = refl

pub reach-no-nan : (x : Float) → InReach x → NotNan x
unfolding is_nan
reach-no-nan nan h = absurd h
reach-no-nan (inf s) h = absurd h
reach-no-nan (fin s m e) h = tt

-- in units: less than 2 ^ 15 of those of 1
reach-units : (x : Float) (s : Bool) (a : ℕ) → InReach x → HasValue x s a one → a < 0x8000 * one
reach-units nan s a h v = absurd h
reach-units (inf t) s a h v = absurd h
reach-units (fin t m e) s a h v =
    let crossed : m * up e * one < 0x8000 * down e * one = mul-lt-mul_of_pos_right h one-pos in
    let in-parts : m * up e * one < 0x8000 * one * down e = subst (λ (y : ℕ). m * up e * one < y) (mul_right_comm 0x8000 (down e) one) crossed in
    lt_of_mul-lt-mul_right (down e) (subst (λ (y : ℕ). y < 0x8000 * one * down e) v.1 in-parts)

-- so the exponent is below 142
reach-exponent : (n : ℕ) → units n < 0x8000 * one → exponent n < 142
unfolding one
reach-exponent n h = elim (lt-or-ge (exponent n) 142) [
  | inl below ↦ below
  | inr high ↦
      let least : 0x8000 * 2 ^ 149 ≤ 2 ^ 164 = lit≤ tt in
      absurd (lt_irrefl (units n) (lt_of_lt_of_le h (le_trans least (units-least 141 n high))))
]

-- below an exponent of 127 there is less than 1
pub less-than-one : (n : ℕ) → exponent n < 127 → units n < one
unfolding one
less-than-one n h = units-below 125 n (omega (arith, h))

-- only a number whose bits are all 0 is 0
pub only-zero : (n : ℕ) → units n ≡ 0 → n ≡ 0
only-zero n h = elim (lt-or-ge n leading) [
  | inl below ↦ sym (units-low n below) ∙ h
  | inr high ↦ omega (arith, h, units-least 0 n (omega (arith, high)))
]

-- the number is its digits, the leading one included, over so many parts of 1
abbrev with-leading : ℕ → ℕ
with-leading n = leading + fraction n

abbrev pub parts-of-one : ℕ → ℕ
parts-of-one n = 2 ^ (150 - exponent n)

pub digits-over-parts : (n : ℕ) → 0 < exponent n → exponent n < 151 → units n * parts-of-one n ≡ with-leading n * one
unfolding units one
digits-over-parts n h k = go (exponent n) h k
  where
    go : (x : ℕ) → 0 < x → x < 151 → digits x (fraction n) * 2 ^ moved x * 2 ^ (150 - x) ≡ (leading + fraction n) * 2 ^ 149
    go zero h k = omega (arith, h)
    go (suc y) h k =
        let places : y + (150 - suc y) ≡ 149 = omega (arith, k) in
        mul_assoc (leading + fraction n) (2 ^ y) (2 ^ (150 - suc y))
        ∙ ap (λ (p : ℕ). (leading + fraction n) * p) (sym (pow-add 2 y (150 - suc y)) ∙ ap (λ (e : ℕ). 2 ^ e) places)

-- ---- a number of the code

-- the sign of a number, and the bits behind it
abbrev pub sign : Float → Bool
sign x = leb sign_bit (to_bits binary32 x)

abbrev pub behind-sign : Float → ℕ
behind-sign x = to_bits binary32 x % sign_bit

-- the digits, the leading one before the fraction
abbrev pub digits-of : Float → ℕ
digits-of x = leading + to_bits binary32 x % leading

pub digits-are : (x : Float) → digits-of x ≡ with-leading (behind-sign x)
digits-are x = omega arith

pub few-digits : (x : Float) → digits-of x < 2 ^ 24
few-digits x = few (to_bits binary32 x % leading) (omega arith)
  where
    few : (t : ℕ) → t < leading → leading + t < 2 ^ 24
    few t h = omega (arith, h)

module _ (x : Float) (held : T (fits binary32 x)) (reach : InReach x) where
  finite : behind-sign x < infinite
  finite = finite-behind x held (reach-finite x reach)

  value : HasValue x (sign x) (units (behind-sign x)) one
  value = subst (λ (y : Float). HasValue y (sign x) (units (behind-sign x)) one) (sym (bits-of x held)) (number-value (sign x) (behind-sign x) finite)

  pub exponent-below-142 : exponent (behind-sign x) < 142
  exponent-below-142 = reach-exponent (behind-sign x) (reach-units x (sign x) (units (behind-sign x)) reach value)

  pub in-units : Same (times 1 x) (exact (sign x) (1 * units (behind-sign x)) one)
  in-units = many 1 x (sign x) (units (behind-sign x)) one value
