-- The product by 8 of a number by its bits: it is exact wherever it is finite, and where it is infinite eight times the number is too large.
use mathlib.Core.Path.{◌≡◌, refl, sym, ap, ◌∙◌, subst}
use mathlib.Core.Logic.{inl, inr}
use mathlib.Core.Bool.{Bool, true, false, not, cond}
use Prim.Native.Nat.{ℕ, ◌+◌, ◌*◌, ◌%◌, ◌^◌, ◌≤◌, ◌<◌}
use native.Mathlib.Nat.{eq-or-lt_of_le, le_trans, one-mul, mul-le-mul_left}
use native.Mathlib.Omega.{arith}
use lib.Dec.{T, leb, nltb→le, lit≤}
use lib.Ieee.{Float, nan, inf, fin, binary32, fits, of_bits, to_bits, is_nan, mul}
use lib.Ieee.Bits.{to_bits-of_bits, nan_bits_is, nan_bits_above}
use lib.Ieee.Exact.{HasValue}
use Rattle.std.specs.Float.{float_is_finite, NotNan}
use Rattle.geometry.proofs.Split.{lt-or-ge}
use Rattle.logger.specs.Value.{times}
use Rattle.logger.specs.Product.{eightfold, Same, sign_bit, infinite, doubled, eightfold_bits}
use Rattle.logger.proofs.Exacts.{exact, same-back, same-on, many}
use Rattle.logger.proofs.Patterns.{number, number-value, number-infinite, finite-behind, bits-of, read-bits, written-bits}
use Rattle.logger.proofs.Units.{exponent, units, one, one-pos, eight, doubled-most, units-least, eight-infinite}
use Rattle.logger.proofs.Eightfold.{eight-value, product}

-- a finite product has a finite factor
pub factor-finite : (x : Float) → float_is_finite (eightfold x) ≡ true → float_is_finite x ≡ true
unfolding float_is_finite mul
factor-finite nan h = h
factor-finite (inf s) h = h
factor-finite (fin s m e) h = refl

-- a finite number's bits
finite-pattern : (x : Float) → T (fits binary32 x) → float_is_finite x ≡ true → (s : Bool) × (n : ℕ) × (n < infinite) × (x ≡ number s n)
finite-pattern x h k =
    let s = leb sign_bit (to_bits binary32 x) in
    let n = to_bits binary32 x % sign_bit in
    (s, n, finite-behind x h k, bits-of x h)

-- what becomes of its eightfold
pub data Eightfold (x : Float) : Type 0 where
  kept : float_is_finite (eightfold x) ≡ true → Same (times 1 (eightfold x)) (times 8 x) → Eightfold x
  lost : (s : Bool) (n : ℕ) → eightfold x ≡ inf s → Same (times 8 x) (exact s n one) → 0x8000 * one ≤ n → Eightfold x

value-finite : (x : Float) (s : Bool) (a c : ℕ) → HasValue x s a c → float_is_finite x ≡ true
unfolding float_is_finite
value-finite nan s a c h = absurd h
value-finite (inf t) s a c h = absurd h
value-finite (fin t m e) s a c h = refl

far : (n : ℕ) → 251 < exponent n → 0x8000 * one ≤ 8 * units n
unfolding one
far n h =
    let least : 0x8000 * 2 ^ 149 ≤ 8 * 2 ^ 274 = lit≤ tt in
    le_trans least (mul-le-mul_left 8 (units-least 251 n h))

of-pattern : (s : Bool) (n : ℕ) → n < infinite → Eightfold (number s n)
of-pattern s n h = elim (lt-or-ge (eight n) infinite) [
  | inl finite ↦
      let value : HasValue (eightfold (number s n)) s (8 * units n) one =
      subst (λ (y : Float). HasValue y s (8 * units n) one) (sym (product s n h)) (eight-value s n finite) in
      let one-times : Same (times 1 (eightfold (number s n))) (exact s (8 * units n) one) =
      subst (λ (u : ℕ). Same (times 1 (eightfold (number s n))) (exact s u one)) (one-mul (8 * units n))
      (many 1 (eightfold (number s n)) s (8 * units n) one value) in
      let eight-times : Same (times 8 (number s n)) (exact s (8 * units n) one) = many 8 (number s n) s (units n) one (number-value s n h) in
      kept (value-finite (eightfold (number s n)) s (8 * units n) one value)
      (same-on (times 1 (eightfold (number s n))) (exact s (8 * units n) one) (times 8 (number s n)) one-pos one-times
      (same-back (times 8 (number s n)) (exact s (8 * units n) one) eight-times))
  | inr high ↦
      let infinity = eight-infinite n high in
      lost s (8 * units n) (product s n h ∙ ap (number s) infinity.0 ∙ number-infinite s) (many 8 (number s n) s (units n) one (number-value s n h))
      (far n infinity.1)
]

pub of-finite : (x : Float) → T (fits binary32 x) → float_is_finite x ≡ true → Eightfold x
of-finite x h k = let pattern = finite-pattern x h k in subst Eightfold (sym pattern.3) (of-pattern pattern.0 pattern.1 pattern.2)

-- ---- its bits

-- a number that is no NaN is written with the bits that it was read from
to-bits : (s : Bool) (n : ℕ) → n ≤ infinite → NotNan (number s n) → to_bits binary32 (number s n) ≡ cond s sign_bit 0 + n
to-bits s n h k =
    let is = written-bits s n (omega (arith, h)) in
    ap (to_bits binary32) (sym is) ∙ to_bits-of_bits binary32 (cond s sign_bit 0 + n) (wide s) (subst NotNan (sym is) k)
  where
    wide : (s : Bool) → cond s sign_bit 0 + n < 2 * sign_bit
    wide true = omega (arith, h)
    wide false = omega (arith, h)

value-no-nan : (x : Float) (s : Bool) (a c : ℕ) → HasValue x s a c → NotNan x
unfolding is_nan
value-no-nan nan s a c h = absurd h
value-no-nan (inf t) s a c h = absurd h
value-no-nan (fin t m e) s a c h = tt

infinity-no-nan : (s : Bool) → NotNan (number s infinite)
unfolding is_nan
infinity-no-nan s = subst NotNan (sym (number-infinite s)) tt

number-no-nan : (s : Bool) (n : ℕ) → n ≤ infinite → NotNan (number s n)
number-no-nan s n h = elim (eq-or-lt_of_le h) [
  | inl infinity ↦ subst (λ (k : ℕ). NotNan (number s k)) (sym infinity) (infinity-no-nan s)
  | inr finite ↦ value-no-nan (number s n) s (units n) one (number-value s n finite)
]

infinity-product : (s : Bool) → eightfold (inf s) ≡ inf s
unfolding mul
infinity-product true = refl
infinity-product false = refl

infinity-doubled : eight infinite ≡ infinite
unfolding doubled
infinity-doubled = refl

-- that of an infinity too
any-product : (s : Bool) (n : ℕ) → n ≤ infinite → eightfold (number s n) ≡ number s (eight n)
any-product s n h = elim (eq-or-lt_of_le h) [
  | inl infinity ↦
      ap (λ (k : ℕ). eightfold (number s k)) infinity ∙ ap eightfold (number-infinite s) ∙ infinity-product s ∙ sym (number-infinite s)
      ∙ ap (number s) (sym infinity-doubled ∙ ap eight (sym infinity))
  | inr finite ↦ product s n finite
]

not-above-infinite : (b : ℕ) → NotNan (of_bits binary32 b) → b % sign_bit ≤ infinite
not-above-infinite b h =
    nltb→le infinite (b % sign_bit) (subst (λ (t : Bool). T (not t)) (sym (nan_bits_is binary32 b) ∙ nan_bits_above binary32 b) h)

pub by-bits : (b : ℕ) → NotNan (of_bits binary32 b) → to_bits binary32 (eightfold (of_bits binary32 b)) ≡ eightfold_bits b
by-bits b h =
    let s = leb sign_bit b in
    let n = b % sign_bit in
    let most = doubled-most (doubled (doubled n)) in
    ap (λ (x : Float). to_bits binary32 (eightfold x)) (read-bits b) ∙ ap (to_bits binary32) (any-product s n (not-above-infinite b h))
    ∙ to-bits s (eight n) most (number-no-nan s (eight n) most)
