-- The product by 8 by its bits: three times doubled. It has 8 times the units, or it is too large and infinite.
use mathlib.Core.Path.{◌≡◌, refl, sym, ap, ◌∙◌, subst}
use mathlib.Core.Logic.{inl, inr}
use mathlib.Core.Bool.{Bool, true, false, cond}
use Prim.Native.Nat.{ℕ, zero, suc, ◌+◌, ◌-◌, ◌*◌, ◌/◌, ◌%◌, ◌^◌, ◌≤◌, ◌<◌, compare}
use native.Mathlib.Nat.{mul-pos, mul_left_comm, mul_right_comm, mul-div_cancel, div-div-eq-div-mul, le-div_iff_mul-le}
use native.Mathlib.Nat.{le_trans, le_of_eq, lt_of_lt_of_le, mul-le-mul_left, mul-le-mul_right, mul-lt-mul_of_pos_left}
use native.Mathlib.Omega.{arith}
use lib.Dec.{lit≤, lit<}
use lib.IntN.{pos}
use lib.Pow.{pow-add, pow_pos}
use lib.Ieee.{Float, nan, inf, fin, binary32, unlike, nearest, odd, size, up, down, mul, round}
use lib.Ieee as Ieee
use lib.Ieee.Digits.{size-le, back}
use lib.Ieee.Fits.{round_is, round-fits, down_pos}
use lib.Ieee.Exact.{HasValue, round_exact}
use lib.Ieee.Nearest.{nearest-ge}
use lib.Ieee.Scale.{round_same}
use Rattle.std.proofs.lemmas.Bool.{le-ltb}
use Rattle.geometry.proofs.Split.{lt-or-ge}
use Rattle.logger.specs.Product.{eightfold, leading, infinite}
use Rattle.logger.proofs.Patterns.{number, number-value, number-infinite, number-fits, same-value}
use Rattle.logger.proofs.Units.{exponent, fraction, digits, moved, units, one, one-pos, units-least, units-below, eight, units-eight, eight-infinite}

-- of a number by any fraction that it equals
product-is : (x : Float) (s : Bool) (a c : ℕ) → 0 < c → HasValue x s a c → eightfold x ≡ round binary32 s (8 * a) c
unfolding mul
product-is nan s a c p h = absurd h
product-is (inf t) s a c p h = absurd h
product-is (fin t m e) s a c p h =
    ap (λ (u : Bool). round binary32 u (m * up e * 8) (down e * 1)) (plain t ∙ h.0)
    ∙ round_same binary32 s (m * up e * 8) (down e * 1) (8 * a) c (mul-pos (down_pos e) (omega arith)) p (crossed (m * up e) (down e) h.1)
  where
    plain : (t : Bool) → unlike t false ≡ t
    plain true = refl
    plain false = refl

    crossed : (w d : ℕ) → w * c ≡ a * d → w * 8 * c ≡ 8 * a * (d * 1)
    crossed w d k = mul_right_comm w 8 c ∙ ap (λ (y : ℕ). y * 8) k ∙ omega arith

-- 24 digits are enough for it
product-kept : (s : Bool) (n : ℕ) → 8 * units n < 2 ^ 277 → HasValue (round binary32 s (8 * units n) one) s (8 * units n) one
unfolding units one
product-kept s n h =
    let q = digits (exponent n) (fraction n) in
    let j = 3 + moved (exponent n) in
    let same : q * 2 ^ j ≡ 8 * units n =
    ap (λ (p : ℕ). q * p) (pow-add 2 3 (moved (exponent n))) ∙ mul_left_comm q 8 (2 ^ moved (exponent n)) in
    round_exact binary32 s (8 * units n) one q j one-pos (few (exponent n) (fraction n) (omega arith))
    (subst (λ (u : ℕ). u < 2 ^ 277) (sym same) h) (ap (λ (u : ℕ). u * 2 ^ 149) (sym same))
  where
    few : (x t : ℕ) → t < leading → digits x t < 2 ^ 24
    few zero t h = omega (arith, h)
    few (suc x) t h = omega (arith, h)

infinite-from : (s : Bool) (q k : ℕ) → 2 ^ 277 ≤ q * 2 ^ k → Ieee.units binary32 s q k ≡ inf s
unfolding Ieee.units
infinite-from s q k h = ap (λ (b : Bool). cond b (odd 25 s q k 149) (inf s)) (le-ltb (q * 2 ^ k) (2 ^ 277) h)

-- From 2 ^ 128 on, which is 2 ^ 277 units, a number is rounded to an infinity, here up to 2 ^ 152, more than any product by 8 has: k digits
-- are dropped, and what is kept is no less than it would be of 2 ^ 277.
rounded-to-infinity : (s : Bool) (a : ℕ) → 2 ^ 277 ≤ a → a < 2 ^ 301 → round binary32 s a one ≡ inf s
unfolding one
rounded-to-infinity s a h top =
    let n = a * 2 ^ 149 in
    let whole : n / 2 ^ 149 ≡ a = mul-div_cancel a (pow_pos 149) in
    let k = size (n / 2 ^ 149) - 24 in
    let few : k ≤ 277 = omega (arith, size-le (n / 2 ^ 149) 301 (subst (λ (x : ℕ). x < 2 ^ 301) (sym whole) top)) in
    let unit = 2 ^ 149 * 2 ^ k in
    let tie = compare (n % unit * 2) unit in
    let both : 2 ^ (277 - k) * 2 ^ k ≡ 2 ^ 277 = sym (pow-add 2 (277 - k) k) ∙ ap (λ (x : ℕ). 2 ^ x) (back 277 k few) in
    let part : a / 2 ^ k ≡ n / unit = sym (ap (λ (x : ℕ). x / 2 ^ k) whole) ∙ div-div-eq-div-mul n (2 ^ 149) (2 ^ k) in
    let least : 2 ^ (277 - k) ≤ a / 2 ^ k = (le-div_iff_mul-le (pow_pos k)).1 (le_trans (le_of_eq both) h) in
    let kept : 2 ^ (277 - k) ≤ nearest (n / unit) tie = le_trans least (le_trans (le_of_eq part) (nearest-ge (n / unit) tie)) in
    round_is binary32 s a (2 ^ 149)
    ∙ infinite-from s (nearest (n / unit) tie) k (le_trans (le_of_eq (sym both)) (mul-le-mul_right (2 ^ k) kept))

-- the bits that are three times doubled have 8 times the value, where they are not an infinity's
pub eight-value : (s : Bool) (n : ℕ) → eight n < infinite → HasValue (number s (eight n)) s (8 * units n) one
eight-value s n finite =
    subst (λ (u : ℕ). HasValue (number s (eight n)) s u one) (units-eight n finite) (number-value s (eight n) finite)

-- the product by 8 of a finite number, by its bits
pub product : (s : Bool) (n : ℕ) → n < infinite → eightfold (number s n) ≡ number s (eight n)
product s n h =
    product-is (number s n) s (units n) one one-pos (number-value s n h)
    ∙ elim (lt-or-ge (eight n) infinite) [
      | inl finite ↦
          let few : 8 * units n < 2 ^ 277 =
          subst (λ (u : ℕ). u < 2 ^ 277) (units-eight n finite) (units-below 253 (eight n) (omega (arith, finite))) in
          same-value (round binary32 s (8 * units n) one) (number s (eight n)) s (8 * units n) one
          (round-fits binary32 s (8 * units n) one) (number-fits s (eight n) (omega (arith, finite))) one-pos (product-kept s n few) (eight-value s n finite)
      | inr high ↦
          let far = eight-infinite n high in
          let below : 8 * units n < 8 * 2 ^ 277 = mul-lt-mul_of_pos_left (units-below 253 n (omega (arith, h))) (lit< tt) in
          rounded-to-infinity s (8 * units n) (mul-le-mul_left 8 (units-least 251 n far.1)) (lt_of_lt_of_le below (lit≤ tt))
          ∙ sym (number-infinite s) ∙ ap (number s) (sym far.0)
    ]

-- the constant of the code
pub eight-is : Ieee.of_bits binary32 0x4100_0000 ≡ fin false 1 (pos 3)
unfolding Ieee.of_bits
eight-is = refl
