-- What the bits of a binary32 number say of its value, and that a value has one pattern.
use mathlib.Core.Path.{◌≡◌, refl, sym, ap, ◌∙◌, subst}
use mathlib.Core.Logic.{inl, inr}
use mathlib.Core.Bool.{Bool, true, false, cond}
use Prim.Native.Nat.{ℕ, zero, suc, ◌+◌, ◌-◌, ◌*◌, ◌/◌, ◌%◌, ◌^◌, ◌≤◌, ◌<◌}
use native.Mathlib.Nat.{mul_right_comm}
use native.Mathlib.Omega.{arith}
use lib.Dec.{T, leb, eqb}
use lib.IntN.{ℤ}
use lib.Ieee.{Float, nan, inf, fin, binary32, prec, hid, top, size, up, down, fits, is_nan, of_fields, of_bits, to_bits}
use lib.Ieee.Bits.{of_bits-to_bits, of_bits-fits}
use lib.Ieee.Fits.{down_pos}
use lib.Ieee.Exact.{HasValue, odd_sign}
use lib.Ieee.Nearest.{div_same}
use Rattle.std.proofs.lemmas.Bool.{ne_eqb, le-leb, lt-leb, false≢true}
use Rattle.std.specs.Float.{float_is_finite}
use Rattle.geometry.proofs.Split.{lt-or-ge}
use Rattle.logger.specs.Product.{leading, infinite, sign_bit}
use Rattle.logger.proofs.Units.{exponent, fraction, digits, moved, units, one}

-- the number that has a sign and the bits behind it
abbrev pub number : Bool → ℕ → Float
number s n = of_fields binary32 s (exponent n) (fraction n)

pub read-bits : (b : ℕ) → of_bits binary32 b ≡ number (leb sign_bit b) (b % sign_bit)
unfolding of_bits
read-bits b = ap (of_fields binary32 (leb sign_bit b) (b % sign_bit / leading)) (omega arith)

-- so every number of 32 bits has a sign and such bits
pub bits-of : (x : Float) → T (fits binary32 x) → x ≡ number (leb sign_bit (to_bits binary32 x)) (to_bits binary32 x % sign_bit)
bits-of x h = sym (of_bits-to_bits binary32 x h) ∙ read-bits (to_bits binary32 x)

-- and the pattern that is made of them is read as their number
pub written-bits : (s : Bool) (n : ℕ) → n < sign_bit → of_bits binary32 (cond s sign_bit 0 + n) ≡ number s n
written-bits s n h = read-bits (cond s sign_bit 0 + n) ∙ apart s
  where
    apart : (s : Bool) → number (leb sign_bit (cond s sign_bit 0 + n)) ((cond s sign_bit 0 + n) % sign_bit) ≡ number s n
    apart true = ap (λ (t : Bool). number t ((sign_bit + n) % sign_bit)) (le-leb sign_bit (sign_bit + n) (omega arith)) ∙ ap (number true) (omega (arith, h))
    apart false = ap (λ (t : Bool). number t ((0 + n) % sign_bit)) (lt-leb sign_bit (0 + n) (omega (arith, h))) ∙ ap (number false) (omega (arith, h))

pub number-fits : (s : Bool) (n : ℕ) → n < sign_bit → T (fits binary32 (number s n))
number-fits s n h = subst (λ (x : Float). T (fits binary32 x)) (written-bits s n h) (of_bits-fits binary32 (cond s sign_bit 0 + n))

fields-value : (s : Bool) (x t : ℕ) → x < 255 → HasValue (of_fields binary32 s x t) s (digits x t * 2 ^ moved x) one
unfolding of_fields one
fields-value s zero t h = odd_sign 24 s t 0 149
fields-value s (suc x) t h =
    subst (λ (b : Bool). HasValue (cond b (cond (eqb t 0) (inf s) nan) (lib.Ieee.odd 24 s (leading + t) x 149)) s ((leading + t) * 2 ^ x) (2 ^ 149))
    (sym (ne_eqb (suc x) 255 (λ e. omega (arith, h, e)))) (odd_sign 24 s (leading + t) x 149)

pub number-value : (s : Bool) (n : ℕ) → n < infinite → HasValue (number s n) s (units n) one
unfolding units
number-value s n h = fields-value s (exponent n) (fraction n) (omega (arith, h))

-- the infinity
pub number-infinite : (s : Bool) → number s infinite ≡ inf s
unfolding of_fields
number-infinite s = refl

-- the bits of a finite number are below it
finite-bits : (s : Bool) (n : ℕ) → n < sign_bit → float_is_finite (number s n) ≡ true → n < infinite
unfolding of_fields float_is_finite
finite-bits s n h k = elim (lt-or-ge n infinite) [
  | inl low ↦ low
  | inr high ↦ absurd (differ (eqb (fraction n) 0) (subst (λ (x : ℕ). float_is_finite (of_fields binary32 s x (fraction n)) ≡ true) (ones high) k))
]
  where
    ones : infinite ≤ n → exponent n ≡ 255
    ones high = omega (arith, h, high)

    differ : (b : Bool) → float_is_finite (cond b (inf s) nan) ≡ true → ⊥
    differ true e = false≢true e
    differ false e = false≢true e

pub finite-behind : (x : Float) → T (fits binary32 x) → float_is_finite x ≡ true → to_bits binary32 x % sign_bit < infinite
finite-behind x h k =
    finite-bits (leb sign_bit (to_bits binary32 x)) (to_bits binary32 x % sign_bit) (omega arith)
    (subst (λ (y : Float). float_is_finite y ≡ true) (bits-of x h) k)

-- ---- a value has one pattern

-- the number of units of a finite value
of-units : (s : Bool) (m : ℕ) (e : ℤ) (a c : ℕ) → 0 < c → HasValue (fin s m e) s a c
    → m * up e * 2 ^ 149 / down e ≡ a * 2 ^ 149 / c
of-units s m e a c p h =
    div_same (m * up e * 2 ^ 149) (down e) (a * 2 ^ 149) c (down_pos e) p
    (mul_right_comm (m * up e) (2 ^ 149) c ∙ ap (λ (x : ℕ). x * 2 ^ 149) h.1 ∙ mul_right_comm a (down e) (2 ^ 149))

-- the pattern of a finite value, which turns on its sign and its units alone
abbrev written : Bool → ℕ → ℕ
written s n = let k = size n - prec binary32 in cond s (top binary32) 0 + k * hid binary32 + n / 2 ^ k

same-bits : (x y : Float) (s : Bool) (a c : ℕ) → 0 < c → HasValue x s a c → HasValue y s a c → to_bits binary32 x ≡ to_bits binary32 y
unfolding to_bits
same-bits nan y s a c p h k = absurd h
same-bits (inf t) y s a c p h k = absurd h
same-bits (fin t m e) nan s a c p h k = absurd k
same-bits (fin t m e) (inf u) s a c p h k = absurd k
same-bits (fin t m e) (fin u n d) s a c p h k =
    ap (λ (b : Bool). written b (m * up e * 2 ^ 149 / down e)) (h.0 ∙ sym k.0)
    ∙ ap (written u) (of-units t m e a c p (refl, h.1) ∙ sym (of-units u n d a c p (refl, k.1)))

pub same-value : (x y : Float) (s : Bool) (a c : ℕ) → T (fits binary32 x) → T (fits binary32 y) → 0 < c
    → HasValue x s a c → HasValue y s a c → x ≡ y
same-value x y s a c f g p h k =
    sym (of_bits-to_bits binary32 x f) ∙ ap (of_bits binary32) (same-bits x y s a c p h k) ∙ of_bits-to_bits binary32 y g
