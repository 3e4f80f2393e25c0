-- A finite number by the 31 bits behind its sign: its digits, moved up by its exponent, counted in units of the least number, 2 ^ -149. Twice
-- a number has twice the units, and the exponent bounds them.
use mathlib.Core.Path.{◌≡◌, sym, ap, ◌∙◌, subst}
use mathlib.Core.Logic.{inl, inr}
use mathlib.Core.Bool.{Bool, cond}
use Prim.Native.Nat.{ℕ, zero, suc, ◌+◌, ◌-◌, ◌*◌, ◌/◌, ◌%◌, ◌^◌, ◌≤◌, ◌<◌, min}
use native.Mathlib.Nat.{pow-succ', mul-le-mul, mul-one, mul_left_comm, le_trans, le_of_eq, lt_of_lt_of_le}
use native.Mathlib.Omega.{arith}
use lib.Dec.{lit≤}
use lib.Arith.{digits_div, digits_mod}
use lib.Pow.{pow-add, pow_pos, pow_mono, shl_lt}
use Rattle.geometry.proofs.Split.{by-ltb, lt-or-ge}
use Rattle.logger.specs.Product.{leading, infinite, doubled}

abbrev pub exponent : ℕ → ℕ
exponent n = n / leading

abbrev pub fraction : ℕ → ℕ
fraction n = n % leading

abbrev pub digits : ℕ → ℕ → ℕ
digits zero t = t
digits (suc x) t = leading + t

-- how many places they are moved up: an exponent of 0 counts as one of 1
abbrev pub moved : ℕ → ℕ
moved zero = 0
moved (suc x) = x

unfoldable pub units : ℕ → ℕ
units n = digits (exponent n) (fraction n) * 2 ^ moved (exponent n)

-- how many units are 1
unfoldable pub one : ℕ
one = 2 ^ 149

pub one-pos : 0 < one
unfolding one
one-pos = pow_pos 149

-- ---- the units of twice a number

split : (n : ℕ) → n ≡ exponent n * leading + fraction n
split n = omega arith

units-of : (x t : ℕ) → t < leading → units (x * leading + t) ≡ digits x t * 2 ^ moved x
unfolding units
units-of x t h = ap (λ (y : ℕ). digits y (fraction (x * leading + t)) * 2 ^ moved y) (digits_div x h)
    ∙ ap (λ (y : ℕ). digits x y * 2 ^ moved x) (digits_mod x h)

-- bits that have no leading digit before the fraction
pub units-low : (n : ℕ) → n < leading → units n ≡ n
units-low n h = ap units (omega arith) ∙ units-of 0 n h ∙ mul-one n

-- one exponent more is twice as much
raised : (x t : ℕ) → t < leading → leading ≤ x * leading + t → units (x * leading + t + leading) ≡ 2 * units (x * leading + t)
raised zero t h low = omega (arith, h, low)
raised (suc y) t h low =
    ap units (omega arith) ∙ units-of (suc (suc y)) t h
    ∙ ap (λ (p : ℕ). (leading + t) * p) (pow-succ' 2 y) ∙ mul_left_comm (leading + t) 2 (2 ^ y)
    ∙ ap (λ (u : ℕ). 2 * u) (sym (units-of (suc y) t h))

-- a fraction that is moved up, and may carry
carried : (n : ℕ) → n < leading → units (2 * n) ≡ 2 * units n
carried n h = elim (lt-or-ge (2 * n) leading) [
  | inl low ↦ units-low (2 * n) low ∙ ap (λ (u : ℕ). 2 * u) (sym (units-low n h))
  | inr high ↦
      ap units (omega (arith, high)) ∙ units-of 1 (2 * n - leading) (omega (arith, h)) ∙ mul-one (leading + (2 * n - leading))
      ∙ omega (arith, high) ∙ ap (λ (u : ℕ). 2 * u) (sym (units-low n h))
]

units-doubled : (n : ℕ) → doubled n < infinite → units (doubled n) ≡ 2 * units n
unfolding doubled
units-doubled n =
    by-ltb n leading
    (λ (t : Bool). cond t (2 * n) (min (n + leading) infinite) < infinite → units (cond t (2 * n) (min (n + leading) infinite)) ≡ 2 * units n)
    (λ low h. carried n low)
    (λ high h. ap units (omega (arith, h) ∙ ap (λ (k : ℕ). k + leading) (split n))
    ∙ raised (exponent n) (fraction n) (omega arith) (omega (arith, high)) ∙ ap (λ (k : ℕ). 2 * units k) (sym (split n)))

-- ---- by how far the bits bound the units

pub units-least : (k n : ℕ) → k < exponent n → 2 ^ (23 + k) ≤ units n
units-least k n h = subst (λ (b : ℕ). 2 ^ (23 + k) ≤ units b) (sym (split n)) (go (exponent n) (fraction n) (omega arith) h)
  where
    go : (x t : ℕ) → t < leading → k < x → 2 ^ (23 + k) ≤ units (x * leading + t)
    go zero t h k_lt = omega (arith, k_lt)
    go (suc y) t h k_lt =
        le_trans (le_of_eq (pow-add 2 23 k))
        (le_trans (mul-le-mul (omega arith) (pow_mono (omega (arith, k_lt)))) (le_of_eq (sym (units-of (suc y) t h))))

pub units-below : (k n : ℕ) → exponent n ≤ suc k → units n < 2 ^ (24 + k)
unfolding units
units-below k n h = go (exponent n) (fraction n) (omega arith) h
  where
    go : (x t : ℕ) → t < leading → x ≤ suc k → digits x t * 2 ^ moved x < 2 ^ (24 + k)
    go zero t h x_le = lt_of_lt_of_le (shl_lt 24 0 (omega (arith, h))) (pow_mono {i = 24} (omega arith))
    go (suc y) t h x_le = lt_of_lt_of_le (shl_lt 24 y (omega (arith, h))) (pow_mono (omega (arith, x_le)))

-- ---- three times doubled

abbrev pub eight : ℕ → ℕ
eight n = doubled (doubled (doubled n))

pub doubled-most : (n : ℕ) → doubled n ≤ infinite
unfolding doubled
doubled-most n = by-ltb n leading (λ (t : Bool). cond t (2 * n) (min (n + leading) infinite) ≤ infinite) (λ low. omega (arith, low)) (λ high. omega arith)

-- from the bits 2 * leading on a doubling adds at most one exponent
halved : (c n : ℕ) → 2 * leading ≤ c → c ≤ doubled n → c ≤ n + leading
unfolding doubled
halved c n two =
    by-ltb n leading (λ (t : Bool). c ≤ cond t (2 * n) (min (n + leading) infinite) → c ≤ n + leading)
    (λ low h. omega (arith, low, h, two)) (λ high h. omega (arith, h))

-- what is doubled to less than an infinity was less
before : (n : ℕ) → doubled n < infinite → n < infinite
unfolding doubled
before n =
    by-ltb n leading (λ (t : Bool). cond t (2 * n) (min (n + leading) infinite) < infinite → n < infinite)
    (λ low h. omega (arith, low)) (λ high h. omega (arith, h))

pub units-eight : (n : ℕ) → eight n < infinite → units (eight n) ≡ 8 * units n
units-eight n h =
    let second = before (doubled (doubled n)) h in
    let first = before (doubled n) second in
    units-doubled (doubled (doubled n)) h
    ∙ ap (λ (u : ℕ). 2 * u) (units-doubled (doubled n) second ∙ ap (λ (u : ℕ). 2 * u) (units-doubled n first))
    ∙ omega arith

-- else it has the infinity's bits, and the exponent was at least 252
pub eight-infinite : (n : ℕ) → infinite ≤ eight n → (eight n ≡ infinite) × (251 < exponent n)
eight-infinite n h =
    let third : infinite ≤ doubled (doubled n) + leading = halved infinite (doubled (doubled n)) (lit≤ tt) h in
    let second : infinite - leading ≤ doubled n + leading = halved (infinite - leading) (doubled n) (lit≤ tt) (omega (arith, third)) in
    let first : infinite - 2 * leading ≤ n + leading = halved (infinite - 2 * leading) n (lit≤ tt) (omega (arith, second)) in
    (omega (arith, h, doubled-most (doubled (doubled n))), omega (arith, first))
