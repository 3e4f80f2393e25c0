-- The decimal digits of a number below 100,000 are those that the library writes, and they stand for that number. From 10 on both are the
-- digits of the number without its last digit, and then that one; a power of ten that the number reaches is one that it reaches with a
-- digit less, ten times smaller.
use mathlib.Core.Path.{◌≡◌, refl, sym, ◌∙◌, ap}
use mathlib.Core.List.{List, [], ◌∷◌, ◌++◌, append_assoc}
use mathlib.Core.Logic.{◌↔◌}
use Prim.Native.Nat.{ℕ, ◌+◌, ◌-◌, ◌*◌, ◌/◌, ◌%◌, ◌≤◌, ◌<◌}
use native.Mathlib.Omega.{arith}
use native.Mathlib.Decide.{dec_le}
use borrow.Author.Tests.{le-leb, lt-leb}
use Rattle.std.specs.Fmt as library
use Rattle.std.proofs.lemmas.Fmt.{decimal_by_steps}
use Rattle.listing.specs.Text.{digit_at, decimal}

-- one digit of two numbers
same-digit : (p q m n : ℕ) → (p ≤ m ↔ q ≤ n) → m / p ≡ n / q → digit_at p m ≡ digit_at q n
same-digit p q m n reaches e =
    elim (dec_le p m) [
      | yes a ↦ rw (le-leb p m a, le-leb q n (reaches.0 a), e)
      | no a ↦ rw (lt-leb p m (omega arith), lt-leb q n (elim (dec_le q n) [ yes b ↦ absurd (a (reaches.1 b)) | no b ↦ omega arith ]))
    ]

-- a number of one digit, and of more
pub one_digit : (n : ℕ) → n < 10 → decimal n ≡ (48 + n) ∷ []
unfolding decimal
one_digit n h =
    let last : n % 10 ≡ n = omega arith in
    rw (lt-leb 10000 n (omega arith), lt-leb 1000 n (omega arith), lt-leb 100 n (omega arith), lt-leb 10 n h, last)

last-digit : (n : ℕ) → 10 ≤ n → n < 100000 → decimal n ≡ decimal (n / 10) ++ ((48 + n % 10) ∷ [])
unfolding decimal
last-digit n some small =
    rw (
      lt-leb 10000 (n / 10) (omega arith),
      same-digit 1000 10000 (n / 10) n (λ h. omega arith, λ h. omega arith) (omega arith),
      same-digit 100 1000 (n / 10) n (λ h. omega arith, λ h. omega arith) (omega arith),
      same-digit 10 100 (n / 10) n (λ h. omega arith, λ h. omega arith) (omega arith),
      le-leb 10 n some,
    )
    (simp append_assoc)

-- so they are what the library writes
pub library_decimal : (n : ℕ) → n < 100000 → library.decimal n ≡ decimal n
library_decimal n small =
    decimal_by_steps (λ m ds. m < 100000 → ds ≡ decimal m)
    (λ m h few. sym (one_digit m h))
    (λ m ds some h few. ap (λ (xs : List ℕ). xs ++ ((48 + m % 10) ∷ [])) (h (omega arith)) ∙ sym (last-digit m some few))
    n (omega arith) small

-- the number that digits stand for, behind the digits of n
abbrev pub value_from : ℕ → List ℕ → ℕ
value_from n [] = n
value_from n (d ∷ ds) = value_from (n * 10 + (d - 48)) ds

value-last : (n : ℕ) (ds : List ℕ) (d : ℕ) → value_from n (ds ++ d ∷ []) ≡ value_from n ds * 10 + (d - 48)
value-last n [] d = refl
value-last n (x ∷ ds) d = value-last (n * 10 + (x - 48)) ds d

-- a number below 100,000
pub decimal-value : (n : ℕ) → n < 100000 → value_from 0 (decimal n) ≡ n
decimal-value n small =
    ap (value_from 0) (sym (library_decimal n small))
    ∙ decimal_by_steps (λ m ds. value_from 0 ds ≡ m) (λ m h. omega arith)
    (λ m ds some h. value-last 0 ds (48 + m % 10) ∙ omega (arith, h)) n (omega arith)
