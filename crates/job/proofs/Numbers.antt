-- A number of one byte or of two, written and read back, is the same number; read and written back, it is the same bytes.
-- The most significant byte comes first, so two bytes stand for 256 times the first plus the second, and division by 256 and its rest
-- give them back.
use mathlib.Core.Path.{◌≡◌, refl, ap}
use mathlib.Core.List.{List, [], ◌∷◌}
use Prim.Native.Nat.{ℕ, zero, suc, ◌+◌, ◌*◌, ◌/◌, ◌%◌, ◌<◌}
use native.Mathlib.Omega.{arith}
use lib.ListN.{length, get_or}
use Rattle.job.specs.Number.{big_endian, bytes_of}

-- what one byte and two bytes stand for
pub one_byte : (b : ℕ) → big_endian (b ∷ []) ≡ b
unfolding big_endian
one_byte b = omega arith

pub two_bytes : (h l : ℕ) → big_endian (h ∷ l ∷ []) ≡ h * 256 + l
unfolding big_endian
two_bytes h l = omega arith

-- the number of one byte or two that stand in a list
pub number-of-one : (bs : List ℕ) → length bs ≡ 1 → big_endian bs ≡ get_or bs 0 0
number-of-one [] h = absurd (omega arith)
number-of-one (b ∷ []) h = one_byte b
number-of-one (b ∷ e ∷ bs) h = absurd (omega arith)

pub number-of-two : (bs : List ℕ) → length bs ≡ 2 → big_endian bs ≡ get_or bs 0 0 * 256 + get_or bs 1 0
number-of-two [] h = absurd (omega arith)
number-of-two (b ∷ []) h = absurd (omega arith)
number-of-two (b ∷ e ∷ []) h = two_bytes b e
number-of-two (b ∷ e ∷ f ∷ bs) h = absurd (omega arith)

-- the bytes of a number
pub bytes_one : (n : ℕ) → bytes_of 1 n ≡ n % 256 ∷ []
unfolding bytes_of
bytes_one n = ap (λ (k : ℕ). k ∷ []) (omega arith)

pub bytes-two : (n : ℕ) → bytes_of 2 n ≡ n / 256 % 256 ∷ n % 256 ∷ []
unfolding bytes_of
bytes-two n = ap (λ (k : ℕ). n / 256 % 256 ∷ k ∷ []) (omega arith)

-- as many as the width
pub bytes-length : (width n : ℕ) → length (bytes_of width n) ≡ width
unfolding bytes_of
bytes-length zero n = refl
bytes-length (suc width) n = ap suc (bytes-length width n)

-- written and read back
pub back_one : (n : ℕ) → n < 256 → big_endian (bytes_of 1 n) ≡ n
back_one n h = rw (bytes_one n, one_byte (n % 256)) (omega arith)

pub back-two : (n : ℕ) → n < 65536 → big_endian (bytes_of 2 n) ≡ n
back-two n h = rw (bytes-two n, two_bytes (n / 256 % 256) (n % 256)) (omega arith)

mod-small : (a : ℕ) → a < 256 → a % 256 ≡ a
mod-small a h = omega arith

-- read and written back
pub same-one : (a : ℕ) → a < 256 → bytes_of 1 (big_endian (a ∷ [])) ≡ a ∷ []
same-one a h = rw (bytes_one (big_endian (a ∷ [])), one_byte a) (ap (λ (k : ℕ). k ∷ []) (mod-small a h))

pub same-two : (a b : ℕ) → a < 256 → b < 256 → bytes_of 2 (big_endian (a ∷ b ∷ [])) ≡ a ∷ b ∷ []
same-two a b h k =
    let e : (a * 256 + b) / 256 % 256 ≡ a = omega arith in
    let f : (a * 256 + b) % 256 ≡ b = omega arith in
    rw (bytes-two (big_endian (a ∷ b ∷ [])), two_bytes a b, e, f) refl
