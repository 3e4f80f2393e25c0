-- Signed coordinates of 16 bits and their dots: sums, differences and tests of one are those of the other.
-- A dot is the coordinate's distance from −32,768, a natural number for every coordinate that 16 bits hold. So both grow and fall alike
-- and have the same order, and where a sum or a difference stays within 16 bits nothing is lost.
use mathlib.Core.Path.{◌≡◌, refl, sym, ◌∙◌, ap, ap₂}
use mathlib.Core.Bool.{Bool, true, not}
use Prim.Native.Nat.{ℕ, zero, suc, ◌+◌, ◌-◌, ◌≤◌, ◌<◌}
use native.Mathlib.Omega.{arith}
use lib.Dec.{leb, ltb}
use lib.IntN.{ℤ, pos, negsuc, sub_ℕ, ◌+ℤ◌, ◌-ℤ◌}
use lib.Signed.{mag, le_z, lt_z}
use mir.Syntax.{w16}
use mir.Val.{SFits, to_z, of_z}
use mir.ValLaws.{to_z-of_z}
use borrow.Author.Tests.{leb-true, le-leb, lt-leb}
use Rattle.geometry.specs.Dot.{dot}
use Rattle.geometry.specs.Mark.{place_in_range_lem}
use Rattle.geometry.specs.inner.Place.{least_dot, most_dot}
use Rattle.geometry.proofs.Split.{by-ltb, and-fst, same_test}

-- a number that went through 16 bits is itself
pub back : {z : ℤ} → SFits w16 z → to_z w16 (of_z w16 z) ≡ z
back {z} h = to_z-of_z w16 z h

-- 16 bits hold what is less than 32,768 away from 0
pub held : {z : ℤ} → mag z < 32768 → SFits w16 z
held h = record { sfits = h }

-- so it comes back from them
pub fetched : (z : ℤ) → mag z < 32768 → to_z w16 (of_z w16 z) ≡ z
fetched z h = to_z-of_z w16 z (held h)

-- at least −32,768: what its dot needs to be its distance from there
abbrev pub NotLow : ℤ → Type 0
NotLow (pos n) = Unit {0}
NotLow (negsuc n) = n < 32768

-- so is every number that 16 bits hold
pub not_low : (z : ℤ) → mag z < 32768 → NotLow z
not_low (pos n) h = tt
not_low (negsuc n) h = h

-- tests of numbers from −32,768 on are the tests of their dots
pub dot-le-high : (z w : ℤ) → NotLow z → NotLow w → le_z z w ≡ leb (dot z) (dot w)
dot-le-high (pos a) (pos b) h k = same_test a b (a + 32768) (b + 32768) (omega arith) (omega arith)
dot-le-high (pos a) (negsuc b) h k = sym (lt-leb (a + 32768) (32767 - b) (omega arith))
dot-le-high (negsuc a) (pos b) h k = sym (le-leb (32767 - a) (b + 32768) (omega arith))
dot-le-high (negsuc a) (negsuc b) h k = same_test b a (32767 - a) (32767 - b) (omega arith) (omega arith)

pub dot-lt-high : (z w : ℤ) → NotLow z → NotLow w → lt_z z w ≡ ltb (dot z) (dot w)
dot-lt-high (pos a) (pos b) h k = same_test (suc a) b (suc (a + 32768)) (b + 32768) (omega arith) (omega arith)
dot-lt-high (pos a) (negsuc b) h k = sym (lt-leb (suc (a + 32768)) (32767 - b) (omega arith))
dot-lt-high (negsuc a) (pos b) h k = sym (le-leb (suc (32767 - a)) (b + 32768) (omega arith))
dot-lt-high (negsuc a) (negsuc b) h k = same_test (suc b) a (suc (32767 - a)) (32767 - b) (omega arith) (omega arith)

-- in particular of coordinates
pub dot-le : (z w : ℤ) → mag z < 32768 → mag w < 32768 → le_z z w ≡ leb (dot z) (dot w)
dot-le z w h k = dot-le-high z w (not_low z h) (not_low w k)

pub dot-lt : (z w : ℤ) → mag z < 32768 → mag w < 32768 → lt_z z w ≡ ltb (dot z) (dot w)
dot-lt z w h k = dot-lt-high z w (not_low z h) (not_low w k)

-- of two numbers the one is less, or the other is not more
pub lt_not_le : (z w : ℤ) → lt_z z w ≡ not (le_z w z)
lt_not_le (pos a) (pos b) = by-ltb a b (λ t. t ≡ not (leb b a)) (λ h. sym (ap not (lt-leb b a h))) (λ h. sym (ap not (le-leb b a h)))
lt_not_le (pos a) (negsuc b) = refl
lt_not_le (negsuc a) (pos b) = refl
lt_not_le (negsuc a) (negsuc b) = by-ltb b a (λ t. t ≡ not (leb a b)) (λ h. sym (ap not (lt-leb a b h))) (λ h. sym (ap not (le-leb a b h)))

-- two coordinates with one dot are one
pub dot-injective : (z w : ℤ) → mag z < 32768 → mag w < 32768 → dot z ≡ dot w → z ≡ w
dot-injective (pos a) (pos b) h k e = ap pos (omega arith)
dot-injective (pos a) (negsuc b) h k e = absurd (omega arith)
dot-injective (negsuc a) (pos b) h k e = absurd (omega arith)
dot-injective (negsuc a) (negsuc b) h k e = ap negsuc (omega arith)

-- the dot of a difference of two naturals, and that 16 bits hold it
dot-subℕ : (a b : ℕ) → b ≤ a + 32768 → dot (sub_ℕ a b) ≡ a + 32768 - b
dot-subℕ a b h =
    by-ltb a b (λ t. dot (mathlib.Core.Bool.cond t (negsuc (b - suc a)) (pos (a - b))) ≡ a + 32768 - b) (λ k. omega arith) (λ k. omega arith)

mag-subℕ : (a b : ℕ) → a < 32768 → b ≤ 32768 → mag (sub_ℕ a b) < 32768
mag-subℕ a b h k = by-ltb a b (λ t. mag (mathlib.Core.Bool.cond t (negsuc (b - suc a)) (pos (a - b))) < 32768) (λ l. omega arith) (λ l. omega arith)

-- a sum with a natural: its dot, and that it is not below −32,768 or fits 16 bits
pub dot-add : (z : ℤ) (n : ℕ) → mag z < 32768 → dot (z +ℤ pos n) ≡ dot z + n
dot-add (pos a) n h = omega arith
dot-add (negsuc a) n h = dot-subℕ n (suc a) (omega arith) ∙ omega arith

pub add-not-low : (z : ℤ) (n : ℕ) → mag z < 32768 → NotLow (z +ℤ pos n)
add-not-low (pos a) n h = tt
add-not-low (negsuc a) n h =
    by-ltb n (suc a) (λ t. NotLow (mathlib.Core.Bool.cond t (negsuc (suc a - suc n)) (pos (n - suc a)))) (λ l. omega arith) (λ l. tt)

pub mag-add : (z : ℤ) (n : ℕ) → mag z < 32768 → dot z + n < 65536 → mag (z +ℤ pos n) < 32768
mag-add (pos a) n h k = omega arith
mag-add (negsuc a) n h k =
    by-ltb n (suc a) (λ t. mag (mathlib.Core.Bool.cond t (negsuc (suc a - suc n)) (pos (n - suc a))) < 32768) (λ l. omega arith) (λ l. omega arith)

-- a difference with a natural: its dot, and that it fits 16 bits
pub dot-sub : (z : ℤ) (n : ℕ) → mag z < 32768 → n ≤ dot z → dot (z -ℤ pos n) ≡ dot z - n
dot-sub (pos a) zero h k = omega arith
dot-sub (pos a) (suc n) h k = dot-subℕ a (suc n) k
dot-sub (negsuc a) zero h k = dot-subℕ 0 (suc a) (omega arith) ∙ omega arith
dot-sub (negsuc a) (suc n) h k = omega arith

pub mag-sub : (z : ℤ) (n : ℕ) → mag z < 32768 → n ≤ dot z → mag (z -ℤ pos n) < 32768
mag-sub (pos a) zero h k = omega arith
mag-sub (pos a) (suc n) h k =
    by-ltb a (suc n) (λ t. mag (mathlib.Core.Bool.cond t (negsuc (suc n - suc a)) (pos (a - suc n))) < 32768) (λ l. omega arith) (λ l. omega arith)
mag-sub (negsuc a) zero h k = mag-subℕ 0 (suc a) (omega arith) (omega arith)
mag-sub (negsuc a) (suc n) h k = omega arith

-- a dot no lower and no higher than those of places in range
pub record InDots (d : ℕ) : Type 0 where
  pub low : least_dot ≤ d
  pub high : d ≤ most_dot

-- a place in its range has a dot from 2,768 to 62,768, and so room for a length on either side
pub range-dots : (z : ℤ) → place_in_range_lem z ≡ true → InDots (dot z)
range-dots (pos a) e = let h : a ≤ 30000 = leb-true a _ e in record { low = omega arith; high = omega arith }
range-dots (negsuc a) e = let h : a ≤ 29999 = leb-true a _ (and-fst _ true e) in record { low = omega arith; high = omega arith }

-- and 16 bits hold it
pub range-mag : (z : ℤ) → place_in_range_lem z ≡ true → mag z < 32768
range-mag (pos a) e = let h : a ≤ 30000 = leb-true a _ e in omega arith
range-mag (negsuc a) e = let h : a ≤ 29999 = leb-true a _ (and-fst _ true e) in omega arith

-- a test of two numbers that went through 16 bits is the test of the numbers
pub told : {x y : ℤ} {t : Bool} → SFits w16 x → SFits w16 y → t ≡ leb (dot (to_z w16 (of_z w16 x))) (dot (to_z w16 (of_z w16 y)))
    → t ≡ leb (dot x) (dot y)
told h k e = e ∙ ap₂ (λ (a b : ℤ). leb (dot a) (dot b)) (back h) (back k)
