-- Signed numbers by their distance from −o, a natural number for those that are not below it: tests, sums and multiples of one are
-- those of the other.
use mathlib.Core.Path.{◌≡◌, refl, sym, ◌∙◌, ap}
use mathlib.Core.Bool.{true, cond}
use Prim.Native.Nat.{ℕ, zero, suc, ◌+◌, ◌-◌, ◌*◌, ◌≤◌, ◌<◌}
use native.Mathlib.Nat.{mul-add, mul-sub, mul-le-mul_left}
use native.Mathlib.Omega.{arith}
use lib.IntN.{ℤ, pos, negsuc, neg_ℤ, ◌+ℤ◌, ◌*ℤ◌, pos-*ℤ-negsuc}
use lib.Signed.{mag, le_z}
use borrow.Author.Tests.{leb-true, le-leb}
use Rattle.geometry.specs.Dot.{dot}
use Rattle.geometry.proofs.Split.{by-ltb, clash}

-- the distance of a number from −o, and what it takes to be one
abbrev pub from : ℕ → ℤ → ℕ
from o (pos a) = a + o
from o (negsuc a) = o - suc a

-- the number is not below −o
abbrev pub Above : ℕ → ℤ → Type 0
Above o (pos a) = Unit {0}
Above o (negsuc a) = a < o

-- tests and sums of numbers are those of the distances
pub le_from : (o : ℕ) (z w : ℤ) → Above o z → Above o w → le_z z w ≡ true → from o z ≤ from o w
le_from o (pos a) (pos b) h k e = omega (arith, leb-true a b e)
le_from o (pos a) (negsuc b) h k e = clash e refl
le_from o (negsuc a) (pos b) h k e = omega arith
le_from o (negsuc a) (negsuc b) h k e = omega (arith, leb-true b a e)

pub from_le : (o : ℕ) (z w : ℤ) → Above o z → Above o w → from o z ≤ from o w → le_z z w ≡ true
from_le o (pos a) (pos b) h k e = le-leb a b (omega arith)
from_le o (pos a) (negsuc b) h k e = absurd (omega arith)
from_le o (negsuc a) (pos b) h k e = refl
from_le o (negsuc a) (negsuc b) h k e = le-leb b a (omega arith)

-- what is not below a number that is not below −o is not below it either
pub above_more : (o : ℕ) (z w : ℤ) → Above o z → le_z z w ≡ true → Above o w
above_more o (pos a) (pos b) h e = tt
above_more o (pos a) (negsuc b) h e = clash e refl
above_more o (negsuc a) (pos b) h e = tt
above_more o (negsuc a) (negsuc b) h e = omega (arith, leb-true b a e)

-- a distance that is not 0
pub above-some : (o : ℕ) (z : ℤ) → 1 ≤ from o z → Above o z
above-some o (pos a) h = tt
above-some o (negsuc a) h = omega arith

-- a sum with a natural
pub from-add : (o k : ℕ) (z : ℤ) → Above o z → from o (z +ℤ pos k) ≡ from o z + k
from-add o k (pos a) h = omega arith
from-add o k (negsuc a) h =
    by-ltb k (suc a) (λ t. from o (cond t (negsuc (suc a - suc k)) (pos (k - suc a))) ≡ o - suc a + k) (λ l. omega arith) (λ l. omega arith)

pub above-add : (o k : ℕ) (z : ℤ) → Above o z → Above o (z +ℤ pos k)
above-add o k (pos a) h = tt
above-add o k (negsuc a) h = by-ltb k (suc a) (λ t. Above o (cond t (negsuc (suc a - suc k)) (pos (k - suc a)))) (λ l. omega arith) (λ l. tt)

-- the distance of −k is o less k
from-neg : (o k : ℕ) → from o (neg_ℤ (pos k)) ≡ o - k
from-neg o zero = omega arith
from-neg o (suc k) = refl

-- and −k is not below −o, if k is at most o
above-neg : (o k : ℕ) → k ≤ o → Above o (neg_ℤ (pos k))
above-neg o zero h = tt
above-neg o (suc k) h = omega arith

-- n times a coordinate, from −32,768 n, is n times its dot
pub scaled : (n : ℕ) (z : ℤ) → mag z < 32768 → from (n * 32768) (pos n *ℤ z) ≡ n * dot z
scaled n (pos a) h = sym (mul-add n a 32768)
scaled n (negsuc a) h =
    rw (pos-*ℤ-negsuc n a) (from-neg (n * 32768) (n * suc a) ∙ sym (mul-sub n 32768 (suc a)) ∙ ap (λ k. n * k) (omega arith))

pub above-scaled : (n : ℕ) (z : ℤ) → mag z < 32768 → Above (n * 32768) (pos n *ℤ z)
above-scaled n (pos a) h = tt
above-scaled n (negsuc a) h = rw (pos-*ℤ-negsuc n a) (above-neg (n * 32768) (n * suc a) (mul-le-mul_left n (omega arith)))
