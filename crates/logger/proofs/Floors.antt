-- The division rounded down is the largest whole number not above an exact number, and equal numbers have one floor.
use mathlib.Core.Path.{◌≡◌, refl, sym, ap, ◌∙◌, subst}
use mathlib.Core.Bool.{Bool, true, false, cond}
use Prim.Native.Nat.{ℕ, zero, suc, ◌-◌, ◌*◌, ◌/◌, ◌≤◌, ◌<◌, zero-le}
use native.Mathlib.Nat.{zero-mul, mul-pos, mul_right_comm, mul-lt-mul_of_pos_right, lt_of_mul-lt-mul_right, le_antisymm}
use native.Mathlib.Nat.{zero-div, div-mul-le_self, le-div_iff_mul-le, div-lt_iff_lt-mul}
use native.Mathlib.Omega.{arith}
use lib.Dec.{leb, le→leb, leb→le}
use lib.IntN.{ℤ, pos, negsuc, neg_ℤ, suc_ℤ, ◌*ℤ◌}
use lib.Signed.{◌≤ℤ◌, ◌<ℤ◌, lt_z, lt_z_no, shr_z}
use lib.Ieee.Nearest.{div_same}
use Rattle.std.proofs.Math.Bool.{and-true}
use Rattle.std.proofs.lemmas.Float.{T_from_true, T_from_false}
use Rattle.geometry.proofs.Split.{same_test}
use Rattle.geometry.specs.Mark.{place_in_range_lem}
use Rattle.logger.specs.Value.{Exact, signed_size, floor_of, IsLargest}
use Rattle.logger.specs.Product.{Same}
use Rattle.logger.specs.inner.Dots.{most_size, between_ends}
use Rattle.logger.proofs.Exacts.{exact}

-- of numbers below zero the size decides, the other way round
below : (k a : ℕ) → a < k → neg_ℤ (pos k) ≤ℤ negsuc a
below zero a h = omega arith
below (suc j) a h = record { le = le→leb a j (omega (arith, h)) }

size-above : (k a : ℕ) → neg_ℤ (pos k) ≤ℤ negsuc a → a < k
size-above zero a h = absurd h.le
size-above (suc j) a h = omega (arith, leb→le a j h.le)

-- a / d < n + 1
within : (a d : ℕ) → 0 < d → a < suc (a / d) * d
within a d p = (div-lt_iff_lt-mul p).0 (omega arith)

not-above : (z : ℤ) (d : ℕ) → 0 < d → (shr_z z d *ℤ pos d) ≤ℤ z
not-above (pos a) d p = record { le = le→leb (a / d * d) a (div-mul-le_self a d) }
not-above (negsuc a) d p = below (suc (a / d) * d) a (within a d p)

greatest : (z : ℤ) (d : ℕ) (y : ℤ) → 0 < d → (y *ℤ pos d) ≤ℤ z → y ≤ℤ shr_z z d
greatest (pos a) d (pos n) p h = record { le = le→leb n (a / d) ((le-div_iff_mul-le p).1 (leb→le (n * d) a h.le)) }
greatest (pos a) d (negsuc n) p h = record { le = tt }
greatest (negsuc a) d (pos n) p h = absurd h.le
greatest (negsuc a) d (negsuc n) p h =
    let few : a / d < suc n = (div-lt_iff_lt-mul p).1 (size-above (suc n * d) a h) in record { le = le→leb (a / d) n (omega (arith, few)) }

pub floor-is : (v : Exact) → 0 < v.parts → IsLargest (floor_of v) v
floor-is v p = record {
  not-above = not-above (signed_size v) v.parts p;
  largest = λ y h. greatest (signed_size v) v.parts y p h;
}

-- ---- equal numbers have one floor

-- of equal fractions (a + 1) / c and (b + 1) / d
not-more : (a c b d : ℕ) → 0 < c → 0 < d → suc a * d ≡ suc b * c → a / c ≤ b / d
not-more a c b d p q h =
    let w = a / c in
    let under : w * c < suc a = omega (arith, div-mul-le_self a c) in
    let crossed : w * c * d < suc b * c = subst (λ (k : ℕ). w * c * d < k) h (mul-lt-mul_of_pos_right under q) in
    let within : w * d < suc b = lt_of_mul-lt-mul_right c (subst (λ (k : ℕ). k < suc b * c) (mul_right_comm w c d) crossed) in
    (le-div_iff_mul-le q).1 (omega (arith, within))

pub floor-same : (v w : Exact) → 0 < v.parts → 0 < w.parts → Same v w → floor_of v ≡ floor_of w
floor-same v w p q same =
    go v.minus v.size w.size same.sizes ∙ ap (λ (s : Bool). shr_z (cond s (neg_ℤ (pos w.size)) (pos w.size)) w.parts) same.signs
  where
    unequal : (n c d : ℕ) → 0 < d → 0 * c ≡ suc n * d → ⊥
    unequal n c d h e = let some : 0 < suc n * d = mul-pos (omega arith) h in omega (arith, sym (zero-mul c) ∙ e, some)

    go : (s : Bool) (n m : ℕ) → n * w.parts ≡ m * v.parts
        → shr_z (cond s (neg_ℤ (pos n)) (pos n)) v.parts ≡ shr_z (cond s (neg_ℤ (pos m)) (pos m)) w.parts
    go false n m e = ap pos (div_same n v.parts m w.parts p q e)
    go true zero zero e = ap pos (zero-div v.parts ∙ sym (zero-div w.parts))
    go true zero (suc m) e = absurd (unequal m w.parts v.parts p e)
    go true (suc n) zero e = absurd (unequal n v.parts w.parts q (sym e))
    go true (suc n) (suc m) e = ap negsuc (le_antisymm (not-more n v.parts m w.parts p q e) (not-more m w.parts n v.parts q p (sym e)))

-- ---- the place is in range where the number is

pub range-is : (v : Exact) → 0 < v.parts → place_in_range_lem (floor_of v) ≡ between_ends v
range-is v p = go v.minus v.size
  where
    less : (n most : ℕ) → leb (n / v.parts) most ≡ leb (suc n) (suc most * v.parts)
    less n most =
        same_test (n / v.parts) most (suc n) (suc most * v.parts) (λ h. (div-lt_iff_lt-mul p).0 (omega (arith, h)))
        (λ h. let below : n / v.parts < suc most = (div-lt_iff_lt-mul p).1 h in omega (arith, below))

    go : (s : Bool) (n : ℕ) → place_in_range_lem (floor_of (exact s n v.parts)) ≡ between_ends (exact s n v.parts)
    go false n = less n most_size
    go true zero = same_test (0 / v.parts) most_size 0 (most_size * v.parts) (λ h. zero-le) (λ h. omega (arith, zero-div v.parts))
    go true (suc n) = and-true (leb (n / v.parts) (most_size - 1)) ∙ less n (most_size - 1)

-- and the number is below the next whole one
pub below-next : (v : Exact) (z : ℤ) → IsLargest z v → signed_size v <ℤ (suc_ℤ z *ℤ pos v.parts)
below-next v z is =
    go (lt_z (signed_size v) (suc_ℤ z *ℤ pos v.parts)) refl
  where
    not-next : (z : ℤ) → suc_ℤ z ≤ℤ z → ⊥
    not-next (pos n) h = omega (arith, leb→le (suc n) n h.le)
    not-next (negsuc zero) h = h.le
    not-next (negsuc (suc n)) h = omega (arith, leb→le (suc n) n h.le)

    go : (t : Bool) → lt_z (signed_size v) (suc_ℤ z *ℤ pos v.parts) ≡ t → signed_size v <ℤ (suc_ℤ z *ℤ pos v.parts)
    go true e = record { lt = T_from_true _ e }
    go false e = absurd (not-next z (is.largest (suc_ℤ z) (lt_z_no (T_from_false _ e))))
