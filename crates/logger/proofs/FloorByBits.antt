-- The floor of a number in reach by its bits: below 1 the sign decides, and from 1 on the digits, with their sign, are cut off at the point.
use mathlib.Core.Path.{◌≡◌, refl, sym, ap, ◌∙◌}
use mathlib.Core.Logic.{inl, inr}
use mathlib.Core.Bool.{Bool, true, false}
use Prim.Native.Nat.{ℕ, zero, suc, ◌+◌, ◌-◌, ◌*◌, ◌/◌, ◌^◌, ◌≤◌, ◌<◌}
use native.Mathlib.Nat.{pos_of_ne-zero, lt_irrefl, le_trans, le_of_eq, le_of_lt, lt_of_lt_of_le, lt_of_le_of_lt}
use native.Mathlib.Nat.{one-mul, div-eq_of_lt, div-lt_iff_lt-mul, zero-div}
use native.Mathlib.Omega.{arith}
use lib.Dec.{T, lit<}
use lib.IntN.{ℤ, pos, negsuc}
use lib.Pow.{pow-add, pow_pos, pow_mono}
use lib.Signed.{mag, shr_z}
use lib.Ieee.{Float, binary32, fits, to_bits}
use lib.Ieee.Bits.{to_bits-lt}
use Rattle.std.proofs.lemmas.Bool.{le-leb, lt-leb}
use Rattle.geometry.proofs.Split.{lt-or-ge}
use Rattle.logger.specs.Value.{Exact, times, floor_of}
use Rattle.logger.specs.Product.{sign_bit, Same}
use Rattle.logger.specs.inner.Dots.{InReach}
use Rattle.logger.proofs.Exacts.{exact, same-on, parts-pos}
use Rattle.logger.proofs.Floors.{floor-same}
use Rattle.logger.proofs.Units.{exponent, units, one, one-pos, units-low}
use Rattle.logger.proofs.Reach.{sign, behind-sign, digits-of, digits-are, few-digits, parts-of-one, digits-over-parts}
use Rattle.logger.proofs.Reach.{exponent-below-142, in-units, less-than-one, only-zero}
use Rattle.logger.proofs.Shifts.{signed, signed-is, cut-size}

module _ (x : Float) (held : T (fits binary32 x)) (reach : InReach x) where
  -- below 1
  module _ (small : exponent (behind-sign x) < 127) where
    floor-small : floor_of (times 1 x) ≡ floor_of (exact (sign x) (units (behind-sign x)) one)
    floor-small =
        floor-same (times 1 x) (exact (sign x) (1 * units (behind-sign x)) one) (parts-pos 1 x) one-pos (in-units x held reach)
        ∙ ap (λ (u : ℕ). floor_of (exact (sign x) u one)) (one-mul (units (behind-sign x)))

    pub below-zero : sign_bit < to_bits binary32 x → negsuc 0 ≡ floor_of (times 1 x)
    below-zero h =
        let some : 0 < units (behind-sign x) =
        pos_of_ne-zero (λ e. omega (arith, only-zero (behind-sign x) e, h, to_bits-lt binary32 x held)) in
        sym (floor-small
        ∙ ap (λ (s : Bool). floor_of (exact s (units (behind-sign x)) one)) (le-leb sign_bit (to_bits binary32 x) (le_of_lt h))
        ∙ minus-one (units (behind-sign x)) some (less-than-one (behind-sign x) small))
      where
        minus-one : (u : ℕ) → 0 < u → u < one → floor_of (exact true u one) ≡ negsuc 0
        minus-one zero some h = absurd (lt_irrefl 0 some)
        minus-one (suc u) some h = ap negsuc (div-eq_of_lt (lt_of_le_of_lt (omega arith) h))

    pub not-below-zero : to_bits binary32 x ≤ sign_bit → pos 0 ≡ floor_of (times 1 x)
    not-below-zero h = sym (floor-small ∙ elim (lt-or-ge (to_bits binary32 x) sign_bit) [
      | inl positive ↦
          ap (λ (s : Bool). floor_of (exact s (units (behind-sign x)) one)) (lt-leb sign_bit (to_bits binary32 x) positive)
          ∙ ap pos (div-eq_of_lt (less-than-one (behind-sign x) small))
      | inr minus-zero ↦
          let none : behind-sign x ≡ 0 = omega (arith, h, minus-zero) in
          ap (λ (u : ℕ). floor_of (exact (sign x) u one)) (ap units none ∙ units-low 0 (lit< tt)) ∙ zero-floor (sign x)
    ])
      where
        zero-floor : (s : Bool) → floor_of (exact s 0 one) ≡ pos 0
        zero-floor true = ap pos (zero-div one)
        zero-floor false = ap pos (zero-div one)

  -- from 1 on
  module _ (large : 119 ≤ exponent (behind-sign x)) where
    -- the whole part is less than 2 ^ 15
    whole-held : digits-of x / parts-of-one (behind-sign x) < 0x8000
    whole-held =
        let behind = 150 - exponent (behind-sign x) in
        let enough : 2 ^ 24 ≤ 0x8000 * 2 ^ behind =
        le_trans (pow_mono {i = 24} {j = 15 + behind} (omega (arith, exponent-below-142 x held reach))) (le_of_eq (pow-add 2 15 behind)) in
        (div-lt_iff_lt-mul (pow_pos behind)).1 (lt_of_lt_of_le (few-digits x) enough)

    pub cut-held : (s : Bool) → mag (shr_z (signed s (digits-of x)) (parts-of-one (behind-sign x))) < 0x8000
    cut-held s = lt_of_le_of_lt (cut-size s (digits-of x) (parts-of-one (behind-sign x)) (pow_pos (150 - exponent (behind-sign x)))) whole-held

    pub floor-cut : shr_z (signed (sign x) (digits-of x)) (parts-of-one (behind-sign x)) ≡ floor_of (times 1 x)
    floor-cut =
        let cut : Exact = exact (sign x) (digits-of x) (parts-of-one (behind-sign x)) in
        let equal : Same (exact (sign x) (1 * units (behind-sign x)) one) cut = record {
          signs = refl;
          sizes = ap (λ (u : ℕ). u * parts-of-one (behind-sign x)) (one-mul (units (behind-sign x)))
              ∙ digits-over-parts (behind-sign x) (omega (arith, large)) (omega (arith, exponent-below-142 x held reach))
              ∙ ap (λ (d : ℕ). d * one) (sym (digits-are x));
        } in
        ap (λ (z : ℤ). shr_z z (parts-of-one (behind-sign x))) (sym (signed-is (sign x) (digits-of x)))
        ∙ sym (floor-same (times 1 x) cut (parts-pos 1 x) (pow_pos (150 - exponent (behind-sign x)))
        (same-on (times 1 x) (exact (sign x) (1 * units (behind-sign x)) one) cut one-pos (in-units x held reach) equal))
