-- The map byte of a record. A bit of 3 to 7 stands exactly in the bytes from 8 on; a byte below 8 is the sum of its three lowest bits,
-- and each sum of them has just those bits.
use mathlib.Core.Path.{◌≡◌, refl}
use mathlib.Core.Bool.{Bool, true, false, not, cond}
use mathlib.Core.Logic.{inl, inr}
use Prim.Native.Nat.{ℕ, zero, suc, ◌+◌, ◌/◌, ◌%◌, ◌≤◌, ◌<◌}
use native.Mathlib.Omega.{arith}
use borrow.Author.Tests.{eq-eqb, ne_eqb}
use Rattle.geometry.specs.Lists.{any_of}
use Rattle.geometry.proofs.Split.{lt-or-ge, or_left, or_right}
use Rattle.job.specs.Format.{bit_stands, stray_bits}

-- below 8 no bit of 3 to 7 stands
pub no_stray : (map : ℕ) → map < 8 → stray_bits map ≡ false
unfolding stray_bits any_of
no_stray map h =
    rw (
      ne_eqb (map / 8 % 2) 1 (omega arith),
      ne_eqb (map / 16 % 2) 1 (omega arith),
      ne_eqb (map / 32 % 2) 1 (omega arith),
      ne_eqb (map / 64 % 2) 1 (omega arith),
      ne_eqb (map / 128 % 2) 1 (omega arith),
    ) refl

-- the highest bit that stands is one of them
pub some-stray : (map : ℕ) → 8 ≤ map → map < 256 → stray_bits map ≡ true
unfolding stray_bits any_of
some-stray map h k =
    elim (lt-or-ge map 16) [
      | inl a ↦ or_left (bit_stands 3 map) _ (eq-eqb (map / 8 % 2) 1 (omega arith))
      | inr a ↦
          or_right (bit_stands 3 map) _
          (elim (lt-or-ge map 32) [
            | inl b ↦ or_left (bit_stands 4 map) _ (eq-eqb (map / 16 % 2) 1 (omega arith))
            | inr b ↦
                or_right (bit_stands 4 map) _
                (elim (lt-or-ge map 64) [
                  | inl e ↦ or_left (bit_stands 5 map) _ (eq-eqb (map / 32 % 2) 1 (omega arith))
                  | inr e ↦
                      or_right (bit_stands 5 map) _
                      (elim (lt-or-ge map 128) [
                        | inl g ↦ or_left (bit_stands 6 map) _ (eq-eqb (map / 64 % 2) 1 (omega arith))
                        | inr g ↦ or_right (bit_stands 6 map) _ (or_left (bit_stands 7 map) false (eq-eqb (map / 128 % 2) 1 (omega arith)))
                      ])
                ])
          ])
    ]

-- a map byte with bit 0, 1 and 2 where the field does not have its absent value
abbrev pub bits : Bool → Bool → Bool → ℕ
bits a b c = cond a 0 1 + (cond b 0 2 + cond c 0 4)

-- a map byte below 8 in which each of the three bits stands exactly where its test is false
pub record MapOf (a b c : Bool) (map : ℕ) : Type 0 where
  pub step-bit : bit_stands 0 map ≡ not a
  pub length-bit : bit_stands 1 map ≡ not b
  pub weight-bit : bit_stands 2 map ≡ not c
  pub small : map < 8

-- each of the eight by computation
pub bits-map : (a b c : Bool) → MapOf a b c (bits a b c)
bits-map true true true = record { step-bit = refl; length-bit = refl; weight-bit = refl; small = omega arith }
bits-map true true false = record { step-bit = refl; length-bit = refl; weight-bit = refl; small = omega arith }
bits-map true false true = record { step-bit = refl; length-bit = refl; weight-bit = refl; small = omega arith }
bits-map true false false = record { step-bit = refl; length-bit = refl; weight-bit = refl; small = omega arith }
bits-map false true true = record { step-bit = refl; length-bit = refl; weight-bit = refl; small = omega arith }
bits-map false true false = record { step-bit = refl; length-bit = refl; weight-bit = refl; small = omega arith }
bits-map false false true = record { step-bit = refl; length-bit = refl; weight-bit = refl; small = omega arith }
bits-map false false false = record { step-bit = refl; length-bit = refl; weight-bit = refl; small = omega arith }

-- a byte below 8 is its three bits
pub map-bits : (map : ℕ) → map < 8 → bits (not (bit_stands 0 map)) (not (bit_stands 1 map)) (not (bit_stands 2 map)) ≡ map
map-bits zero h = refl
map-bits (suc zero) h = refl
map-bits (suc (suc zero)) h = refl
map-bits (suc (suc (suc zero))) h = refl
map-bits (suc (suc (suc (suc zero)))) h = refl
map-bits (suc (suc (suc (suc (suc zero))))) h = refl
map-bits (suc (suc (suc (suc (suc (suc zero)))))) h = refl
map-bits (suc (suc (suc (suc (suc (suc (suc zero))))))) h = refl
map-bits (suc (suc (suc (suc (suc (suc (suc (suc map)))))))) h = absurd (omega arith)
