-- "Multiplying by 8 in binary32 loses nothing for places in range, and that is to be shown. [..] Both units give one place for one spot: a
-- value in millimetres and its eightfold in dots agree wherever that eightfold is finite." (document 02, P10)
use Rattle.std.specs.Prelude.{ℕ, ◌+◌, ◌*◌, ◌%◌, ◌<◌, ◌≡◌, min, true, false, cond, leb, ltb, T, pos, to_bits, from_bits}
use Rattle.std.specs.Float.{Float, fin, binary32, float_is_finite, NotNan}
use Rattle.std.specs.Float.Ieee.{mul, fits}
use Rattle.geometry.specs.Refusal.{accepted, refused}
use Rattle.geometry.specs.declared.refusal.Refusal.TheVariants.{BadMark}
use Rattle.logger.specs.Value.{Dots, Millimetres, Exact, times, dots_a_millimetre}
use Rattle.logger.specs.Place.{place_verdict, Placed, PlaceContract}

-- what binary32 makes of a number times 8, which is 1 * 2 ^ 3
abbrev pub eightfold : Float → Float
eightfold x = mul binary32 x (fin false 1 (pos 3))

-- one number, exactly
pub record Same (v w : Exact) : Type 0 where
  pub signs : v.minus ≡ w.minus
  pub sizes : v.size * w.parts ≡ w.size * v.parts

-- The 32 bits of a number are its sign, 8 of exponent and 23 of fraction. From an exponent of 1 on a leading digit stands before the
-- fraction, and is not stored.
abbrev pub sign_bit : ℕ
sign_bit = 0x8000_0000

abbrev pub leading : ℕ
leading = 0x80_0000

-- the bits of an infinity behind its sign; those of a finite number are below, those of a NaN above
abbrev pub infinite : ℕ
infinite = 0x7f80_0000

-- The bits of twice a number, behind its sign. An exponent of 0: the digits move up by one, and the highest into the exponent where it
-- becomes the leading one. Else the exponent is one greater, up to that of the infinity.
unfoldable pub doubled : ℕ → ℕ
doubled n = cond (ltb n leading) (2 * n) (min (n + leading) infinite)

-- the bits of 8 times a number: the sign stays
abbrev pub eightfold_bits : ℕ → ℕ
eightfold_bits b = cond (leb sign_bit b) sign_bit 0 + doubled (doubled (doubled (b % sign_bit)))

-- of every number that binary32 holds (`fits`), and every pattern of 32 bits
pub record LosesNothing : Type 0 where
  pub exact : (x : Float) → T (fits binary32 x) → float_is_finite (eightfold x) ≡ true → Same (times 1 (eightfold x)) (times dots_a_millimetre x)
  pub by-bits : (b : ℕ) → b < 2 * sign_bit → NotNan (from_bits binary32 b) → to_bits binary32 (eightfold (from_bits binary32 b)) ≡ eightfold_bits b
  pub in-range : (x : Float) → T (fits binary32 x) → place_verdict (Millimetres x) ≡ accepted → float_is_finite (eightfold x) ≡ true
  pub one-place : (x : Float) → T (fits binary32 x) → float_is_finite (eightfold x) ≡ true → (r q : Placed)
      → PlaceContract (Millimetres x) r → PlaceContract (Dots (eightfold x)) q → r ≡ q
  pub too-large : (x : Float) → T (fits binary32 x) → float_is_finite x ≡ true → float_is_finite (eightfold x) ≡ false
      → place_verdict (Millimetres x) ≡ refused BadMark
