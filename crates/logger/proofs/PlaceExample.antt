-- Answers computed from the definitions, for patterns in both units. The patterns are, in their order: −0; the least numbers of both signs;
-- −0.5 and 0.5; the last before 30,001 dots, which is 30,000 and 511 parts of 512; the first below −30,000 dots; 30,001 dots; the greatest
-- finite number; both infinities; and a NaN. In millimetres the three at the ends are an eighth, the same spots.
use mathlib.Core.Path.{◌≡◌, refl}
use lib.Ieee.{of_bits}
use Rattle.std.specs.Prelude.{ℕ, [], ◌∷◌, map, ℤ, pos, negsuc}
use Rattle.std.specs.Float.{Float, float_is_finite, binary32}
use Rattle.geometry.specs.Refusal.{number_of, first_failure}
use Rattle.logger.specs.Value.{Logged, Dots, Millimetres, times}
use Rattle.logger.specs.Place.{place_of, place_verdict, place_after, Placed}

abbrev answer : (Float → Logged) → ℕ → Placed
answer unit b =
    let l = unit (of_bits binary32 b) in record { number = number_of (place_verdict l); place = place_after (place_verdict l) (place_of l) }

abbrev given : ℕ → ℤ → Placed
given number place = record { number = number; place = place }

abbrev placed : ℤ → Placed
placed place = given 0 place

abbrev refused_by : ℕ → Placed
refused_by number = given number (pos 0)

dots-example : map (answer Dots)
    (0x8000_0000 ∷ 0x0000_0001 ∷ 0x8000_0001 ∷ 0xbf00_0000 ∷ 0x3f00_0000 ∷ 0x46ea_61ff ∷ 0xc6ea_6001 ∷ 0x46ea_6200 ∷ 0x7f7f_ffff
    ∷ 0x7f80_0000 ∷ 0xff80_0000 ∷ 0x7fc0_0000 ∷ [])
    ≡ placed (pos 0) ∷ placed (pos 0) ∷ placed (negsuc 0) ∷ placed (negsuc 0) ∷ placed (pos 0) ∷ placed (pos 30000) ∷ refused_by 8
    ∷ refused_by 8 ∷ refused_by 8 ∷ refused_by 15 ∷ refused_by 15 ∷ refused_by 15 ∷ []
unfolding place_verdict first_failure times float_is_finite of_bits
dots-example = refl

millimetres-example : map (answer Millimetres)
    (0x8000_0000 ∷ 0x0000_0001 ∷ 0x8000_0001 ∷ 0xbf00_0000 ∷ 0x3f00_0000 ∷ 0x456a_61ff ∷ 0xc56a_6001 ∷ 0x456a_6200 ∷ 0x7f7f_ffff
    ∷ 0x7f80_0000 ∷ 0xff80_0000 ∷ 0x7fc0_0000 ∷ [])
    ≡ placed (pos 0) ∷ placed (pos 0) ∷ placed (negsuc 0) ∷ placed (negsuc 3) ∷ placed (pos 4) ∷ placed (pos 30000) ∷ refused_by 8
    ∷ refused_by 8 ∷ refused_by 8 ∷ refused_by 15 ∷ refused_by 15 ∷ refused_by 15 ∷ []
unfolding place_verdict first_failure times float_is_finite of_bits
millimetres-example = refl
