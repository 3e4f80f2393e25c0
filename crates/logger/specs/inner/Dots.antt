-- The number of dots in 32 bits, and when its place is in range.
use Rattle.std.specs.Prelude.{ℕ, ◌+◌, ◌*◌, ◌<◌, Bool, false, cond, leb, ltb}
use Rattle.std.specs.Float.{Float, nan, inf, fin}
use Rattle.std.specs.Float.Ieee.{up, down}
use Rattle.logger.specs.Value.{Logged, Dots, Millimetres, Exact, times}
use Rattle.logger.specs.Product.{eightfold}

-- for millimetres a product
abbrev pub in_dots_lem : Logged → Float
in_dots_lem (Dots x) = x
in_dots_lem (Millimetres x) = eightfold x

-- finite and of less than 2 ^ 15 in size, so that 16 bits hold its whole part
abbrev pub InReach : Float → Type 0
InReach nan = ⊥
InReach (inf s) = ⊥
InReach (fin s m e) = m * up e < 0x8000 * down e

-- the size of the first place and of the last
abbrev pub most_size : ℕ
most_size = 30000

-- at least the first place, and below the one behind the last
abbrev pub between_ends : Exact → Bool
between_ends v = cond v.minus (leb v.size (most_size * v.parts)) (ltb v.size ((most_size + 1) * v.parts))

abbrev pub in_range_lem : Float → Bool
in_range_lem nan = false
in_range_lem (inf s) = false
in_range_lem (fin s m e) = between_ends (times 1 (fin s m e))
