-- The place of a dot: code that adds to a place, or takes one from another, counts dots, which are not negative.
use Rattle.std.specs.Prelude.{ℕ, ◌-◌, cond, ltb, ℤ, pos, negsuc}
use Rattle.geometry.specs.Dot.{dot}
use Rattle.geometry.specs.Mark.{least_place, most_place}

-- the dot of place 0, below which those of negative places lie: 32,768
abbrev pub zero_dot : ℕ
zero_dot = dot (pos 0)

unfoldable pub place_of_lem : ℕ → ℤ
place_of_lem d = cond (ltb d zero_dot) (negsuc (32767 - d)) (pos (d - zero_dot))

-- the dots of good places lie between these, 2,768 and 62,768
abbrev pub least_dot : ℕ
least_dot = dot least_place

abbrev pub most_dot : ℕ
most_dot = dot most_place
