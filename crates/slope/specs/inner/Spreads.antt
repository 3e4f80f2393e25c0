-- Two marks of which the second has the greater coordinates: how many whole sides, 0, 1, or 2 for more, are between them along an axis decides
-- which of their squares share more than an end point there.
use Rattle.std.specs.Prelude.{ℕ, ℤ, ◌≡◌, Bool, true, not, ◌||◌, leb}
use Rattle.geometry.specs.Position.{Direction, leftward, rightward}
use Rattle.slope.specs.Square.{Quadrant, along_x, along_y, spans_share}

-- the squares share no more, where the first lies in one direction from its mark and the second in another: if they turn away from each other, if
-- they lie alike and a side is between the marks, and if they face each other and two sides are
abbrev pub apart_in : ℕ → Direction → Direction → Bool
apart_in sides leftward leftward = leb 1 sides
apart_in sides leftward rightward = true
apart_in sides rightward leftward = leb 2 sides
apart_in sides rightward rightward = leb 1 sides

-- the number of sides tells of every two squares of marks with these coordinates whether they share more
pub record SpreadIs (side : ℕ) (c e : ℤ) (sides : ℕ) : Type 0 where
  pub each : (d f : Direction) → apart_in sides d f ≡ not (spans_share side c d e f)

-- along one axis or the other they share no more, and so do not overlap
abbrev pub apart_by : ℕ → ℕ → Quadrant → Quadrant → Bool
apart_by x y p q = apart_in x (along_x p) (along_x q) || apart_in y (along_y p) (along_y q)
