-- "open squares of side 1 to 240, one corner on the mark, positions 1 to 4 as the quadrants" (document 02, P13): x to the right and y
-- upwards. From source document 000: "We consider labels topologically open, i.e. they may touch other labels or input points."
use Rattle.std.specs.Prelude.{ℕ, List, [], ◌∷◌, Bool, ◌&&◌, ℤ}
use Rattle.std.specs.Int.Signed.{lt_z}
use Rattle.geometry.specs.Position.{Side, above, below, Direction, leftward, rightward, Position, at, code}
use Rattle.geometry.specs.SignedEnds.{signed_left_end, signed_right_end}
use Rattle.slope.specs.Track.{Point}
pub use Rattle.slope.specs.declared.quadrant.Quadrant.{Quadrant}
pub use Rattle.slope.specs.declared.quadrant.Quadrant.TheVariants.{AboveRight, AboveLeft, BelowLeft, BelowRight}

abbrev pub every_quadrant : List Quadrant
every_quadrant = AboveRight ∷ AboveLeft ∷ BelowLeft ∷ BelowRight ∷ []

abbrev pub side_in : Quadrant → Side
side_in AboveRight = above
side_in AboveLeft = above
side_in BelowLeft = below
side_in BelowRight = below

-- where a square lies along the x axis: to the left of its mark, where it ends, or to the right, where it begins
abbrev pub along_x : Quadrant → Direction
along_x AboveRight = rightward
along_x AboveLeft = leftward
along_x BelowLeft = leftward
along_x BelowRight = rightward

-- the position of document 01 that has the quadrant, and its number
abbrev pub position_in : Quadrant → Position
position_in q = at (side_in q) (along_x q)

abbrev pub quadrant_number : Quadrant → ℕ
quadrant_number q = code (position_in q)

-- along the y axis, read upwards as the x axis is to the right, a square above its mark begins there and one below it ends there
abbrev pub upwards : Side → Direction
upwards above = rightward
upwards below = leftward

abbrev pub along_y : Quadrant → Direction
along_y q = upwards (side_in q)

-- "their spans share more than an end point": along one axis, of squares whose marks have these coordinates there
abbrev pub spans_share : ℕ → ℤ → Direction → ℤ → Direction → Bool
spans_share side c d e f = lt_z (signed_left_end c side d) (signed_right_end e side f) && lt_z (signed_left_end e side f) (signed_right_end c side d)

-- the squares of a at p and of b at q overlap: their spans share more than an end point along both axes
abbrev pub overlap : ℕ → Point → Quadrant → Point → Quadrant → Bool
overlap side a p b q = spans_share side a.x (along_x p) b.x (along_x q) && spans_share side a.y (along_y p) b.y (along_y q)
