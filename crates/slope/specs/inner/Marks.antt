-- What the checks on entry leave of a track.
use Rattle.std.specs.Prelude.{ℕ, ℤ, pos, ◌≡◌, ◌≤◌, ◌<◌, true, List, length, get_or, drop}
use Rattle.geometry.specs.Strip.{most_short}
use Rattle.geometry.specs.Mark.{rising}
use Rattle.slope.specs.Track.{Point, points_of_lists}
use Rattle.slope.specs.Square.{Quadrant}
use Rattle.slope.specs.inner.Spreads.{apart_by}
use Rattle.slope.specs.inner.Rest.{clear}

-- Two lists of one length, of at most 60 marks that rise. That they are on one line plays no part in placing squares.
pub record Checked (xs ys : List ℤ) : Type 0 where
  pub same_length : length xs ≡ length ys
  pub short : length xs ≤ most_short
  pub xs-rise : rising xs ≡ true
  pub ys-rise : rising ys ≡ true

-- the mark at an index
abbrev pub point_at : List ℤ → List ℤ → ℕ → Point
point_at xs ys i = record { x = get_or xs i (pos 0); y = get_or ys i (pos 0) }

-- what the test of a mark behind the first asks
pub record Behind (xs ys : List ℤ) (k : ℕ) : Type 0 where
  pub checked : Checked xs ys
  pub second : 1 ≤ k
  pub within : k < length xs

-- the numbers of sides between the marks with the indices j and k, x across and y upwards, tell which of their squares
-- overlap; where there is no mark k none does
pub record SpreadsAre (side : ℕ) (xs ys : List ℤ) (j k x y : ℕ) : Type 0 where
  pub each : (p q : Quadrant) → apart_by x y p q ≡ clear side (drop j (points_of_lists xs ys)) (drop k (points_of_lists xs ys)) p q
