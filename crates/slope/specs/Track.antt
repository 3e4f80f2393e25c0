-- "marks with whole coordinates from −30,000 to 30,000, both rising strictly from mark to mark [..] Its mark lists are the two of coordinates
-- alone, and the side is one number for all." (document 02, P13)
use Rattle.std.specs.Prelude.{List, [], ◌∷◌, Bool, ◌&&◌, ℕ, ℤ}
use Rattle.std.specs.List.{list_all}
use Rattle.geometry.specs.Mark.{place_in_range_lem, length_in_range_lem, rising}
use Rattle.slope.specs.declared.track.Track as handed

pub record Track : Type 0 where
  pub xs : List ℤ
  pub ys : List ℤ

abbrev pub track : List ℤ → List ℤ → Track
track xs ys = record { xs = xs; ys = ys }

-- the coordinate lists of a track as a call is handed them
abbrev pub lists_of : handed.Track → Track
lists_of t = track t.xs.now t.ys.now

-- a mark
pub record Point : Type 0 where
  pub x : ℤ
  pub y : ℤ

-- the marks of two lists of one length
unfoldable pub points_of_lists : List ℤ → List ℤ → List Point
points_of_lists [] ys = []
points_of_lists (x ∷ xs) [] = []
points_of_lists (x ∷ xs) (y ∷ ys) = record { x = x; y = y } ∷ points_of_lists xs ys

abbrev pub points_of : Track → List Point
points_of t = points_of_lists t.xs t.ys

-- The range of a coordinate is that of a place. Coordinates rise strictly.
abbrev pub good_coordinates_lem : List ℤ → Bool
good_coordinates_lem zs = list_all place_in_range_lem zs && rising zs

-- "open squares of side 1 to 240": the range of a label's length
abbrev pub good_values_lem : Track → ℕ → Bool
good_values_lem t side = length_in_range_lem side && (good_coordinates_lem t.xs && good_coordinates_lem t.ys)
