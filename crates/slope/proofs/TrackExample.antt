-- Small tracks, computed. Three marks a dot apart with squares of 3 dots show that a mark has to be held against the next but one too: above left,
-- below right and above left again overlap in the first and the last square, though neighbours are free of each other. They fit otherwise, as four
-- do, and five do not. And squares may touch: two marks 3 dots apart along one axis may both have theirs above right.
use mathlib.Core.Path.{◌≡◌, refl}
use mathlib.Core.Bool.{Bool, true, false}
use mathlib.Core.List.{List, [], ◌∷◌}
use lib.IntN.{ℤ, pos, negsuc}
use lib.ListN.{take}
use Rattle.geometry.specs.Lists.{any_of, prefixed, words_of}
use Rattle.slope.specs.Track.{Point}
use Rattle.slope.specs.Square.{Quadrant, AboveRight, AboveLeft, BelowRight, overlap}
use Rattle.slope.specs.Line.{on_lines, on_one_line_lem}
use Rattle.slope.specs.Placing.{apart, free, fits}
use Rattle.slope.specs.Enough.{free_near}

abbrev pub at : ℤ → ℤ → Point
at x y = record { x = x; y = y }

-- 0, 0 to 4, 4
abbrev pub diagonal : List Point
diagonal = at (pos 0) (pos 0) ∷ at (pos 1) (pos 1) ∷ at (pos 2) (pos 2) ∷ at (pos 3) (pos 3) ∷ at (pos 4) (pos 4) ∷ []

abbrev pub in_turn : List Quadrant
in_turn = AboveLeft ∷ BelowRight ∷ AboveLeft ∷ []

pub record Diagonal : Type 0 where
  pub neighbours-free : free 3 (take 2 diagonal) (take 2 in_turn) ≡ true
  pub next-but-one : free_near 3 (take 3 diagonal) in_turn ≡ false
  pub not-free : free 3 (take 3 diagonal) in_turn ≡ false
  pub three : fits 3 (take 3 diagonal) ≡ true
  pub four : fits 3 (take 4 diagonal) ≡ true
  pub five : fits 3 diagonal ≡ false

pub example-diagonal : Diagonal
unfolding apart free free_near fits any_of words_of prefixed
example-diagonal = record { neighbours-free = refl; next-but-one = refl; not-free = refl; three = refl; four = refl; five = refl }

-- open squares of 3 dots, both above right of their marks
abbrev pub overlap_at : ℤ → ℤ → Bool
overlap_at x y = overlap 3 (at (pos 0) (pos 0)) AboveRight (at x y) AboveRight

pub record Touching : Type 0 where
  pub shared : overlap_at (pos 2) (pos 2) ≡ true
  pub touching-in-x : overlap_at (pos 3) (pos 2) ≡ false
  pub touching-in-y : overlap_at (pos 2) (pos 3) ≡ false
  pub corners : overlap_at (pos 3) (pos 3) ≡ false

pub example-touching : Touching
example-touching = record { shared = refl; touching-in-x = refl; touching-in-y = refl; corners = refl }

-- three marks over the whole range, and one of them a dot off the line
pub record Lines : Type 0 where
  pub on : on_one_line_lem (at (negsuc 29999) (negsuc 29999) ∷ at (pos 0) (pos 0) ∷ at (pos 30000) (pos 30000) ∷ []) ≡ true
  pub first-off : on_one_line_lem (at (negsuc 29999) (negsuc 29998) ∷ at (pos 0) (pos 0) ∷ at (pos 30000) (pos 30000) ∷ []) ≡ false
  pub second-off : on_one_line_lem (at (negsuc 29999) (negsuc 29999) ∷ at (pos 0) (pos 1) ∷ at (pos 30000) (pos 30000) ∷ []) ≡ false
  pub last-off : on_one_line_lem (at (negsuc 29999) (negsuc 29999) ∷ at (pos 0) (pos 0) ∷ at (pos 30000) (pos 29999) ∷ []) ≡ false

pub example-lines : Lines
unfolding on_one_line_lem on_lines
example-lines = record { on = refl; first-off = refl; second-off = refl; last-off = refl }
