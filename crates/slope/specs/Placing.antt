-- "The answer is a placing of all squares, or 11 exactly when none exists." (document 02, P13; the field's word: Slope-4P decision, with
-- a witness)
use Rattle.std.specs.Prelude.{ℕ, ◌≡◌, List, [], ◌∷◌, Bool, true, false, not, ◌&&◌, length}
use Rattle.geometry.specs.Lists.{any_of, words_of}
use Rattle.slope.specs.Track.{Point}
use Rattle.slope.specs.Square.{Quadrant, every_quadrant, overlap}

-- the square of a at p overlaps none of those of the marks bs at qs
unfoldable pub apart : ℕ → Point → Quadrant → List Point → List Quadrant → Bool
apart side a p [] qs = true
apart side a p (b ∷ bs) [] = true
apart side a p (b ∷ bs) (q ∷ qs) = not (overlap side a p b q) && apart side a p bs qs

-- a quadrant for each mark so that no two squares overlap, pair by pair
unfoldable pub free : ℕ → List Point → List Quadrant → Bool
free side [] [] = true
free side [] (q ∷ qs) = false
free side (a ∷ bs) [] = false
free side (a ∷ bs) (q ∷ qs) = apart side a q bs qs && free side bs qs

-- some choice of quadrants is a placing
unfoldable pub fits : ℕ → List Point → Bool
fits side ps = any_of (free side ps) (words_of every_quadrant (length ps))

-- none is, whatever list is taken
abbrev pub NoPlacing : ℕ → List Point → Type 0
NoPlacing side ps = (qs : List Quadrant) → free side ps qs ≡ true → ⊥
