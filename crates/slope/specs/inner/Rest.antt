-- Which quadrants of two neighbours leave room for the marks behind them, from the last mark to the first. Of each mark only the next two are
-- looked at: squares further apart overlap only where nearer ones do.
use Rattle.std.specs.Prelude.{ℕ, List, [], ◌∷◌, Bool, true, not, ◌&&◌, drop}
use Rattle.geometry.specs.Lists.{any_of}
use Rattle.slope.specs.Track.{Point}
use Rattle.slope.specs.Square.{Quadrant, every_quadrant, overlap}

-- the square of the first of some marks at p does not overlap that of the first of others at q; where there is no mark it does not
abbrev pub clear : ℕ → List Point → List Point → Quadrant → Quadrant → Bool
clear side ps [] p q = true
clear side [] (b ∷ bs) p q = true
clear side (a ∷ ps) (b ∷ bs) p q = not (overlap side a p b q)

-- where the first mark lies at p and the second at q, these two squares are apart and the marks behind them can be placed; of a mark that is not
-- there any quadrant will do
unfoldable pub room : ℕ → List Point → Quadrant → Quadrant → Bool
room side [] p q = true
room side (a ∷ ps) p q = clear side (a ∷ ps) ps p q && any_of (λ r. room side ps q r && clear side (a ∷ ps) (drop 1 ps) p r) every_quadrant

-- where the first mark lies at p, the others can be placed
abbrev pub start : ℕ → List Point → Quadrant → Bool
start side ps p = any_of (room side ps p) every_quadrant
