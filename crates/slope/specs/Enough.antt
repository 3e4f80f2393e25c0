-- Why the call need not look at all pairs of squares, nor at all three marks: on a track that rises, squares more than two marks apart overlap
-- only where nearer ones do, and marks are on one line if each is on one with the first two. (`enough` in proofs/ shows it.)
use Rattle.std.specs.Prelude.{ℕ, ◌≡◌, List, [], ◌∷◌, Bool, true, false, ◌&&◌, ◌||◌, take}
use Rattle.std.specs.Int.Signed.{lt_z}
use Rattle.std.specs.List.{list_all}
use Rattle.slope.specs.Track.{Point}
use Rattle.slope.specs.Square.{Quadrant, overlap}
use Rattle.slope.specs.Line.{on_line_lem, on_one_line_lem}
use Rattle.slope.specs.Placing.{apart, free}

-- "both rising strictly from mark to mark"
pub record Rise (a b : Point) : Type 0 where
  pub in-x : lt_z a.x b.x ≡ true
  pub in-y : lt_z a.y b.y ≡ true

abbrev pub Rising : List Point → Type 0
Rising [] = Unit {0}
Rising (a ∷ []) = Unit {0}
Rising (a ∷ b ∷ ps) = Rise a b × Rising (b ∷ ps)

-- no square overlaps that of one of the next two marks
unfoldable pub free_near : ℕ → List Point → List Quadrant → Bool
free_near side [] [] = true
free_near side [] (q ∷ qs) = false
free_near side (a ∷ bs) [] = false
free_near side (a ∷ bs) (q ∷ qs) = apart side a q (take 2 bs) qs && free_near side bs qs

pub record Enough (side : ℕ) : Type 0 where
  -- of four marks that rise, whether or not they are on one line: if the squares of the first and the last overlap, one of the other five pairs does
  pub of-four : (a b c d : Point) (p q r t : Quadrant) → Rise a b → Rise b c → Rise c d → overlap side a p d t ≡ true
      → (overlap side a p b q || overlap side a p c r || overlap side b q c r || overlap side b q d t || overlap side c r d t) ≡ true
  -- so a choice is a placing exactly if it is one as far as each mark and the next two go
  pub by-two : (ps : List Point) (qs : List Quadrant) → Rising ps → free_near side ps qs ≡ free side ps qs
  -- and any three marks are on one line exactly if each is on one with the first two
  pub by-first-two : (a b : Point) (ps : List Point) → Rising (a ∷ b ∷ ps) → list_all (on_line_lem a b) ps ≡ on_one_line_lem (a ∷ b ∷ ps)
