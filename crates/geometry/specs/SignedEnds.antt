-- A label's ends, overlap and sliding as signed coordinates, in dots as document 01 counts them, before any shift.
use Rattle.std.specs.Prelude.{ℕ, ◌+◌, ◌*◌, ◌≡◌, ◌⊎◌, List, [], ◌∷◌, Bool, true, false, ◌&&◌, ℤ, pos, ◌+ℤ◌, ◌-ℤ◌, ◌*ℤ◌}
use Rattle.std.specs.Int.Signed.{le_z, lt_z}
use Rattle.geometry.specs.Strip.{Strip}
use Rattle.geometry.specs.Position.{Side, Direction, leftward, rightward, Position, unlabelled, at, same_side}

abbrev pub signed_left_end : ℤ → ℕ → Direction → ℤ
signed_left_end z l leftward = z -ℤ pos l
signed_left_end z l rightward = z

abbrev pub signed_right_end : ℤ → ℕ → Direction → ℤ
signed_right_end z l leftward = z
signed_right_end z l rightward = z +ℤ pos l

-- the labels of marks at the places z and y, l and k dots long, overlap at a gap of g dots
abbrev pub signed_overlaps : ℕ → ℤ → ℕ → Position → ℤ → ℕ → Position → Bool
signed_overlaps g z l unlabelled y k q = false
signed_overlaps g z l (at s d) y k unlabelled = false
signed_overlaps g z l (at s d) y k (at t e) =
    same_side s t
    && (lt_z (signed_left_end z l d) (signed_right_end y k e +ℤ pos g) && lt_z (signed_left_end y k e) (signed_right_end z l d +ℤ pos g))

-- the left edge e, in nth parts of a dot, is one that the label of a mark at z, l dots long, may have
pub record SignedEdgeAllowed (n : ℕ) (z : ℤ) (l : ℕ) (e : ℤ) : Type 0 where
  pub not_left : le_z (pos n *ℤ (z -ℤ pos l)) e ≡ true
  pub not_right : le_z e (pos n *ℤ z) ≡ true

-- labels l and k dots long with left edges e and f keep g dots apart
abbrev pub SignedEdgesApart : ℕ → ℕ → ℕ → ℤ → ℕ → ℤ → Type 0
SignedEdgesApart g n l e k f = (le_z (e +ℤ pos (n * (l + g))) f ≡ true) ⊎ (le_z (f +ℤ pos (n * (k + g))) e ≡ true)

abbrev pub SignedApartOnSide : ℕ → ℕ → ℕ → Side → ℤ → List ℕ → List Side → List ℤ → Type 0
SignedApartOnSide g n l s e [] ss es = Unit {0}
SignedApartOnSide g n l s e (k ∷ ls) [] es = Unit {0}
SignedApartOnSide g n l s e (k ∷ ls) (t ∷ ss) [] = Unit {0}
SignedApartOnSide g n l s e (k ∷ ls) (t ∷ ss) (f ∷ es) = (s ≡ t → SignedEdgesApart g n l e k f) × SignedApartOnSide g n l s e ls ss es

-- a sliding placing of marks at these places with labels of these lengths, by signed edges in nth parts
abbrev pub SignedSliding : ℕ → ℕ → List ℤ → List ℕ → List Side → List ℤ → Type 0
SignedSliding g n [] ls [] [] = Unit {0}
SignedSliding g n [] ls [] (e ∷ es) = ⊥
SignedSliding g n [] ls (s ∷ ss) es = ⊥
SignedSliding g n (z ∷ zs) [] ss es = ⊥
SignedSliding g n (z ∷ zs) (l ∷ ls) [] es = ⊥
SignedSliding g n (z ∷ zs) (l ∷ ls) (s ∷ ss) [] = ⊥
SignedSliding g n (z ∷ zs) (l ∷ ls) (s ∷ ss) (e ∷ es) =
    SignedEdgeAllowed n z l e × SignedApartOnSide g n l s e ls ss es × SignedSliding g n zs ls ss es

-- the strip has a sliding placing at denominator n, by signed edges
pub record SignedSlides (g n : ℕ) (s : Strip) : Type 0 where
  pub sides : List Side
  pub edges : List ℤ
  pub placed : SignedSliding g n s.places s.lengths sides edges
