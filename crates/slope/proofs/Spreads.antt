-- The marks of a track by their indices: their coordinates stand in the two lists there, and the spreads of two of them tell which of
-- their squares overlap.
use mathlib.Core.Path.{◌≡◌, refl, ◌∙◌, ap₂}
use mathlib.Core.Bool.{Bool, true, false, not, ◌&&◌, ◌||◌}
use mathlib.Core.List.{List, [], ◌∷◌}
use Prim.Native.Nat.{ℕ, zero, suc, ◌+◌, ◌<◌, ◌≤◌}
use native.Mathlib.Omega.{arith}
use native.Mathlib.Numerals.{add-one}
use lib.IntN.{ℤ, pos}
use lib.ListN.{length, get_or, drop}
use Rattle.std.proofs.Common.{rules}
use Rattle.slope.specs.Track.{points_of_lists}
use Rattle.slope.specs.Square.{Quadrant, along_x, along_y}
use Rattle.slope.specs.inner.Spreads.{SpreadIs, apart_by}
use Rattle.slope.specs.inner.Marks.{Checked, point_at, SpreadsAre}

points-drop : (xs ys : List ℤ) (i : ℕ) → length xs ≡ length ys → i < length xs
    → drop i (points_of_lists xs ys) ≡ point_at xs ys i ∷ drop (suc i) (points_of_lists xs ys)
unfolding points_of_lists
points-drop [] ys i e h = absurd (omega arith)
points-drop (x ∷ xs) [] i e h = absurd (omega arith)
points-drop (x ∷ xs) (y ∷ ys) zero e h = refl
points-drop (x ∷ xs) (y ∷ ys) (suc i) e h = points-drop xs ys i (omega arith) (omega arith)

-- the marks from an index on begin with the mark there
pub points-from : (xs ys : List ℤ) (i : ℕ) → length xs ≡ length ys → i < length xs
    → drop i (points_of_lists xs ys) ≡ point_at xs ys i ∷ drop (i + 1) (points_of_lists xs ys)
points-from xs ys i e h = rw (add-one i) (points-drop xs ys i e h)

-- and behind the last there is none
pub points-end : (xs ys : List ℤ) (i : ℕ) → length xs ≤ i → drop i (points_of_lists xs ys) ≡ []
unfolding points_of_lists
points-end [] ys zero h = refl
points-end [] ys (suc i) h = refl
points-end (x ∷ xs) ys zero h = absurd (omega arith)
points-end (x ∷ xs) [] (suc i) h = refl
points-end (x ∷ xs) (y ∷ ys) (suc i) h = points-end xs ys i (omega arith)

all-apart : (p q : Quadrant) → apart_by 2 2 p q ≡ true
all-apart = search rules

-- not both is one of two not
not-both : (s t : Bool) → (not s || not t) ≡ not (s && t)
not-both true t = refl
not-both false t = refl

module _ (side : ℕ) (xs ys : List ℤ) (checked : Checked xs ys) (j k : ℕ) (before : j < k) where
  pub spreads-are : k < length xs → (x y : ℕ) → SpreadIs side (get_or xs j (pos 0)) (get_or xs k (pos 0)) x
      → SpreadIs side (get_or ys j (pos 0)) (get_or ys k (pos 0)) y → SpreadsAre side xs ys j k x y
  spreads-are h x y f g =
      record {
        each = λ p q. rw (points-from xs ys j checked.same_length (omega arith), points-from xs ys k checked.same_length h)
            (ap₂ (λ (s t : Bool). s || t) (f.each (along_x p) (along_x q)) (g.each (along_y p) (along_y q)) ∙ not-both _ _);
      }

  pub spreads-beyond : length xs ≤ k → SpreadsAre side xs ys j k 2 2
  spreads-beyond h = record { each = λ p q. rw (points-end xs ys k h) (all-apart p q) }
