-- The test of all marks against the first two, one mark after the other: at every point all pass exactly if those so far do and what is left does.
use mathlib.Core.Path.{◌≡◌, refl, sym, ◌∙◌}
use mathlib.Core.Bool.{Bool, true, ◌&&◌}
use mathlib.Core.List.{List, [], ◌∷◌}
use Prim.Native.Nat.{ℕ, ◌+◌, ◌<◌, ◌≤◌}
use native.Mathlib.Omega.{arith}
use lib.IntN.{ℤ}
use lib.ListN.{length, drop}
use Rattle.std.specs.List.{list_all}
use Rattle.std.proofs.Math.Bool.{and-true}
use Rattle.geometry.proofs.Every.{and-moves}
use Rattle.slope.specs.Track.{points_of_lists}
use Rattle.slope.specs.Line.{on_line_lem, on_lines, on_one_line_lem}
use Rattle.slope.specs.Enough.{Rising}
use Rattle.slope.specs.inner.Marks.{Checked, point_at}
use Rattle.slope.proofs.Rises.{rising-points}
use Rattle.slope.proofs.Spreads.{points-from, points-end}
use Rattle.slope.proofs.FirstTwo.{by-first-two}

-- two or fewer marks are on one line, and more where each is on one with the first two
first-two : (xs ys : List ℤ) → length xs ≡ length ys → Rising (points_of_lists xs ys)
    → list_all (on_line_lem (point_at xs ys 0) (point_at xs ys 1)) (drop 2 (points_of_lists xs ys)) ≡ on_one_line_lem (points_of_lists xs ys)
unfolding points_of_lists on_one_line_lem on_lines
first-two [] ys e r = refl
first-two (x ∷ xs) [] e r = refl
first-two (x ∷ []) (y ∷ ys) e r = refl
first-two (x ∷ x' ∷ xs) (y ∷ []) e r = absurd (omega arith)
first-two (x ∷ x' ∷ xs) (y ∷ y' ∷ ys) e r =
    by-first-two (record { x = x; y = y }) (record { x = x'; y = y' }) (points_of_lists xs ys) r

-- whether the marks from an index on are on one line with the first two
abbrev pub tested : List ℤ → List ℤ → ℕ → Bool
tested xs ys k = list_all (on_line_lem (point_at xs ys 0) (point_at xs ys 1)) (drop k (points_of_lists xs ys))

module _ (xs ys : List ℤ) (checked : Checked xs ys) where
  pub tested-more : (k : ℕ) (good here : Bool) → k < length xs → tested xs ys 2 ≡ (good && tested xs ys k)
      → here ≡ on_line_lem (point_at xs ys 0) (point_at xs ys 1) (point_at xs ys k) → tested xs ys 2 ≡ ((good && here) && tested xs ys (k + 1))
  tested-more k good here h so_far is =
      let next = points-from xs ys k checked.same_length h in
      so_far ∙ rw (next, is) (and-moves good _ (tested xs ys (k + 1)))

  pub tested-all : (k : ℕ) (good : Bool) → length xs ≤ k → tested xs ys 2 ≡ (good && tested xs ys k)
      → good ≡ on_one_line_lem (points_of_lists xs ys)
  tested-all k good h so_far = sym (and-true good) ∙ sym (so_far ∙ none-left)
      ∙ first-two xs ys checked.same_length (rising-points xs ys checked.xs-rise checked.ys-rise)
    where
      none-left : (good && tested xs ys k) ≡ (good && true)
      none-left = rw (points-end xs ys k h) refl
