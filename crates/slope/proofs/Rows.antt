-- A row of the table by the next one, and the table row by row. The pairs that stay in a row are those that its definition names: the next two
-- marks stand at the next two places of the lists.
use mathlib.Core.Path.{◌≡◌, refl, sym, ◌∙◌, ap, ap₂}
use mathlib.Core.Bool.{Bool, ◌&&◌, ◌||◌}
use mathlib.Core.List.{List, [], ◌∷◌}
use Prim.Native.Nat.{ℕ, ◌+◌, ◌<◌}
use native.Mathlib.Omega.{arith}
use lib.IntN.{ℤ}
use lib.ListN.{length, drop}
use lib.Seq.{drop-drop}
use Rattle.geometry.specs.Lists.{any_of}
use Rattle.slope.specs.Track.{Point, points_of_lists}
use Rattle.slope.specs.Square.{Quadrant, every_quadrant}
use Rattle.slope.specs.inner.Spreads.{apart_by}
use Rattle.slope.specs.inner.Sets.{Pairs}
use Rattle.slope.specs.inner.Rest.{clear, room}
use Rattle.slope.specs.inner.Marks.{Checked, SpreadsAre}
use Rattle.slope.specs.inner.Table.{RowIs, RowsFrom}
use Rattle.slope.proofs.Spreads.{points-from, points-end}
use Rattle.slope.proofs.Sets.{pairs-all}

-- two tests that are one at each quadrant
pub any-same : (f g : Quadrant → Bool) → ((q : Quadrant) → f q ≡ g q) → (qs : List Quadrant) → any_of f qs ≡ any_of g qs
unfolding any_of
any-same f g same [] = refl
any-same f g same (q ∷ qs) = ap₂ (λ (s t : Bool). s || t) (same q) (any-same f g same qs)

pub pairs-same : {f g : Quadrant → Quadrant → Bool} {set : ℕ} → ((p q : Quadrant) → f p q ≡ g p q) → Pairs set f → Pairs set g
pairs-same same s = record { each = λ p q. s.each p q ∙ ap Rattle.slope.specs.inner.Sets.digit (same p q) }

module _ (side : ℕ) (xs ys : List ℤ) (checked : Checked xs ys) where
  -- the marks from an index on, of those of these lists
  abbrev from : ℕ → List Point
  from k = drop k (points_of_lists xs ys)

  pub behind-next : (k : ℕ) → from (k + 2) ≡ drop 1 (from (k + 1))
  behind-next k = let e : k + 2 ≡ k + 1 + 1 = omega arith in ap from e ∙ sym (drop-drop 1 (k + 1) (points_of_lists xs ys))

  -- the row of a mark, by the numbers of sides between it and the marks with the indices i and j, which are the next two
  pub row-before : (k i j : ℕ) → k < length xs → (x y x' y' : ℕ) → SpreadsAre side xs ys k i x y → SpreadsAre side xs ys k j x' y'
      → i ≡ k + 1 → j ≡ k + 2
      → (p q : Quadrant) → (apart_by x y p q && any_of (λ r. room side (from (k + 1)) q r && apart_by x' y' p r) every_quadrant) ≡ room side (from k) p q
  unfolding room
  row-before k i j h x y x' y' near far next second p q =
      let ends : (r : Quadrant) → apart_by x' y' p r ≡ clear side (from k) (drop 1 (from (k + 1))) p r =
      λ r. far.each p r ∙ ap (λ (ps : List Point). clear side (from k) ps p r) (ap from second ∙ behind-next k) in
      let others = any-same (λ r. room side (from (k + 1)) q r && apart_by x' y' p r)
      (λ r. room side (from (k + 1)) q r && clear side (from k) (drop 1 (from (k + 1))) p r)
      (λ r. ap (λ (t : Bool). room side (from (k + 1)) q r && t) (ends r)) every_quadrant in
      rw (near.each p q, next, others) (rw (points-from xs ys k checked.same_length h) refl)

  -- behind the last mark any pair will do
  pub rows-none : (table : List ℕ) → RowsFrom side xs ys (length xs) table
  rows-none table = record { each = λ i h k. absurd (omega arith) }

  pub row-none : RowIs side xs ys (length xs) 0xffff
  unfolding room
  row-none = rw (points-end xs ys (length xs) (omega arith)) pairs-all
