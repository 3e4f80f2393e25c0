-- Cells and lengths: the greatest cell count of a strip, by which a width is passed over at which a length is over 240, and what the functions
-- on cells give.
use Rattle.std.specs.Prelude.{ℕ, ◌≤◌, max, ◌≡◌, Bool, true, List, [], ◌∷◌, length}
use Rattle.geometry.specs.Pass.{written}
use Rattle.largest.specs.Widths.{lengths_at, none_over_lem}

unfoldable pub most_of : List ℕ → ℕ
most_of [] = 0
most_of (c ∷ cells) = max c (most_of cells)

-- whether no length is over 240, of any cells of which `most` is the greatest count, at a width of so many dots
abbrev pub WithinMost : ℕ → ℕ → Bool → Type 0
WithinMost most dots within = (cells : List ℕ) (width : ℕ) → most ≡ most_of cells → dots ≡ width → within ≡ none_over_lem width cells

-- no length is over 240, and a list has room for them
pub record ScaleReady (cells : List ℕ) (width : ℕ) (list : List ℕ) : Type 0 where
  pub none_over : none_over_lem width cells ≡ true
  pub roomy : length cells ≤ length list

-- the lengths at a width in the used part of it
pub record Scaled (cells : List ℕ) (width : ℕ) (entry exit : List ℕ) : Type 0 where
  pub lengths-are : exit ≡ written (lengths_at width cells) entry
