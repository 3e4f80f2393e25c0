-- The marks without their weights: no answer of the slide pass depends on a weight, so its inner functions are lent none.
use Rattle.std.specs.Prelude.{ℕ, ◌≤◌, ◌≡◌, List, [], ◌∷◌, true, ℤ, pos, length, get_or}
use Rattle.geometry.specs.Dot.{dot}
use Rattle.std.specs.List.{list_all}
use Rattle.geometry.specs.Mark.{Mark, place_in_range_lem, length_in_range_lem}
use Rattle.geometry.specs.Strip.{most_short}
use Rattle.geometry.specs.Pass.{most_gap}

-- the mark at a dot with a label of a length, at weight 1
abbrev pub plain_mark : ℕ → ℕ → Mark
plain_mark p l = record { place = p; label_length = l; weight = 1 }

unfoldable pub plain_marks : List ℤ → List ℕ → List Mark
plain_marks [] ls = []
plain_marks (z ∷ zs) [] = []
plain_marks (z ∷ zs) (l ∷ ls) = plain_mark (dot z) l ∷ plain_marks zs ls

-- the mark at an index
abbrev pub plain_at : List ℤ → List ℕ → ℕ → Mark
plain_at places lengths i = plain_mark (dot (get_or places i (pos 0))) (get_or lengths i 0)

-- what the checks on entry leave for the inner functions
pub record Checked (places : List ℤ) (lengths : List ℕ) (g : ℕ) : Type 0 where
  pub same_count : length lengths ≡ length places
  pub few : length places ≤ most_short
  pub places-good : list_all place_in_range_lem places ≡ true
  pub lengths-good : list_all length_in_range_lem lengths ≡ true
  pub gap-narrow : g ≤ most_gap
