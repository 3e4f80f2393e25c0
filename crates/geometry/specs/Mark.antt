-- "A mark has a place in dots, −30,000 to 30,000; a length in dots, 1 to 240; a weight, 1 to 1,000." (A point site with one
-- label.) "Places rise strictly along the strip."
use Rattle.std.specs.Prelude.{ℕ, List, [], ◌∷◌, Bool, true, ◌&&◌, leb, ℤ, pos, negsuc}
use Rattle.std.specs.Int.Signed.{le_z, lt_z}

-- a mark of the model: its place as a dot
pub record Mark : Type 0 where
  pub place : ℕ
  pub label_length : ℕ
  pub weight : ℕ

-- a mark "alike but for" its weight (document 02, P8)
abbrev pub with_weight : ℕ → Mark → Mark
with_weight w m = record { place = m.place; label_length = m.label_length; weight = w }

-- −30,000 and 30,000
abbrev pub least_place : ℤ
least_place = negsuc 29999

abbrev pub most_place : ℤ
most_place = pos 30000

abbrev pub most_length : ℕ
most_length = 240

abbrev pub most_weight : ℕ
most_weight = 1000

abbrev pub place_in_range_lem : ℤ → Bool
place_in_range_lem z = le_z least_place z && le_z z most_place

abbrev pub length_in_range_lem : ℕ → Bool
length_in_range_lem l = leb 1 l && leb l most_length

abbrev pub weight_in_range_lem : ℕ → Bool
weight_in_range_lem w = leb 1 w && leb w most_weight

-- The order of the places: each is below the next. Coordinates of tracks (crate slope) rise so too, whatever is asked of the places of a strip.
unfoldable pub rising : List ℤ → Bool
rising [] = true
rising (z ∷ []) = true
rising (z ∷ y ∷ zs) = lt_z z y && rising (y ∷ zs)
