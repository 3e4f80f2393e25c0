-- What the count of a text's bytes says of its length, since every letter is 3 to 9 dots wide.
use Rattle.std.specs.Prelude.{ℕ, ◌≤◌, ◌≡◌, Bool, true, ◌&&◌, List, leb, length}
use Rattle.geometry.specs.Lists.{sum_list}
use Rattle.std.specs.List.{list_all}
use Rattle.font.specs.Letters.{in_font_lem}

-- a text of more bytes is over 240 dots
abbrev pub most_bytes : ℕ
most_bytes = 80

-- a text of so many bytes may have a length from 1 to 240; one of another count has none
abbrev pub count_fits_lem : ℕ → Bool
count_fits_lem n = leb 1 n && leb n most_bytes

-- a text whose width is asked for
pub record Readable (text : List ℕ) : Type 0 where
  pub letters-good : list_all in_font_lem text ≡ true
  pub few : length text ≤ most_bytes

-- texts whose lengths are asked for
pub record ReadableTexts (texts counts : List ℕ) : Type 0 where
  pub adds-up : sum_list counts ≡ length texts
  pub letters-good : list_all in_font_lem texts ≡ true
  pub counts-good : list_all count_fits_lem counts ≡ true
