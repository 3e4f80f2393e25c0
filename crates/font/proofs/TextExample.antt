-- Three texts computed from the definitions: "Wind 7" is 9 + 3 + 6 + 6 + 4 + 6 = 34 dots; of "il" written 41 times, 246 dots, the longest
-- beginning has 80 bytes; and "a", " i", "m" in one byte list have the lengths 6, 7 and 9.
use mathlib.Core.Path.{◌≡◌, refl}
use mathlib.Core.List.{[], ◌∷◌, flatten}
use lib.ListN.{replicate}
use Rattle.geometry.specs.Lists.{any_of, sum_list}
use Rattle.font.specs.Letters.{width_of}
use Rattle.font.specs.Text.{text_width, bytes_within, longest_beginning_lem, texts_of, lengths_of}

width-example : text_width (87 ∷ 105 ∷ 110 ∷ 100 ∷ 32 ∷ 55 ∷ []) ≡ 34
unfolding text_width sum_list width_of any_of
width-example = refl

beginning-example : longest_beginning_lem (flatten (replicate 41 (105 ∷ 108 ∷ []))) ≡ 80
unfolding bytes_within width_of any_of flatten
beginning-example = refl

lengths-example : lengths_of (1 ∷ 2 ∷ 1 ∷ []) (97 ∷ 32 ∷ 105 ∷ 109 ∷ []) ≡ 6 ∷ 7 ∷ 9 ∷ []
unfolding texts_of text_width sum_list width_of any_of
lengths-example = refl
