-- "A label's length is the sum over its bytes." The longest beginning of a text, and "the texts stand in one byte list, with a list of their
-- byte counts" (document 02, P4).
use Rattle.std.specs.Prelude.{ℕ, suc, ◌+◌, ◌-◌, ◌≤◌, ◌<◌, ◌≡◌, cond, List, [], ◌∷◌, map, ◌⊎◌, leb, length, take, drop}
use Rattle.geometry.specs.Lists.{sum_list}
use Rattle.geometry.specs.Mark.{most_length}
use Rattle.font.specs.Letters.{width_of}

-- the width of a text in dots
unfoldable pub text_width : List ℕ → ℕ
text_width text = sum_list (map width_of text)

-- "the longest beginning of any text that is at most 240 dots, perhaps empty or all of it [..] its count of bytes": no longer one is at
-- most 240 dots, since it is all of the text or one byte more is over
pub record IsLongest (text : List ℕ) (count : ℕ) : Type 0 where
  pub of-the-text : count ≤ length text
  pub at_most : text_width (take count text) ≤ most_length
  pub all-or-over : (count ≡ length text) ⊎ (most_length < text_width (take (count + 1) text))

-- how many bytes, from the front, have room in so many dots
unfoldable pub bytes_within : ℕ → List ℕ → ℕ
bytes_within room [] = 0
bytes_within room (b ∷ text) = cond (leb (width_of b) room) (suc (bytes_within (room - width_of b) text)) 0

-- the one count that is longest, computed (`longest-is` and `one-longest` in proofs/)
abbrev pub longest_beginning_lem : List ℕ → ℕ
longest_beginning_lem text = bytes_within most_length text

-- the texts of these byte counts that stand one after the other in a byte list
unfoldable pub texts_of : List ℕ → List ℕ → List (List ℕ)
texts_of [] bytes = []
texts_of (count ∷ counts) bytes = take count bytes ∷ texts_of counts (drop count bytes)

-- their lengths as labels
abbrev pub lengths_of : List ℕ → List ℕ → List ℕ
lengths_of counts bytes = map text_width (texts_of counts bytes)
