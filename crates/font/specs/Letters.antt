-- "Add a measure over bytes 32 to 126 in the strip font. Width in dots: space 4; the letters i, l and the signs ! ' , . : ; and | 3; m, w,
-- M, W 9; all others 6." (document 02, P4)
use Rattle.std.specs.Prelude.{ℕ, List, [], ◌∷◌, Bool, cond, ◌&&◌, leb, eqb}
use Rattle.geometry.specs.Lists.{any_of}

abbrev pub first_byte : ℕ
first_byte = 32

abbrev pub last_byte : ℕ
last_byte = 126

-- the bytes of the font
abbrev pub in_font_lem : ℕ → Bool
in_font_lem b = leb first_byte b && leb b last_byte

-- the letters and signs of the rule by their bytes in ASCII: space
abbrev pub space : ℕ
space = 32

-- i l, and ! ' , . : ; |
abbrev pub narrow : List ℕ
narrow = 105 ∷ 108 ∷ 33 ∷ 39 ∷ 44 ∷ 46 ∷ 58 ∷ 59 ∷ 124 ∷ []

-- m w M W
abbrev pub wide : List ℕ
wide = 109 ∷ 119 ∷ 77 ∷ 87 ∷ []

abbrev pub is_one_of : List ℕ → ℕ → Bool
is_one_of letters b = any_of (eqb b) letters

-- the width of a byte of the font
unfoldable pub width_of : ℕ → ℕ
width_of b = cond (eqb b space) 4 (cond (is_one_of narrow b) 3 (cond (is_one_of wide b) 9 6))
