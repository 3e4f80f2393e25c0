-- "The rule is to hold over the whole font at every byte from 32 to 126": a test of a table that computes, entry by entry.
use Rattle.std.specs.Prelude.{ℕ, suc, ◌+◌, Bool, true, ◌&&◌, List, [], ◌∷◌, eqb, length}
use Rattle.font.specs.Letters.{first_byte, last_byte, width_of}

-- the entries are the widths of the bytes from b on
abbrev pub follows_rule : ℕ → List ℕ → Bool
follows_rule b [] = true
follows_rule b (w ∷ widths) = eqb w (width_of b) && follows_rule (suc b) widths

-- a table of the whole font: an entry for each of its bytes, each by the rule
abbrev pub is_font : List ℕ → Bool
is_font widths = eqb (first_byte + length widths) (last_byte + 1) && follows_rule first_byte widths
