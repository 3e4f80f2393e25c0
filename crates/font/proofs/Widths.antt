-- Every letter is 3 to 9 dots wide, so the count of a text's bytes bounds its width on both sides: an empty text has width 0, one of
-- more than 80 bytes is over 240 dots, and one of 1 to 26 is from 1 to 240.
use mathlib.Core.Path.{◌≡◌, refl, ◌∙◌}
use mathlib.Core.Bool.{Bool, true, false, cond}
use mathlib.Core.List.{List, [], ◌∷◌}
use Prim.Native.Nat.{ℕ, ◌+◌, ◌*◌, ◌≤◌, ◌<◌}
use native.Mathlib.Numerals.{add-one}
use native.Mathlib.Omega.{arith}
use lib.Dec.{leb, eqb}
use lib.ListN.{length, get_or, drop}
use lib.Seq.{drop-cons, drop-length}
use borrow.Author.Tests.{le-leb}
use Rattle.geometry.specs.Lists.{sum_list}
use Rattle.geometry.specs.Mark.{most_length, length_in_range_lem}
use Rattle.geometry.proofs.Split.{both, one-to}
use Rattle.font.specs.Letters.{space, narrow, wide, is_one_of, width_of}
use Rattle.font.specs.Text.{text_width}
use Rattle.font.specs.inner.Counts.{most_bytes, count_fits_lem}

-- whatever the rule's three tests say
chosen-between : (t u v : Bool) → let w : ℕ = cond t 4 (cond u 3 (cond v 9 6)) in (3 ≤ w) × (w ≤ 9)
chosen-between true u v = omega arith
chosen-between false true v = omega arith
chosen-between false false true = omega arith
chosen-between false false false = omega arith

pub width-between : (b : ℕ) → (3 ≤ width_of b) × (width_of b ≤ 9)
unfolding width_of
width-between b = chosen-between (eqb b space) (is_one_of narrow b) (is_one_of wide b)

pub text-between : (text : List ℕ) → (3 * length text ≤ text_width text) × (text_width text ≤ 9 * length text)
unfolding text_width sum_list
text-between [] = omega arith
text-between (b ∷ text) = omega (arith, width-between b, text-between text)

-- so many bytes are at most 240 dots, whatever they are
abbrev pub sure_bytes : ℕ
sure_bytes = 26

pub few-fit : (text : List ℕ) → length text ≤ sure_bytes → text_width text ≤ most_length
few-fit text few = omega (arith, text-between text)

-- the width of what is left of a text, one byte further
pub width-next : (text : List ℕ) (i : ℕ) → i < length text → text_width (drop i text) ≡ width_of (get_or text i 0) + text_width (drop (i + 1) text)
unfolding text_width sum_list
width-next text i h = rw (add-one, drop-cons text i 0 h) refl

pub width-ends : (text : List ℕ) (i : ℕ) → i ≡ length text → text_width (drop i text) ≡ 0
unfolding text_width sum_list
width-ends text i e = rw (e, drop-length text) refl

-- a text whose length is in range has a count that fits
pub count-of-good : (text : List ℕ) → length_in_range_lem (text_width text) ≡ true → count_fits_lem (length text) ≡ true
count-of-good text good =
    let w = one-to most_length (text_width text) good in
    let n = text-between text in
    both _ _ (le-leb 1 (length text) (omega arith)) (le-leb (length text) most_bytes (omega arith))

module _ (text : List ℕ) (some : 1 ≤ length text) where
  -- a text of some bytes is in range if it is not too wide
  pub range-of-some : length_in_range_lem (text_width text) ≡ leb (text_width text) most_length
  range-of-some = let n = text-between text in rw (le-leb 1 (text_width text) (omega arith)) refl

  -- and surely so if they are few
  pub sure-of-few : length text ≤ sure_bytes → length_in_range_lem (text_width text) ≡ true
  sure-of-few few = range-of-some ∙ le-leb (text_width text) most_length (few-fit text few)
