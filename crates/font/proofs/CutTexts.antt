-- Texts that stand one after the other in a byte list, and what their counts say. Past check 6 the counts cut the list into its texts and
-- nothing is left over; a text whose length is in range then has a count that fits.
use mathlib.Core.Path.{◌≡◌, refl, sym, ◌∙◌, ap, subst}
use mathlib.Core.Bool.{true}
use mathlib.Core.List.{List, [], ◌∷◌, ◌++◌, flatten}
use Prim.Native.Nat.{ℕ, suc, ◌+◌, ◌<◌}
use native.Mathlib.Numerals.{add-one}
use native.Mathlib.Omega.{arith}
use lib.ListN.{length, get_or, take, drop, length-drop, take-append-drop, drop_of_length-le}
use lib.Seq.{drop-cons, drop-length, length-take-le}
use Rattle.geometry.specs.Lists.{sum_list}
use Rattle.std.specs.List.{list_all}
use Rattle.geometry.specs.Mark.{length_in_range_lem}
use Rattle.geometry.proofs.Accepted.{first_good, rest-good}
use Rattle.geometry.proofs.Split.{both}
use Rattle.font.specs.Text.{text_width, texts_of, lengths_of}
use Rattle.font.specs.inner.Counts.{count_fits_lem}
use Rattle.font.proofs.Widths.{count-of-good}

-- past 6 the texts one after the other are the whole byte list
pub texts-whole : (counts bytes : List ℕ) → sum_list counts ≡ length bytes → flatten (texts_of counts bytes) ≡ bytes
unfolding flatten texts_of sum_list
texts-whole [] bytes sum = sym (drop_of_length-le bytes {i = 0} (omega arith))
texts-whole (n ∷ counts) bytes sum =
    ap (λ (rest : List ℕ). take n bytes ++ rest) (texts-whole counts (drop n bytes) (omega (arith, length-drop n bytes)))
    ∙ take-append-drop n bytes

-- a length for each count
pub length-lengths : (counts bytes : List ℕ) → length (lengths_of counts bytes) ≡ length counts
unfolding texts_of
length-lengths [] bytes = refl
length-lengths (n ∷ counts) bytes = ap suc (length-lengths counts (drop n bytes))

-- where all lengths are in range, all counts fit
pub counts-of-good : (counts bytes : List ℕ) → sum_list counts ≡ length bytes → list_all length_in_range_lem (lengths_of counts bytes) ≡ true
    → list_all count_fits_lem counts ≡ true
unfolding texts_of sum_list
counts-of-good [] bytes sum good = refl
counts-of-good (n ∷ counts) bytes sum good =
    let width = text_width (take n bytes) in
    let others = lengths_of counts (drop n bytes) in
    let here = first_good length_in_range_lem width others good in
    let rest = rest-good length_in_range_lem width others good in
    both (count_fits_lem n) (list_all count_fits_lem counts)
    (subst (λ (k : ℕ). count_fits_lem k ≡ true) (length-take-le n bytes (omega arith)) (count-of-good (take n bytes) here))
    (counts-of-good counts (drop n bytes) (omega (arith, length-drop n bytes)) rest)

-- the sum of what is left of a list, one element further, and at its end
pub sum-next : (counts : List ℕ) (i : ℕ) → i < length counts → sum_list (drop i counts) ≡ get_or counts i 0 + sum_list (drop (i + 1) counts)
unfolding sum_list
sum-next counts i h = rw (add-one, drop-cons counts i 0 h) refl

pub sum-ends : (counts : List ℕ) (i : ℕ) → i ≡ length counts → sum_list (drop i counts) ≡ 0
unfolding sum_list
sum-ends counts i e = rw (e, drop-length counts) refl
