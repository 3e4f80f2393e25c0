-- Texts that are gone through one after the other, with what is left of the counts and of the bytes. These belong together as all do, so the
-- next text lies within the bytes, and what is left behind it belongs together again.
use mathlib.Core.Path.{◌≡◌, refl, sym, ◌∙◌, ap, subst}
use mathlib.Core.Bool.{Bool, true, false, ◌&&◌}
use mathlib.Core.List.{List, [], ◌∷◌, ◌++◌, append-nil}
use Prim.Native.Nat.{ℕ, ◌+◌, ◌≤◌, ◌<◌}
use native.Mathlib.Numerals.{add-one}
use native.Mathlib.Omega.{arith}
use lib.ListN.{length, get_or, take, drop, set, length-drop, drop_of_length-le}
use lib.Seq.{drop-cons, append_snoc}
use Rattle.geometry.specs.Lists.{sum_list}
use Rattle.std.specs.List.{list_all}
use Rattle.geometry.specs.Mark.{most_length, length_in_range_lem}
use Rattle.geometry.specs.Pass.{written}
use Rattle.geometry.proofs.Accepted.{first_good, rest-good}
use Rattle.geometry.proofs.Every.{every_drop}
use Rattle.geometry.proofs.Lent.{take_more, drop_more, written-whole}
use Rattle.geometry.proofs.Split.{one-to}
use Rattle.font.specs.Letters.{in_font_lem}
use Rattle.font.specs.Text.{text_width, texts_of, lengths_of}
use Rattle.font.specs.inner.Counts.{count_fits_lem, ReadableTexts}
use Rattle.font.proofs.CutTexts.{length-lengths}

-- whether all texts are in range
abbrev pub all_in_range : List ℕ → List ℕ → Bool
all_in_range rest counts = list_all length_in_range_lem (lengths_of counts rest)

-- the counts that are left: the next, and those behind it
pub counts-next : (counts : List ℕ) (i : ℕ) → i < length counts → drop i counts ≡ get_or counts i 0 ∷ drop (i + 1) counts
counts-next counts i h = rw add-one (drop-cons counts i 0 h)

pub counts-end : (counts : List ℕ) (i : ℕ) → length counts ≤ i → drop i counts ≡ []
counts-end counts i h = drop_of_length-le counts (omega arith)

module _ (rest counts : List ℕ) (i : ℕ) (left : ReadableTexts rest (drop i counts)) (h : i < length counts) where
  abbrev next : ℕ
  next = get_or counts i 0

  abbrev behind : List ℕ
  behind = drop (i + 1) counts

  as-next : ReadableTexts rest (next ∷ behind)
  as-next = subst (λ (l : List ℕ). ReadableTexts rest l) (counts-next counts i h) left

  -- the next text's end lies within the bytes
  pub next-within : next ≤ length rest
  unfolding sum_list
  next-within = omega (arith, as-next.adds-up)

  -- one text further
  pub behind-readable : ReadableTexts (drop next rest) behind
  unfolding sum_list
  behind-readable =
      record {
        adds-up = omega (arith, next-within, as-next.adds-up, length-drop next rest);
        letters-good = every_drop in_font_lem next rest as-next.letters-good;
        counts-good = rest-good count_fits_lem next behind as-next.counts-good;
      }

  -- its length is the first of those that were left
  pub lengths-next : lengths_of (drop i counts) rest ≡ text_width (take next rest) ∷ lengths_of behind (drop next rest)
  unfolding texts_of
  lengths-next = rw (counts-next counts i h) refl

  -- so the test of all that are left is the test of the first, and then that of the rest
  tests_left : all_in_range rest (drop i counts) ≡ (length_in_range_lem (text_width (take next rest)) && all_in_range (drop next rest) behind)
  tests_left = ap (list_all length_in_range_lem) lengths-next

  pub left-fails : length_in_range_lem (text_width (take next rest)) ≡ false → all_in_range rest (drop i counts) ≡ false
  left-fails bad = tests_left ∙ rw bad refl

  pub left-passes : length_in_range_lem (text_width (take next rest)) ≡ true → all_in_range rest (drop i counts) ≡ all_in_range (drop next rest) behind
  left-passes good = tests_left ∙ rw good refl

-- at the end none is left
lengths-end : (rest counts : List ℕ) (i : ℕ) → length counts ≤ i → lengths_of (drop i counts) rest ≡ []
unfolding texts_of
lengths-end rest counts i h = rw (counts-end counts i h) refl

pub none-left : (rest counts : List ℕ) (i : ℕ) → length counts ≤ i → all_in_range rest (drop i counts) ≡ true
none-left rest counts i h = ap (list_all length_in_range_lem) (lengths-end rest counts i h)

-- a loop that fills a list with the lengths: those written and those that are left are all of them
pub record Filling (texts counts entry rest list : List ℕ) (i : ℕ) : Type 0 where
  pub left : ReadableTexts rest (drop i counts)
  pub left-good : all_in_range rest (drop i counts) ≡ true
  pub so_far : take i list ++ lengths_of (drop i counts) rest ≡ lengths_of counts texts
  pub rest-kept : drop i list ≡ drop i entry

module _ (texts counts entry rest list : List ℕ) (i : ℕ) (filling : Filling texts counts entry rest list i) where
  module _ (h : i < length counts) where
    abbrev width : ℕ
    width = text_width (take (get_or counts i 0) rest)

    abbrev others : List ℕ
    others = lengths_of (drop (i + 1) counts) (drop (get_or counts i 0) rest)

    next-is : lengths_of (drop i counts) rest ≡ width ∷ others
    next-is = lengths-next rest counts i filling.left h

    next-good : list_all length_in_range_lem (width ∷ others) ≡ true
    next-good = subst (λ (l : List ℕ). list_all length_in_range_lem l ≡ true) next-is filling.left-good

    -- the next length has room in a byte
    pub next_small : width ≤ most_length
    next_small = (one-to most_length width (first_good length_in_range_lem width others next-good)).1

    -- it is written
    pub filling-on : {w : ℕ} → w ≡ width → i < length list
        → Filling texts counts entry (drop (get_or counts i 0) rest) (set list i w) (i + 1)
    filling-on {w} width_is within =
        record {
          left = behind-readable rest counts i filling.left h;
          left-good = rest-good length_in_range_lem width others next-good;
          so_far =
              rw (take_more i w list within, width_is) (append_snoc (take i list) width others)
              ∙ ap (λ (l : List ℕ). take i list ++ l) (sym next-is) ∙ filling.so_far;
          rest-kept = drop_more i w list entry filling.rest-kept;
        }

  pub filling-ends : length counts ≤ i → i ≤ length counts → list ≡ written (lengths_of counts texts) entry
  filling-ends h e =
      let none = lengths-end rest counts i h in
      let all = sym (append-nil (take i list)) ∙ ap (λ (l : List ℕ). take i list ++ l) (sym none) ∙ filling.so_far in
      written-whole i list (lengths_of counts texts) entry all filling.rest-kept (length-lengths counts texts ∙ omega arith)
