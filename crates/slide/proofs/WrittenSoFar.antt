-- A list that is written element by element from the left ends as the whole, unchanged beyond it. What is written so far and what is still
-- to come are together the whole; writing the next element moves it from the one part to the other, and at the end nothing is to come.
use mathlib.Core.Path.{◌≡◌, refl, sym, ◌∙◌}
use mathlib.Core.List.{List, [], ◌∷◌, ◌++◌, append_assoc, append-nil}
use Prim.Native.Nat.{ℕ, ◌+◌, ◌<◌}
use lib.ListN.{length, take, drop, set, length-set}
use Rattle.geometry.specs.Pass.{written}
use Rattle.geometry.proofs.Lent.{take_more, drop_more, written-whole}

module _ {A : Type 0} where
  -- the first i elements and what is still to come are the whole, and the rest is as it was
  pub record WrittenTo (whole list old : List A) (i : ℕ) (coming : List A) : Type 0 where
    pub so_far : take i list ++ coming ≡ whole
    pub beyond : drop i list ≡ drop i old
    pub same_length : length list ≡ length old

  -- nothing is written yet, one more element is, all are
  pub written_none : (whole old : List A) → WrittenTo whole old old 0 whole
  written_none whole old = record { so_far = refl; beyond = refl; same_length = refl }

  pub written-more : (whole list old : List A) (i : ℕ) (v : A) (coming : List A) → WrittenTo whole list old i (v ∷ coming) → i < length list
      → WrittenTo whole (set list i v) old (i + 1) coming
  written-more whole list old i v coming so_far h =
      record {
        so_far = rw (take_more i v list h, append_assoc) so_far.so_far;
        beyond = drop_more i v list old so_far.beyond;
        same_length = length-set list i v ∙ so_far.same_length;
      }

  pub written_all : (whole list old : List A) (i : ℕ) → WrittenTo whole list old i [] → length whole ≡ i → list ≡ written whole old
  written_all whole list old i all long = written-whole i list whole old (sym (append-nil (take i list)) ∙ all.so_far) all.beyond long
