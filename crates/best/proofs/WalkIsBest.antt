-- The walk from the left: what is written so far, with the best choice of the rest behind it, is the best choice of the strip.
-- Before the first mark this holds with nothing written. At a mark the cells that its labels lead to hold what the marks after it earn,
-- so the position that the program takes is that of the definition, and the best choice of the rest begins with it. Behind the last
-- mark nothing is left to choose.
use mathlib.Core.Path.{◌≡◌, refl, sym, ◌∙◌, ap}
use mathlib.Core.List.{List, [], ◌∷◌, ◌++◌, map, append_assoc, append-nil}
use Prim.Native.Nat.{ℕ, suc, ◌+◌, ◌-◌, ◌/◌, ◌≤◌, ◌<◌}
use native.Mathlib.Omega.{arith}
use native.Mathlib.Numerals.{add-one}
use lib.ListN.{length, get_or, set, take, drop, length-map, length-set, drop_of_length-le}
use lib.Seq.{take_all}
use Rattle.geometry.specs.Lists.{first_of}
use Rattle.geometry.specs.Mark.{Mark}
use Rattle.geometry.specs.Strip.{Strip, marks_of}
use Rattle.geometry.specs.Pass.{written}
use Rattle.geometry.specs.Position.{Side, above, below, Direction, leftward, rightward, Position, at, code}
use Rattle.geometry.specs.inner.At.{mark_at}
use Rattle.geometry.specs.inner.Machine.{next_above, next_below}
use Rattle.geometry.proofs.Accepted.{marks-from, length-marks}
use Rattle.geometry.proofs.Lent.{written-whole, take_more, drop_more}
use Rattle.best.specs.inner.Worth.{earned_by, worth, picked, picked_from, best_from, whole_worth, whole_choice}
use Rattle.best.specs.inner.Names.{last_after, reach_at}
use Rattle.best.specs.inner.Checked.{StripChecked}
use Rattle.best.specs.inner.Table.{cell_after, cell_worth, Filled}
use Rattle.best.specs.inner.Trial.{BeforeMark, picked_at}
use Rattle.best.proofs.WorthIsBest.{picked-attains, best-length}
use Rattle.best.proofs.NamedReaches.{above-named, below-named}
use Rattle.best.proofs.CellsHoldWorth.{last-up-to, label-last, after-worth, above-after, below-after}

-- the choice of a position looks only at labels
picked_same : (a b : ℕ) (m : Mark) (f h : Position → ℕ) (t : ℕ) → ((s : Side) (d : Direction) → f (at s d) ≡ h (at s d))
    → picked a b m f t ≡ picked a b m h t
unfolding first_of
picked_same a b m f h t e = rw (e above leftward, e below leftward, e above rightward, e below rightward) refl

-- the best choice of the marks from index k on beside the last labels x and y, as position numbers
abbrev pub rest_codes : ℕ → Strip → ℕ → ℕ → ℕ → List ℕ
rest_codes g s x y k = map code (best_from g (reach_at g s x) (reach_at g s y) (drop k (marks_of s)))

-- that of the whole strip
abbrev pub whole_codes : ℕ → Strip → List ℕ
whole_codes g s = map code (whole_choice g s)

-- where the walk stands before the mark with index k
pub record Walked (g : ℕ) (s : Strip) (old positions : List ℕ) (x y target k : ℕ) : Type 0 where
  pub within : k ≤ length s.places
  pub same_length : length positions ≡ length old
  pub above_before : x / 2 ≤ k
  pub below-before : y / 2 ≤ k
  pub target_is : target ≡ worth g (reach_at g s x) (reach_at g s y) (drop k (marks_of s))
  pub written-so-far : take k positions ++ rest_codes g s x y k ≡ whole_codes g s
  pub rest-kept : drop k positions ≡ drop k old

module _ (g : ℕ) (s : Strip) (work : List ℕ) (filled : Filled g s 0 work) where
  -- the first cell holds what all marks earn
  pub first_cell : get_or work 0 0 ≡ whole_worth g s
  unfolding cell_worth reach_at
  first_cell = filled.cell 0 0 (omega arith) (omega arith)

  -- nothing is written and all is left to earn
  pub walk-starts : (old : List ℕ) → Walked g s old old 0 0 (get_or work 0 0) 0
  unfolding reach_at
  walk-starts old =
      record {
        within = omega arith;
        same_length = refl;
        above_before = omega arith;
        below-before = omega arith;
        target_is = first_cell;
        written-so-far = refl;
        rest-kept = refl;
      }

  -- at the mark with index k
  module _ (checked : StripChecked s) (old positions : List ℕ) (x y target k : ℕ) (walked : Walked g s old positions x y target k)
      (in-strip : k < length s.places) where
    -- the mark, the marks after it, and the two reaches beside it
    abbrev m : Mark
    m = mark_at s k

    abbrev rest : List Mark
    rest = drop (suc k) (marks_of s)

    abbrev a : ℕ
    a = reach_at g s x

    abbrev b : ℕ
    b = reach_at g s y

    -- the last labels are of marks before it
    pub before-mark : BeforeMark s k x y
    before-mark = record { in-strip = in-strip; above_before = walked.above_before; below-before = walked.below-before }

    -- what is left is the mark and the marks after it
    left_is : drop k (marks_of s) ≡ m ∷ rest
    left_is = marks-from s k checked.same-lengths checked.same-weights in-strip

    -- a label leads to a cell that holds what the marks after it earn
    labelled-cell : (t : Side) (d : Direction)
        → get_or work (cell_after k x y (at t d)) 0 ≡ worth g (next_above g a m (at t d)) (next_below g b m (at t d)) rest
    labelled-cell t d =
        let p = at t d in
        let last = label-last k x y t d walked.above_before walked.below-before in
        filled.cell (last_after above k p x) (last_after below k p y)
        (above-after g s k x y checked before-mark p)
        (below-after g s k x y checked before-mark p)
        ∙ after-worth g s 0 k x y p (omega arith)

    -- the program's choice is the choice of the definition
    pub chosen_is : picked_at g s work k x y target ≡ picked_from g a b m rest
    unfolding first_of
    chosen_is =
        rw (walked.target_is, left_is)
        (picked_same a b m (λ p. get_or work (cell_after k x y p) 0) (λ p. worth g (next_above g a m p) (next_below g b m p) rest) (worth g a b (m ∷ rest))
        labelled-cell)

    module _ (p : Position) (chosen : p ≡ picked_at g s work k x y target) where
      as-defined : p ≡ picked_from g a b m rest
      as-defined = chosen ∙ chosen_is

      -- what the mark earns and what the marks after it earn is all that was left to earn
      earned-and-rest : earned_by (get_or s.weights k 0) p + worth g (next_above g a m p) (next_below g b m p) rest ≡ target
      earned-and-rest = rw as-defined ((picked-attains g a b m rest).1 ∙ ap (worth g a b) (sym left_is) ∙ sym walked.target_is)

      -- so the program may take the mark's weight off
      pub earned-within : earned_by (get_or s.weights k 0) p ≤ target
      earned-within = omega (arith, earned-and-rest)

      -- the best choice of what is left begins with the mark's position
      begins-with : rest_codes g s x y k ≡ code p ∷ map code (best_from g (next_above g a m p) (next_below g b m p) rest)
      unfolding best_from
      begins-with = rw (left_is, as-defined) refl

      -- the mark's position is written, each side has its last label, and the walk stands before the next mark
      pub walk-on : (v x' y' w : ℕ) → v ≡ code p → x' ≡ last_after above k p x → y' ≡ last_after below k p y
          → w ≡ earned_by (get_or s.weights k 0) p → k < length positions → Walked g s old (set positions k v) x' y' (target - w) (k + 1)
      walk-on v x' y' w ev ex ey ew inside =
          record {
            within = omega arith;
            same_length = length-set positions k v ∙ walked.same_length;
            above_before = rw (ex, add-one k) (last-up-to above k x p walked.above_before);
            below-before = rw (ey, add-one k) (last-up-to below k y p walked.below-before);
            target_is = rw (ex, ey, add-one k, above-named g s k x p, below-named g s k y p) (omega (arith, earned-and-rest));
            written-so-far =
                rw (take_more k v positions inside, ev, ex, ey, add-one k, above-named g s k x p, below-named g s k y p)
                (append_assoc (take k positions) (code p ∷ []) _
                ∙ ap (λ (l : List ℕ). take k positions ++ l) (sym begins-with)
                ∙ walked.written-so-far);
            rest-kept = drop_more k v positions old walked.rest-kept;
          }

-- a strip that passed the checks has a mark for each place
one-for-each : (s : Strip) → StripChecked s → length (marks_of s) ≡ length s.places
one-for-each s checked = length-marks s checked.same-lengths checked.same-weights

-- behind the last mark nothing is left to choose, so what is written is the whole choice
module _ (g : ℕ) (s : Strip) (positions : List ℕ) (x y k : ℕ) (checked : StripChecked s) (at-end : length s.places ≤ k)
    (written-so-far : take k positions ++ rest_codes g s x y k ≡ whole_codes g s) where
  none_left : rest_codes g s x y k ≡ []
  none_left = rw (drop_of_length-le (marks_of s) {i = k} (omega (arith, one-for-each s checked))) (unfold best_from in refl)

  all-written : take k positions ≡ whole_codes g s
  all-written = sym (append-nil (take k positions)) ∙ ap (λ (l : List ℕ). take k positions ++ l) (sym none_left) ∙ written-so-far

  -- a list of no more positions holds nothing else
  pub used_ends : length positions ≤ k → positions ≡ whole_codes g s
  used_ends short = sym (take_all k positions short) ∙ all-written

-- of a longer list the rest is as it was lent
module _ (g : ℕ) (s : Strip) (old positions : List ℕ) (x y target k : ℕ) (checked : StripChecked s) (walked : Walked g s old positions x y target k)
    (at-end : length s.places ≤ k) where
  whole_length : length (whole_codes g s) ≡ k
  whole_length = length-map (whole_choice g s) code ∙ best-length g _ _ (marks_of s) ∙ omega (arith, walked.within, one-for-each s checked)

  pub walk_ends : positions ≡ written (whole_codes g s) old
  walk_ends =
      let all = all-written g s positions x y k checked at-end walked.written-so-far in
      written-whole k positions (whole_codes g s) old all walked.rest-kept whole_length
