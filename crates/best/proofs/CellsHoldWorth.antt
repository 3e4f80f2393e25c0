-- A cell holds what the marks after its last labels earn, so the value that the program puts into it is right.
-- From a cell, a position of mark k leads to a cell whose last labels are of marks up to k, and which does not stand before it: it
-- counts the marks from k + 1 on, beside the reaches that the walk holds after that position. The greatest over the positions that
-- have room is then `worth` of the marks from k on, by its definition.
use mathlib.Core.Path.{◌≡◌, refl, ◌∙◌, ap}
use mathlib.Core.Bool.{Bool, cond}
use mathlib.Core.List.{List, [], ◌∷◌}
use Prim.Native.Nat.{ℕ, suc, ◌+◌, ◌/◌, ◌≤◌, ◌<◌, max}
use native.Mathlib.Omega.{arith}
use lib.ListN.{get_or, drop}
use borrow.Author.Tests.{le-ltb}
use Rattle.geometry.specs.Lists.{greatest_of}
use Rattle.geometry.specs.Strip.{Strip, marks_of, most_short}
use Rattle.geometry.specs.Position.{Side, above, below, Direction, leftward, rightward, Position, unlabelled, at, every_position}
use Rattle.geometry.specs.inner.At.{mark_at}
use Rattle.geometry.specs.inner.Machine.{next_above, next_below}
use Rattle.geometry.proofs.Split.{by_bool}
use Rattle.geometry.proofs.Accepted.{marks-from}
use Rattle.geometry.specs.inner.Positions.{lies_on_lem, direction_at}
use Rattle.best.specs.inner.Worth.{earned_by, worth}
use Rattle.best.specs.inner.Names.{names, name_of, last_after, reach_at}
use Rattle.best.specs.inner.Checked.{StripChecked}
use Rattle.best.specs.inner.Table.{cell_of, cell_after, cell_worth, Partly}
use Rattle.best.specs.inner.Trial.{BeforeMark, room_at, gain_at}
use Rattle.best.proofs.NamedReaches.{above-named, below-named}

-- the most that mark k and the marks after it earn, by the table, over the positions that have room
abbrev pub most_at : ℕ → Strip → List ℕ → ℕ → ℕ → ℕ → ℕ
most_at g s work k x y = greatest_of (room_at g s k x y) (gain_at s work k x y) every_position

-- half the name of a label is the number of its mark
name-number : (k : ℕ) (d : Direction) → name_of k d / 2 ≡ suc k
name-number k leftward = omega arith
name-number k rightward = omega arith

-- a side's last label after mark k, from what holds of the name of a label of k and of the last label before
by_last : (s : Side) (k : ℕ) (p : Position) (last : ℕ) (P : ℕ → Type 0) → P (name_of k (direction_at p)) → P last → P (last_after s k p last)
by_last s k p last P h g = by_bool (lies_on_lem s p) (λ t. P (cond t (name_of k (direction_at p)) last)) (λ _. h) (λ _. g)

module _ (s : Side) (k last : ℕ) (p : Position) where
  -- it is one of the names
  pub last-named : k < most_short → last < names → last_after s k p last < names
  last-named h g = by_last s k p last (λ n. n < names) (omega (arith, name-number k (direction_at p))) g

  -- and of a mark up to k
  pub last-up-to : last / 2 ≤ k → last_after s k p last / 2 ≤ suc k
  last-up-to h = by_last s k p last (λ n. n / 2 ≤ suc k) (omega (arith, name-number k (direction_at p))) (omega arith)

-- a label of mark k is the last of all
pub label-last : (k x y : ℕ) (s : Side) (d : Direction) → x / 2 ≤ k → y / 2 ≤ k
    → max (last_after above k (at s d) x / 2) (last_after below k (at s d) y / 2) ≡ suc k
label-last k x y above d h g = rw (name-number k d) (omega arith)
label-last k x y below d h g = rw (name-number k d) (omega arith)

module _ (k x y : ℕ) (p : Position) (above_before : x / 2 ≤ k) (below-before : y / 2 ≤ k) where
  -- the last labels after mark k are of marks up to k, so the cell after it counts the marks from k + 1 on
  later-number : max (suc k) (max (last_after above k p x / 2) (last_after below k p y / 2)) ≡ suc k
  later-number = omega (arith, last-up-to above k x p above_before, last-up-to below k y p below-before)

-- the cell that a position leads to does not stand before the cell itself
cell-later : (k x y : ℕ) (p : Position) → x / 2 ≤ k → y / 2 ≤ k → y < names → cell_of x y ≤ cell_after k x y p
cell-later k x y unlabelled h g small = omega arith
cell-later k x y (at above d) h g small = omega (arith, name-number k d)
cell-later k x y (at below d) h g small = omega (arith, name-number k d)

module _ (g : ℕ) (s : Strip) where
  -- what the marks after k earn beside the reaches after k is at p
  abbrev pub worth_after : ℕ → ℕ → ℕ → Position → ℕ
  worth_after k x y p =
      worth g (next_above g (reach_at g s x) (mark_at s k) p) (next_below g (reach_at g s y) (mark_at s k) p) (drop (suc k) (marks_of s))

  -- is what the cell after p holds
  pub after-worth : (j k x y : ℕ) (p : Position) → max j (max (last_after above k p x / 2) (last_after below k p y / 2)) ≡ suc k
      → cell_worth g s j (last_after above k p x) (last_after below k p y) ≡ worth_after k x y p
  unfolding cell_worth
  after-worth j k x y p e = rw (e, above-named g s k x p, below-named g s k y p) refl

  -- a cell of which a last label is of mark k or later counts the same marks with and without mark k
  pub same-worth : (k x y : ℕ) → suc k ≤ max (x / 2) (y / 2) → cell_worth g s (suc k) x y ≡ cell_worth g s k x y
  unfolding cell_worth
  same-worth k x y h =
      let e : max (suc k) (max (x / 2) (y / 2)) ≡ max k (max (x / 2) (y / 2)) = omega arith in
      ap (λ n. worth g (reach_at g s x) (reach_at g s y) (drop n (marks_of s))) e

-- equal values have the same greatest
greatest-same : (t : Position → Bool) (f h : Position → ℕ) (xs : List Position) → ((p : Position) → f p ≡ h p)
    → greatest_of t f xs ≡ greatest_of t h xs
unfolding greatest_of
greatest-same t f h [] e = refl
greatest-same t f h (p ∷ xs) e = rw (e p, greatest-same t f h xs e) refl

module _ (g : ℕ) (s : Strip) (k x y : ℕ) (checked : StripChecked s) (before : BeforeMark s k x y) where
  -- what a cell counts from mark k on, by the definition of `worth`
  worth-from : greatest_of (room_at g s k x y) (λ p. earned_by (get_or s.weights k 0) p + worth_after g s k x y p) every_position
      ≡ cell_worth g s k x y
  unfolding cell_worth worth greatest_of
  worth-from =
      let e : max k (max (x / 2) (y / 2)) ≡ k = omega arith in
      rw (e, marks-from s k checked.same-lengths checked.same-weights before.in-strip) refl

  -- the two last labels after mark k are names
  pub above-after : (p : Position) → last_after above k p x < names
  above-after p = last-named above k x p (omega arith) (omega arith)

  pub below-after : (p : Position) → last_after below k p y < names
  below-after p = last-named below k y p (omega arith) (omega arith)

  module _ (work : List ℕ) (partly : Partly g s k (cell_of x y) work) where
    -- the cell that a position leads to is not yet renewed
    led-to : (p : Position) → get_or work (cell_after k x y p) 0 ≡ worth_after g s k x y p
    led-to p =
        let late = cell-later k x y p before.above_before before.below-before (omega arith) in
        partly.cell (last_after above k p x) (last_after below k p y) (above-after p) (below-after p)
        ∙ ap (λ t. cell_worth g s (cond t k (suc k)) (last_after above k p x) (last_after below k p y)) (le-ltb _ (cell_of x y) late)
        ∙ after-worth g s (suc k) k x y p (later-number k x y p before.above_before before.below-before)

    -- the value that the program puts into the cell
    pub renewed-worth : most_at g s work k x y ≡ cell_worth g s k x y
    renewed-worth =
        greatest-same (room_at g s k x y) (gain_at s work k x y) _ every_position
        (λ p. ap (λ n. earned_by (get_or s.weights k 0) p + n) (led-to p))
        ∙ worth-from
