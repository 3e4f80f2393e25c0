-- How the best sum follows one mark. Erasing the mark and its entry from an overlap-free choice leaves an overlap-free choice, since fewer
-- labels are left to overlap, and takes from the sum the mark's weight or nothing. Putting the mark in, with 0 as its entry, leaves one too,
-- since a mark without a label overlaps nothing, and the sum stays. And where the mark has another weight the same choices are
-- overlap-free, and the sum of each is changed by the difference of the weights if the mark is labelled, else not at all. The best sum is the
-- sum of some choice, and that of no choice exceeds it; so best sums stand to each other as the sums of one choice do. Of overlap nothing
-- is used but this: erasing, putting in a 0, and that weights do not count (`free-shorter`, which asks of a label only that it is no longer).
use mathlib.Core.Path.{◌≡◌, refl}
use mathlib.Core.Bool.{true, not}
use mathlib.Core.List.{List, [], ◌∷◌, ◌++◌}
use Prim.Native.Nat.{ℕ, ◌+◌, ◌-◌, ◌≤◌}
use native.Mathlib.Omega.{arith}
use lib.ListN.{length}
use Rattle.std.specs.Prelude.{insert, remove}
use Rattle.geometry.specs.Mark.{Mark, with_weight}
use Rattle.geometry.specs.Position.{Position, unlabelled, at}
use Rattle.geometry.specs.Overlap.{overlaps, apart, free}
use Rattle.geometry.specs.Placing.{sum_of, best_sum}
use Rattle.geometry.proofs.Split.{both, and-fst, and-snd, clash}
use Rattle.geometry.proofs.Best.{apart_bare, best-bounds, best-attained}
use Rattle.geometry.proofs.Shorter.{AllShorter, shorter-itself, free-shorter}

-- nothing overlaps a mark without a label, and a label is apart from no labels
not-overlapped : (g : ℕ) (x : Mark) (p : Position) (n : Mark) → not (overlaps g x p n unlabelled) ≡ true
not-overlapped g x unlabelled n = refl
not-overlapped g x (at s d) n = refl

apart-none : (g : ℕ) (x : Mark) (p : Position) (ms : List Mark) → apart g x p ms [] ≡ true
unfolding apart
apart-none g x p [] = refl
apart-none g x p (n ∷ ms) = refl

module _ (g : ℕ) (m : Mark) (after : List Mark) where
  -- erasing an entry
  apart-erased : (x : Mark) (p : Position) (before : List Mark) (c : List Position) → apart g x p (before ++ m ∷ after) c ≡ true
      → apart g x p (before ++ after) (remove c (length before)) ≡ true
  unfolding apart
  apart-erased x p [] [] e = apart-none g x p after
  apart-erased x p [] (q ∷ c) e = and-snd (not (overlaps g x p m q)) (apart g x p after c) e
  apart-erased x p (n ∷ before) [] e = refl
  apart-erased x p (n ∷ before) (q ∷ c) e =
      let here = not (overlaps g x p n q) in
      let rest = apart g x p (before ++ m ∷ after) c in
      both here _ (and-fst here rest e) (apart-erased x p before c (and-snd here rest e))

  free-erased : (before : List Mark) (c : List Position) → free g (before ++ m ∷ after) c ≡ true
      → free g (before ++ after) (remove c (length before)) ≡ true
  unfolding free
  free-erased [] [] e = clash e refl
  free-erased [] (p ∷ c) e = and-snd (apart g m p after c) (free g after c) e
  free-erased (x ∷ before) [] e = clash e refl
  free-erased (x ∷ before) (p ∷ c) e =
      let here = apart g x p (before ++ m ∷ after) c in
      let rest = free g (before ++ m ∷ after) c in
      both _ _ (apart-erased x p before c (and-fst here rest e)) (free-erased before c (and-snd here rest e))

  -- putting in a 0
  apart-with-0 : (x : Mark) (p : Position) (before : List Mark) (c : List Position) → apart g x p (before ++ after) c ≡ true
      → apart g x p (before ++ m ∷ after) (insert c (length before) unlabelled) ≡ true
  unfolding apart
  apart-with-0 x p [] c e = both _ _ (not-overlapped g x p m) e
  apart-with-0 x p (n ∷ before) [] e = both _ _ (not-overlapped g x p n) (apart-none g x p (before ++ m ∷ after))
  apart-with-0 x p (n ∷ before) (q ∷ c) e =
      let here = not (overlaps g x p n q) in
      let rest = apart g x p (before ++ after) c in
      both here _ (and-fst here rest e) (apart-with-0 x p before c (and-snd here rest e))

  free-with-0 : (before : List Mark) (c : List Position) → free g (before ++ after) c ≡ true
      → free g (before ++ m ∷ after) (insert c (length before) unlabelled) ≡ true
  unfolding free
  free-with-0 [] c e = both _ _ (apart_bare g m after c) e
  free-with-0 (x ∷ before) [] e = clash e refl
  free-with-0 (x ∷ before) (p ∷ c) e =
      let here = apart g x p (before ++ after) c in
      let rest = free g (before ++ after) c in
      both _ _ (apart-with-0 x p before c (and-fst here rest e)) (free-with-0 before c (and-snd here rest e))

  -- what that does to the sum
  erased-earns : (before : List Mark) (c : List Position)
      → sum_of (before ++ m ∷ after) c ≤ sum_of (before ++ after) (remove c (length before)) + m.weight
  unfolding sum_of
  erased-earns [] [] = omega arith
  erased-earns [] (unlabelled ∷ c) = omega arith
  erased-earns [] (at s d ∷ c) = omega arith
  erased-earns (x ∷ before) [] = omega arith
  erased-earns (x ∷ before) (unlabelled ∷ c) = erased-earns before c
  erased-earns (x ∷ before) (at s d ∷ c) = omega (arith, erased-earns before c)

  with-0-earns : (before : List Mark) (c : List Position)
      → sum_of (before ++ after) c ≤ sum_of (before ++ m ∷ after) (insert c (length before) unlabelled)
  unfolding sum_of
  with-0-earns [] c = omega arith
  with-0-earns (x ∷ before) [] = omega arith
  with-0-earns (x ∷ before) (unlabelled ∷ c) = with-0-earns before c
  with-0-earns (x ∷ before) (at s d ∷ c) = omega (arith, with-0-earns before c)

  -- Without the mark at most its weight is lost, and nothing is gained.
  pub best-erased : (before : List Mark) → best_sum g (before ++ m ∷ after) ≤ best_sum g (before ++ after) + m.weight
  best-erased before =
      let b = best-attained g (before ++ m ∷ after) in
      let bound = best-bounds g (before ++ after) _ (free-erased before b.choice b.is_free) in
      omega (arith, erased-earns before b.choice, bound, b.is-best)

  pub best-with-0 : (before : List Mark) → best_sum g (before ++ after) ≤ best_sum g (before ++ m ∷ after)
  best-with-0 before =
      let b = best-attained g (before ++ after) in
      let bound = best-bounds g (before ++ m ∷ after) _ (free-with-0 before b.choice b.is_free) in
      omega (arith, with-0-earns before b.choice, bound, b.is-best)

-- labels of the same lengths are no longer
all-shorter : (ms : List Mark) → AllShorter ms ms
all-shorter [] = tt
all-shorter (m ∷ ms) = (shorter-itself m, all-shorter ms)

module _ (g : ℕ) (m : Mark) (after : List Mark) (v w : ℕ) where
  -- the mark with either weight
  same-labels : (before : List Mark) → AllShorter (before ++ with_weight w m ∷ after) (before ++ with_weight v m ∷ after)
  same-labels [] = (record { same_place = refl; no_longer = omega arith }, all-shorter after)
  same-labels (x ∷ before) = (shorter-itself x, same-labels before)

  reweighed-earns : (before : List Mark) (c : List Position)
      → sum_of (before ++ with_weight v m ∷ after) c ≤ sum_of (before ++ with_weight w m ∷ after) c + (v - w)
  unfolding sum_of
  reweighed-earns [] [] = omega arith
  reweighed-earns [] (unlabelled ∷ c) = omega arith
  reweighed-earns [] (at s d ∷ c) = omega arith
  reweighed-earns (x ∷ before) [] = omega arith
  reweighed-earns (x ∷ before) (unlabelled ∷ c) = reweighed-earns before c
  reweighed-earns (x ∷ before) (at s d ∷ c) = omega (arith, reweighed-earns before c)

  -- With the weight w in place of v no more is lost than weight is: nothing where w is not less.
  pub best-reweighed : (before : List Mark)
      → best_sum g (before ++ with_weight v m ∷ after) ≤ best_sum g (before ++ with_weight w m ∷ after) + (v - w)
  best-reweighed before =
      let b = best-attained g (before ++ with_weight v m ∷ after) in
      let new_marks = before ++ with_weight w m ∷ after in
      let still_free = free-shorter g new_marks (before ++ with_weight v m ∷ after) (same-labels before) b.choice b.is_free in
      omega (arith, reweighed-earns before b.choice, best-bounds g new_marks b.choice still_free, b.is-best)
