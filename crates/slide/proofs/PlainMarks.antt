-- The marks without their weights: what they are at each index, and that the label of each is a good one.
use mathlib.Core.Path.{◌≡◌, refl, ◌∙◌, ap}
use mathlib.Core.Bool.{true}
use mathlib.Core.List.{List, [], ◌∷◌}
use Prim.Native.Nat.{ℕ, zero, suc, ◌+◌, ◌≤◌, ◌<◌}
use native.Mathlib.Omega.{arith}
use native.Mathlib.Numerals.{add-one}
use lib.IntN.{ℤ, pos}
use lib.ListN.{length, get_or, drop, drop_of_length-le}
use Rattle.geometry.specs.Dot.{dot}
use Rattle.std.specs.List.{list_all}
use Rattle.geometry.specs.Mark.{place_in_range_lem, length_in_range_lem, most_length}
use Rattle.geometry.specs.Pass.{most_gap}
use Rattle.geometry.proofs.Split.{one-to}
use Rattle.geometry.proofs.Accepted.{every-at, first_good, rest-good}
use Rattle.geometry.proofs.Dots.{range-dots}
use Rattle.slide.specs.inner.Plain.{plain_mark, plain_marks, plain_at, Checked}
use Rattle.slide.specs.inner.Room.{GoodLabel}
use Rattle.slide.proofs.ExactCells.{Inside}

-- the ranges of place and length leave dots enough on either side of the place
good-label : (z : ℤ) (l : ℕ) → place_in_range_lem z ≡ true → length_in_range_lem l ≡ true → GoodLabel (plain_mark (dot z) l)
good-label z l place label =
    let dots = range-dots z place in
    let ranged = one-to most_length l label in
    record { some = ranged.0; short = ranged.1; left = omega (arith, ranged.1); right = omega arith }

-- one mark for each place, and the mark at an index
length-plain : (zs : List ℤ) (ls : List ℕ) → length ls ≡ length zs → length (plain_marks zs ls) ≡ length zs
unfolding plain_marks
length-plain [] ls e = refl
length-plain (z ∷ zs) [] e = absurd (omega arith)
length-plain (z ∷ zs) (l ∷ ls) e = ap suc (length-plain zs ls (omega arith))

plain_at_lem : (zs : List ℤ) (ls : List ℕ) (i : ℕ) → length ls ≡ length zs → i < length zs
    → drop i (plain_marks zs ls) ≡ plain_at zs ls i ∷ drop (suc i) (plain_marks zs ls)
unfolding plain_marks
plain_at_lem [] ls i e h = absurd (omega arith)
plain_at_lem (z ∷ zs) [] i e h = absurd (omega arith)
plain_at_lem (z ∷ zs) (l ∷ ls) zero e h = refl
plain_at_lem (z ∷ zs) (l ∷ ls) (suc i) e h = plain_at_lem zs ls i (omega arith) (omega arith)

-- every label, with a gap that is not too wide, lies inside the coordinates
plain-inside : (zs : List ℤ) (ls : List ℕ) (g : ℕ) → list_all place_in_range_lem zs ≡ true → list_all length_in_range_lem ls ≡ true
    → g ≤ most_gap
    → Inside g (plain_marks zs ls)
unfolding plain_marks
plain-inside [] ls g p q narrow = tt
plain-inside (z ∷ zs) [] g p q narrow = tt
plain-inside (z ∷ zs) (l ∷ ls) g p q narrow =
    let label = good-label z l (first_good place_in_range_lem z zs p) (first_good length_in_range_lem l ls q) in (
      record { left = label.left; right = omega arith },
      plain-inside zs ls g (rest-good place_in_range_lem z zs p) (rest-good length_in_range_lem l ls q) narrow,
    )

module _ (places : List ℤ) (lengths : List ℕ) (g : ℕ) (checked : Checked places lengths g) where
  -- for a strip that passed the checks
  pub marks-inside : Inside g (plain_marks places lengths)
  marks-inside = plain-inside places lengths g checked.places-good checked.lengths-good checked.gap-narrow

  pub marks-length : length (plain_marks places lengths) ≡ length places
  marks-length = length-plain places lengths checked.same_count

  -- the label of the mark at an index
  pub label_at : (k : ℕ) → k < length places → GoodLabel (plain_at places lengths k)
  label_at k h =
      good-label (get_or places k (pos 0)) (get_or lengths k 0)
      (every-at place_in_range_lem places (pos 0) k checked.places-good h)
      (every-at length_in_range_lem lengths 0 k checked.lengths-good (omega (arith, checked.same_count)))

  -- what is left of the marks begins with the mark at the index
  pub marks-from : (k : ℕ) → k < length places
      → drop k (plain_marks places lengths) ≡ plain_at places lengths k ∷ drop (k + 1) (plain_marks places lengths)
  marks-from k h = plain_at_lem places lengths k checked.same_count h ∙ rw (← add-one k) refl

  pub marks-end : (k : ℕ) → length places ≤ k → drop k (plain_marks places lengths) ≡ []
  marks-end k h = drop_of_length-le (plain_marks places lengths) {i = k} (omega (arith, marks-length))
