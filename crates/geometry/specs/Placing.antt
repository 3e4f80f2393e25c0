-- What the full and the best pass answer, by enumeration of all choices.
use Rattle.std.specs.Prelude.{ℕ, suc, ◌+◌, ◌<◌, ◌≡◌, Bool, true, ◌⊎◌, List, [], ◌∷◌, length}
use Rattle.std.proofs.Math.Option.{Option}
use Rattle.geometry.specs.Lists.{first_of, greatest_of, words_of}
use Rattle.geometry.specs.Mark.{Mark}
use Rattle.geometry.specs.Position.{above, below, leftward, rightward, Position, unlabelled, at, ranked, every_position}
use Rattle.geometry.specs.Overlap.{free, all_labelled}

-- the lists of positions 1 to 4, one for each mark
abbrev pub placings : List Mark → List (List Position)
placings ms = words_of ranked (length ms)

-- the test that a choice is good: no two of its labels overlap
abbrev pub good : ℕ → List Mark → List Position → Bool
good = free

-- "A placing in four positions is a part layout of all marks, and a strip fits if it has one."
pub record IsPlacing (g : ℕ) (ms : List Mark) (ps : List Position) : Type 0 where
  pub is_free : good g ms ps ≡ true
  pub labels-all : all_labelled ps ≡ true

-- "Of all placings it is the first, comparing from mark 1 on, with positions ranked 2, 3, 1, 4." (1d-4P, decided with a witness)
unfoldable pub first_placing : ℕ → List Mark → Option (List Position)
first_placing g ms = first_of (good g ms) (placings ms)

-- "comparing from mark 1 on, with positions ranked 2, 3, 1, 4": one placing does not come after another if it has the position of
-- lower rank at the first mark at which they differ, or if they do not differ
abbrev pub rank : Position → ℕ
rank (at above leftward) = 0
rank (at below leftward) = 1
rank (at above rightward) = 2
rank (at below rightward) = 3
rank unlabelled = 4

abbrev pub NotAfter : List Position → List Position → Type 0
NotAfter [] [] = Unit {0}
NotAfter [] (q ∷ qs) = ⊥
NotAfter (p ∷ ps) [] = ⊥
NotAfter (p ∷ ps) (q ∷ qs) = (rank p < rank q) ⊎ ((p ≡ q) × NotAfter ps qs)

-- "its sum is that of their weights": of the labels of a choice
unfoldable pub sum_of : List Mark → List Position → ℕ
sum_of [] ps = 0
sum_of (m ∷ ms) [] = 0
sum_of (m ∷ ms) (unlabelled ∷ ps) = sum_of ms ps
sum_of (m ∷ ms) (at s d ∷ ps) = m.weight + sum_of ms ps

-- the greatest sum of an overlap-free choice (weighted Max-1d-4P)
unfoldable pub best_sum : ℕ → List Mark → ℕ
best_sum g ms = greatest_of (good g ms) (sum_of ms) (words_of every_position (length ms))

-- the numbers of the marks that a choice leaves at 0, in the order of the strip, counted from k
unfoldable pub left_out_from : ℕ → List Position → List ℕ
left_out_from k [] = []
left_out_from k (unlabelled ∷ ps) = k ∷ left_out_from (suc k) ps
left_out_from k (at s d ∷ ps) = left_out_from (suc k) ps
