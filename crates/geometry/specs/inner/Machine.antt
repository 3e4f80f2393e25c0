-- A walk from left to right that holds the two reaches. The reaches are effective: a label's right end plus the gap, or
-- `empty_reach` for a side without labels, so that a label fits if its left end is not below its side's reach.
use Rattle.std.specs.Prelude.{ℕ, ◌+◌, ◌≤◌, Bool, true, List, [], ◌∷◌, leb}
use Rattle.geometry.specs.Mark.{Mark}
use Rattle.geometry.specs.Position.{Position, unlabelled, at, own_reach, above_after, below_after}
use Rattle.geometry.specs.Overlap.{left_end, right_end}

-- the label of m at p fits beside the reaches a and b
abbrev pub Room : ℕ → ℕ → Mark → Position → Type 0
Room a b m unlabelled = Unit {0}
Room a b m (at s d) = own_reach s a b ≤ left_end m d

-- the same as a test
abbrev pub room_for : ℕ → ℕ → Mark → Position → Bool
room_for a b m unlabelled = true
room_for a b m (at s d) = leb (own_reach s a b) (left_end m d)

-- the reaches after it
abbrev pub next_above : ℕ → ℕ → Mark → Position → ℕ
next_above g a m unlabelled = a
next_above g a m (at s d) = above_after s (right_end m d + g) a

abbrev pub next_below : ℕ → ℕ → Mark → Position → ℕ
next_below g b m unlabelled = b
next_below g b m (at s d) = below_after s (right_end m d + g) b

-- the walk goes through
abbrev pub Go : ℕ → ℕ → ℕ → List Mark → List Position → Type 0
Go g a b [] [] = Unit {0}
Go g a b [] (p ∷ ps) = ⊥
Go g a b (m ∷ ms) [] = ⊥
Go g a b (m ∷ ms) (p ∷ ps) = Room a b m p × Go g (next_above g a m p) (next_below g b m p) ms ps
