-- `best_sum` is the sum of an overlap-free choice, and no such choice exceeds it: every overlap-free choice has one position for each mark,
-- so it is among those that are enumerated, and the greatest over them is attained since the choice without any label is overlap-free.
use mathlib.Core.Path.{◌≡◌, refl, sym, ap}
use mathlib.Core.Bool.{true}
use mathlib.Core.List.{List, [], ◌∷◌}
use mathlib.Core.Logic.{inl, inr}
use Prim.Native.Nat.{ℕ, suc, ◌≤◌}
use lib.ListN.{length}
use Rattle.geometry.specs.Lists.{words_of}
use Rattle.geometry.specs.Mark.{Mark}
use Rattle.geometry.specs.Position.{above, below, leftward, rightward, Position, unlabelled, at, every_position}
use Rattle.geometry.specs.Overlap.{apart, free}
use Rattle.geometry.specs.Placing.{sum_of, best_sum}
use Rattle.geometry.proofs.Split.{both, and-snd, clash}
use Rattle.geometry.proofs.Words.{Member, Spelled, word-listed, greatest-bounds, greatest-attained}

-- an overlap-free choice has exactly one entry for each mark
pub free-length : (g : ℕ) (ms : List Mark) (c : List Position) → free g ms c ≡ true → length c ≡ length ms
unfolding free
free-length g [] [] e = refl
free-length g [] (p ∷ c) e = clash e refl
free-length g (m ∷ ms) [] e = clash e refl
free-length g (m ∷ ms) (p ∷ c) e = ap suc (free-length g ms c (and-snd (apart g m p ms c) (free g ms c) e))

-- the five positions are all there are
pub position-listed : (p : Position) → Member p every_position
position-listed unlabelled = inl refl
position-listed (at above leftward) = inr (inl refl)
position-listed (at below leftward) = inr (inr (inl refl))
position-listed (at above rightward) = inr (inr (inr (inl refl)))
position-listed (at below rightward) = inr (inr (inr (inr (inl refl))))

-- so every choice is made of them
choice-spelled : (c : List Position) → Spelled every_position c
choice-spelled [] = tt
choice-spelled (p ∷ c) = (position-listed p, choice-spelled c)

-- so every overlap-free choice is among those that `best_sum` looks at
pub free-listed : (g : ℕ) (ms : List Mark) (c : List Position) → free g ms c ≡ true → Member c (words_of every_position (length ms))
free-listed g ms c e = rw (sym (free-length g ms c e)) (word-listed every_position c (choice-spelled c))

-- the choice without any label is overlap-free
abbrev bare : List Mark → List Position
bare [] = []
bare (m ∷ ms) = unlabelled ∷ bare ms

-- a mark without a label overlaps nothing
pub apart_bare : (g : ℕ) (m : Mark) (ms : List Mark) (c : List Position) → apart g m unlabelled ms c ≡ true
unfolding apart
apart_bare g m [] c = refl
apart_bare g m (n ∷ ms) [] = refl
apart_bare g m (n ∷ ms) (p ∷ c) = apart_bare g m ms c

free-bare : (g : ℕ) (ms : List Mark) → free g ms (bare ms) ≡ true
unfolding free
free-bare g [] = refl
free-bare g (m ∷ ms) = both (apart g m unlabelled ms (bare ms)) (free g ms (bare ms)) (apart_bare g m ms (bare ms)) (free-bare g ms)

-- no overlap-free choice exceeds the best sum
pub best-bounds : (g : ℕ) (ms : List Mark) (c : List Position) → free g ms c ≡ true → sum_of ms c ≤ best_sum g ms
unfolding best_sum
best-bounds g ms c e = greatest-bounds (free g ms) (sum_of ms) (words_of every_position (length ms)) c (free-listed g ms c e) e

-- an overlap-free choice with the best sum
pub record BestChoice (g : ℕ) (ms : List Mark) : Type 0 where
  pub choice : List Position
  pub is_free : free g ms choice ≡ true
  pub is-best : sum_of ms choice ≡ best_sum g ms

-- there is one
pub best-attained : (g : ℕ) (ms : List Mark) → BestChoice g ms
unfolding best_sum
best-attained g ms =
    let a =
    greatest-attained (free g ms) (sum_of ms) (words_of every_position (length ms)) (bare ms) (free-listed g ms (bare ms) (free-bare g ms)) (free-bare g ms) in
    record { choice = a.element; is_free = a.passes; is-best = a.worth }
