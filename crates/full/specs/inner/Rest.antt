-- What the rest of a strip can still do beside two reaches, and the walk that takes the first position that leaves it possible.
use Rattle.std.specs.Prelude.{ℕ, List, [], ◌∷◌, map, Bool, true, cond, ◌&&◌, ◌||◌, leb}
use Rattle.geometry.specs.Mark.{Mark}
use Rattle.geometry.specs.Position.{Position, at, above, below, leftward, rightward}
use Rattle.geometry.specs.inner.Machine.{room_for, next_above, next_below}

-- The marks can all be placed beside the reaches a and b. That this is about placings (`first-placing-is` in proofs/) rests on two
-- things that a wider model would change: the test that a choice is good, which is `free`, and the order of the places, which rise.
unfoldable pub can : ℕ → ℕ → ℕ → List Mark → Bool
can g a b [] = true
can g a b (m ∷ ms) =
    (room_for a b m (at above leftward) && can g (next_above g a m (at above leftward)) (next_below g b m (at above leftward)) ms)
    || ((room_for a b m (at below leftward) && can g (next_above g a m (at below leftward)) (next_below g b m (at below leftward)) ms)
    || ((room_for a b m (at above rightward) && can g (next_above g a m (at above rightward)) (next_below g b m (at above rightward)) ms)
    || (room_for a b m (at below rightward) && can g (next_above g a m (at below rightward)) (next_below g b m (at below rightward)) ms)))

-- the mark m fits at p and the marks behind it can then all be placed
abbrev pub leaves : ℕ → ℕ → ℕ → Mark → List Mark → Position → Bool
leaves g a b m ms p = room_for a b m p && can g (next_above g a m p) (next_below g b m p) ms

-- 2, 3 or 1 by the first of their tests that is passed, else 4
abbrev pub first_passed_lem : Bool → Bool → Bool → Position
first_passed_lem two three one = cond two (at above leftward) (cond three (at below leftward) (cond one (at above rightward) (at below rightward)))

-- the first position in the order 2, 3, 1, 4 that leaves the rest possible, 4 if none does
abbrev pub pick : ℕ → ℕ → ℕ → Mark → List Mark → Position
pick g a b m ms = first_passed_lem (leaves g a b m ms (at above leftward)) (leaves g a b m ms (at below leftward)) (leaves g a b m ms (at above rightward))

-- a step of the walk: the position taken at a mark, and the two reaches behind it
pub record Taken : Type 0 where
  pub position : Position
  pub reach_above : ℕ
  pub reach_below : ℕ

unfoldable pub steps : ℕ → ℕ → ℕ → List Mark → List Taken
steps g a b [] = []
steps g a b (m ∷ ms) =
    let p = pick g a b m ms in
    let a' = next_above g a m p in
    let b' = next_below g b m p in
    record { position = p; reach_above = a'; reach_below = b' } ∷ steps g a' b' ms

-- the positions that it takes
abbrev pub walk : ℕ → ℕ → ℕ → List Mark → List Position
walk g a b ms = map (λ t. t.position) (steps g a b ms)

-- the position picked, by what a row leaves: the left ends of the two directions, and what positions 2, 3 and 1 leave to the other side
abbrev pub pick_by_row : ℕ → ℕ → ℕ → ℕ → ℕ → ℕ → ℕ → Position
pick_by_row a b left right first second third = first_passed_lem (leb a left && leb b first) (leb b left && leb a second) (leb a right && leb b third)
