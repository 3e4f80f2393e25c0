-- "Position 1 is above and to the right, 2 above left, 3 below left, 4 below right"; "0 for none".
use Rattle.std.specs.Prelude.{ℕ, List, [], ◌∷◌, Bool, true, false}

-- the side of the base line on which a label lies
pub data Side : Type 0 where
  above : Side
  below : Side

-- the corner of the label that lies on the mark: a leftward label ends at its mark, a rightward one begins there
pub data Direction : Type 0 where
  leftward : Direction
  rightward : Direction

pub data Position : Type 0 where
  unlabelled : Position
  at : Side → Direction → Position

-- document 01's number of a position
abbrev pub code : Position → ℕ
code unlabelled = 0
code (at above rightward) = 1
code (at above leftward) = 2
code (at below leftward) = 3
code (at below rightward) = 4

-- "a side (0 above, 1 below)"
abbrev pub side_code : Side → ℕ
side_code above = 0
side_code below = 1

abbrev pub same_side : Side → Side → Bool
same_side above above = true
same_side above below = false
same_side below above = false
same_side below below = true

abbrev pub labelled : Position → Bool
labelled unlabelled = false
labelled (at s d) = true

-- "positions ranked 2, 3, 1, 4"
abbrev pub ranked : List Position
ranked = at above leftward ∷ at below leftward ∷ at above rightward ∷ at below rightward ∷ []

-- "A choice gives each mark 0 or one of the positions 1 to 4."
abbrev pub every_position : List Position
every_position = unlabelled ∷ ranked

-- "its mirror image has above and below exchanged"
abbrev pub opposite : Side → Side
opposite above = below
opposite below = above

abbrev pub mirror : Position → Position
mirror unlabelled = unlabelled
mirror (at s d) = at (opposite s) d

-- of the reaches a (above) and b (below), the one of a side
abbrev pub own_reach {ℓ} : {A : Type ℓ} → Side → A → A → A
own_reach above a b = a
own_reach below a b = b

-- the two reaches after a label on a side that reaches to r
abbrev pub above_after {ℓ} : {A : Type ℓ} → Side → A → A → A
above_after above r a = r
above_after below r a = a

abbrev pub below_after {ℓ} : {A : Type ℓ} → Side → A → A → A
below_after above r b = b
below_after below r b = r
