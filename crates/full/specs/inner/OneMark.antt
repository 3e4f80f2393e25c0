-- What the functions that work on one mark ask and give, over the signed numbers that they hold. Each says which numbers these are.
use Rattle.std.specs.Prelude.{ℕ, ◌+◌, ◌-◌, ◌≤◌, ◌≡◌, List, [], ◌∷◌, map, ℤ, pos, get_or}
use Rattle.geometry.specs.Dot.{dot}
use Rattle.geometry.specs.Mark.{least_place, most_place, most_length}
use Rattle.geometry.specs.Position.{Position}
use Rattle.geometry.specs.inner.Machine.{next_above, next_below}
use Rattle.geometry.specs.inner.Each.{Each}
use Rattle.full.specs.inner.Row.{candidates, alike}
use Rattle.full.specs.inner.SixteenBits.{Between, Reach, Stored, Carried, Narrow}

-- a place in its range, and a length and a gap that are not above theirs: all that ends and reaches are formed from
pub record Formed (place : ℤ) (label_length g : ℕ) : Type 0 where
  pub place-held : Between least_place most_place (dot place)
  pub length-short : label_length ≤ most_length
  pub gap-narrow : Narrow g

-- how far a side reaches with the mark's label to the left and with the one to the right
pub record Reached (place : ℤ) (label_length g : ℕ) (near far : ℤ) : Type 0 where
  pub near-is : dot near ≡ dot place + g
  pub far-is : dot far ≡ dot place + label_length + g
  pub near-held : Reach (dot near)
  pub far-held : Reach (dot far)

-- the four elements of an array of four
abbrev pub four : List ℤ → List ℤ
four xs = get_or xs 0 (pos 0) ∷ get_or xs 1 (pos 0) ∷ get_or xs 2 (pos 0) ∷ get_or xs 3 (pos 0) ∷ []

-- a row of the table, from four signed numbers
abbrev pub row_dots : List ℤ → List ℕ
row_dots reaches = map dot (four reaches)

abbrev pub RowHeld : List ℤ → Type 0
RowHeld reaches = Each Stored (row_dots reaches)

-- what the next mark, at y with length k and with this row, leaves beside a side that reaches to t
abbrev pub beside : ℕ → ℕ → ℕ → List ℤ → ℕ
beside t y k next = candidates t (y - k) y (dot (get_or next 0 (pos 0))) (dot (get_or next 2 (pos 0)))

-- the row of a mark at x with length l from the row of the next mark, at y with length k, at a gap of g dots
abbrev pub row_before : ℕ → ℕ → ℕ → ℕ → ℕ → List ℤ → List ℕ
row_before g x l y k next = alike (beside (x + g) y k next) (beside (x + l + g) y k next)

-- what a step of the walk asks: the two reaches that it carries, and three numbers of the mark's row
pub record StepReady (above below first second third : ℤ) : Type 0 where
  pub above-held : Carried (dot above)
  pub below-held : Carried (dot below)
  pub row-held : Each Stored (dot first ∷ dot second ∷ dot third ∷ [])

-- and what it gives: the position and the two reaches after it
pub record Stepped (g : ℕ) (above below place : ℤ) (label_length : ℕ) (p position : Position) (above' below' : ℤ) : Type 0 where
  pub position-is : position ≡ p
  pub above-is : (weight : ℕ) → dot above' ≡ next_above g (dot above) (record { place = dot place; label_length = label_length; weight = weight }) p
  pub below-is : (weight : ℕ) → dot below' ≡ next_below g (dot below) (record { place = dot place; label_length = label_length; weight = weight }) p
  pub above-held : Carried (dot above')
  pub below-held : Carried (dot below')
