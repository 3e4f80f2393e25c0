-- The walk from the left: above wherever the rest can still take it, else below.
use Rattle.std.specs.Prelude.{ℕ, ◌≤◌, ◌≡◌, List, [], ◌∷◌, map, Bool, true, false, cond, ltb, ℤ, length}
use Rattle.geometry.specs.Dot.{empty_reach}
use Rattle.geometry.specs.Mark.{Mark}
use Rattle.geometry.specs.Position.{Side, above, below, side_code, own_reach, above_after, below_after}
use Rattle.geometry.specs.Sliding.{leftmost_edge, leftmost_edges}
use Rattle.geometry.specs.Pass.{most_gap, written}
use Rattle.geometry.specs.inner.Place.{place_of_lem}
use Rattle.slide.specs.Slide.{SlideLent, work_named}
use Rattle.slide.specs.inner.Plain.{plain_marks}
use Rattle.slide.specs.inner.Room.{reach_at, reach_past, slideable, own_side_lem, room}
use Rattle.slide.specs.inner.Table.{cell_in, TableHolds}

-- the label of m can lie above, from the reaches a and b, with these cells of m by how far it slides
abbrev pub takes_above : ℕ → ℕ → Mark → (ℕ → ℕ) → Bool
takes_above a b m f = ltb b (own_side_lem m a f)

-- above where the test holds, else below
abbrev pub side_if : Bool → Side
side_if t = cond t above below

-- the side of m before the marks ms
abbrev pub side_before : ℕ → ℕ → ℕ → Mark → List Mark → Side
side_before g a b m ms = side_if (takes_above a b m (λ d. room g (reach_at g m d) ms))

-- the sides of all marks, from the reaches a and b
unfoldable pub sides_from : ℕ → ℕ → ℕ → List Mark → List Side
sides_from g a b [] = []
sides_from g a b (m ∷ ms) =
    let s = side_before g a b m ms in
    let r = reach_past g m (own_reach s a b) in
    s ∷ sides_from g (above_after s r a) (below_after s r b) ms

-- a label of m on side s, from the reaches a and b: its side, its edge, and the reaches after it, with the gap
pub record LabelOn (g : ℕ) (s : Side) (m : Mark) (a b : ℕ) (side : Side) (edge above_next below_next : ℕ) : Type 0 where
  pub side-is : side ≡ s
  pub edge-is : edge ≡ leftmost_edge m (own_reach s a b)
  pub above-is : above_next ≡ above_after s (reach_past g m (own_reach s a b)) a
  pub below-is : below_next ≡ below_after s (reach_past g m (own_reach s a b)) b

-- what one step of the walk asks of the mark's row: the gap is narrow, and where above is not taken below is free
pub record StepReady (row : List ℕ) (m : Mark) (g a b : ℕ) : Type 0 where
  pub gap-narrow : g ≤ most_gap
  pub one_free : takes_above a b m (cell_in row) ≡ false → b ≤ m.place

-- some sides let every label of a strip lie where it may
abbrev pub fits_plain : List ℤ → List ℕ → ℕ → Bool
fits_plain places lengths g = slideable g empty_reach empty_reach (plain_marks places lengths)

-- what the walk asks of the lent lists, with the table in the work area
pub record WalkReady (places : List ℤ) (lengths : List ℕ) (g : ℕ) (lent : SlideLent) : Type 0 where
  pub sides-long : length places ≤ length lent.sides
  pub edges-long : length places ≤ length lent.edges
  pub work-long : work_named ≤ length lent.work
  pub table : TableHolds g lent.work (plain_marks places lengths)
  pub fits : fits_plain places lengths g ≡ true

-- the sides that the walk gives a strip
abbrev pub walk_sides : List ℤ → List ℕ → ℕ → List Side
walk_sides places lengths g = sides_from g empty_reach empty_reach (plain_marks places lengths)

-- what it leaves in the answer lists
pub record Walked (places : List ℤ) (lengths : List ℕ) (g : ℕ) (entry exit : SlideLent) : Type 0 where
  pub sides : exit.sides ≡ written (map side_code (walk_sides places lengths g)) entry.sides
  pub edges : exit.edges ≡ written (map place_of_lem (leftmost_edges g (plain_marks places lengths) (walk_sides places lengths g))) entry.edges
