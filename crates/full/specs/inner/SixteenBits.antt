-- "Right ends stay between −30,000 and 30,240 and left edges between −30,240 and 30,000. However it is done now, the full pass is to compute
-- and hold them, and a right end plus the gap, in signed 16-bit numbers, and that none leaves those bits is to be proved." (document 02, P3)
-- The definitions of the pass say a number by its dot, which is 32,768 more, and so do these. Nothing is lost by that: a difference below
-- −32,768 would have the dot 0, which no left edge has.
use Rattle.std.specs.Prelude.{ℕ, ◌+◌, ◌≤◌, ◌<◌, ◌≡◌, ℤ, pos, negsuc, length}
use Rattle.geometry.specs.Dot.{dot, empty_reach}
use Rattle.geometry.specs.Mark.{Mark, least_place, most_place}
use Rattle.geometry.specs.Strip.{Strip, marks_of, most_marks}
use Rattle.geometry.specs.Position.{Direction}
use Rattle.geometry.specs.Overlap.{left_end, right_end}
use Rattle.geometry.specs.Refusal.{accepted}
use Rattle.geometry.specs.Entry.{entry}
use Rattle.geometry.specs.Pass.{most_gap}
use Rattle.geometry.specs.inner.Each.{Each}
use Rattle.geometry.specs.inner.Outside.{no_reach, no_bound}
use Rattle.full.specs.inner.Row.{row_in}
use Rattle.full.specs.inner.Rest.{steps}

-- −30,240, 30,240 and 30,248; two more bounds, −30,000 and 30,000, are those of a place
abbrev pub least_left_edge : ℤ
least_left_edge = negsuc 30239

abbrev pub most_right_end : ℤ
most_right_end = pos 30240

abbrev pub most_reach : ℤ
most_reach = pos 30248

-- −32,768 and 32,767, the least and the greatest number of signed 16 bits
abbrev pub least_signed : ℤ
least_signed = negsuc 32767

abbrev pub most_signed : ℤ
most_signed = pos 32767

-- the dot of a number from low to high
pub record Between (low high : ℤ) (d : ℕ) : Type 0 where
  pub not-less : dot low ≤ d
  pub not_more : d ≤ dot high

-- −30,240 to 30,000
abbrev pub LeftEdge : ℕ → Type 0
LeftEdge d = Between least_left_edge most_place d

-- −30,000 to 30,240
abbrev pub RightEnd : ℕ → Type 0
RightEnd d = Between least_place most_right_end d

-- a right end plus the gap: −30,000 to 30,248
abbrev pub Reach : ℕ → Type 0
Reach d = Between least_place most_reach d

-- a number of the table: a left edge, −32,768 for no reach or 32,767 for no bound
pub data Stored (d : ℕ) : Type 0 where
  is_edge : LeftEdge d → Stored d
  is_none : d ≡ no_reach → Stored d
  is_unbounded : d ≡ no_bound → Stored d

-- a reach that the walk carries: a right end plus the gap, or −32,767 for a side without labels
pub data Carried (d : ℕ) : Type 0 where
  is_reach : Reach d → Carried d
  is_empty : d ≡ empty_reach → Carried d

-- any number that the pass computes or holds
pub data Number (d : ℕ) : Type 0 where
  is_left_edge : LeftEdge d → Number d
  is_right_end : RightEnd d → Number d
  is_stored : Stored d → Number d
  is_carried : Carried d → Number d

-- a mark's label, to the left of it and to the right: its ends, and its right end plus the gap
pub record EndsHeld (g : ℕ) (m : Mark) : Type 0 where
  pub left-edge : (d : Direction) → LeftEdge (left_end m d)
  pub right-end : (d : Direction) → RightEnd (right_end m d)
  pub reach : (d : Direction) → Reach (right_end m d + g)

-- the numbers of a strip at a gap: those of its labels, each number of the table, and the two reaches behind each step of the walk
pub record NumbersOf (g : ℕ) (s : Strip) : Type 0 where
  pub ends : Each (EndsHeld g) (marks_of s)
  pub table : (j : ℕ) → j < length s.places → Each Stored (row_in g s j)
  pub walk : Each (λ t. Carried t.reach_above × Carried t.reach_below) (steps g empty_reach empty_reach (marks_of s))

-- "The passes take a gap, 0 to 8 dots." (document 02, P2)
abbrev pub Narrow : ℕ → Type 0
Narrow g = g ≤ most_gap

-- The statement: of every strip that the pass accepts, at every gap, these are the numbers, and none of them leaves signed 16 bits.
pub record SixteenBits : Type 0 where
  pub in-range : (s : Strip) (g : ℕ) → entry most_marks s ≡ accepted → Narrow g → NumbersOf g s
  pub none-leaves : (d : ℕ) → Number d → Between least_signed most_signed d
