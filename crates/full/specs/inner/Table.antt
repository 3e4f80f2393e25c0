-- The table in the work area, four numbers a mark, and what the functions that fill it and walk over it ask and give.
use Rattle.std.specs.Prelude.{ℕ, ◌+◌, ◌*◌, ◌≤◌, ◌<◌, ◌≡◌, true, List, map, ℤ, pos, length, get_or, take, drop}
use Rattle.geometry.specs.Dot.{dot, empty_reach}
use Rattle.std.specs.List.{list_all}
use Rattle.geometry.specs.Mark.{place_in_range_lem, length_in_range_lem}
use Rattle.geometry.specs.Strip.{Strip, strip, marks_of, most_marks}
use Rattle.geometry.specs.Position.{code}
use Rattle.geometry.specs.Pass.{written}
use Rattle.full.specs.Full.{work_named}
use Rattle.full.specs.inner.Rest.{walk}
use Rattle.full.specs.inner.Row.{row_in, count_of}
use Rattle.full.specs.inner.SixteenBits.{Stored, Narrow}

-- said of every strip with these places and lengths, whatever its weights are
abbrev pub AnyWeights : List ℤ → List ℕ → (Strip → Type 0) → Type 0
AnyWeights places lengths Property = (weights : List ℕ) → length places ≡ length weights → Property (strip places lengths weights)

-- the numbers of the mark with index j in the work area
abbrev pub row_at : List ℤ → ℕ → List ℤ
row_at work j = take 4 (drop (4 * j) work)

-- the rows of the marks from index i on are right
abbrev pub RowsFrom : ℕ → ℕ → List ℤ → Strip → Type 0
RowsFrom g i work s = (j : ℕ) → i ≤ j → j < length s.places → map dot (row_at work j) ≡ row_in g s j

-- each number in the rows of so many marks is one of the table's
abbrev pub TableHeld : List ℤ → ℕ → Type 0
TableHeld work marks = (j q : ℕ) → j < marks → q < 4 → Stored (dot (get_or work (4 * j + q) (pos 0)))

-- what the checks on entry leave for the inner functions
pub record Checked (places : List ℤ) (lengths : List ℕ) (g : ℕ) : Type 0 where
  pub same-lengths : length places ≡ length lengths
  pub few : length places ≤ most_marks
  pub places-good : list_all place_in_range_lem places ≡ true
  pub lengths-good : list_all length_in_range_lem lengths ≡ true
  pub gap-narrow : Narrow g

-- what filling the table gives: the first mark's count, the rows of all marks unless that is 0, and nothing touched beyond the named part
pub record Filled (places : List ℤ) (lengths : List ℕ) (g : ℕ) (entry exit : List ℤ) (count : ℕ) : Type 0 where
  pub first_count : 0 < length places → AnyWeights places lengths (λ s. count ≡ count_of (row_in g s 0))
  pub empty-count : length places ≡ 0 → count ≡ 4
  pub rows : (count ≡ 0 → ⊥) → AnyWeights places lengths (RowsFrom g 0 exit)
  pub held : (count ≡ 0 → ⊥) → TableHeld exit (length places)
  pub rest-kept : drop work_named exit ≡ drop work_named entry

-- what the walk asks
pub record WalkReady (places : List ℤ) (lengths : List ℕ) (g : ℕ) (work : List ℤ) (positions : List ℕ) : Type 0 where
  pub rows : AnyWeights places lengths (RowsFrom g 0 work)
  pub held : TableHeld work (length places)
  pub roomy : work_named ≤ length work
  pub places-for-all : length places ≤ length positions

-- and what it leaves: the numbers of the walk's positions
abbrev pub Walked : List ℤ → List ℕ → ℕ → List ℕ → List ℕ → Type 0
Walked places lengths g entry exit = AnyWeights places lengths (λ s. exit ≡ written (map code (walk g empty_reach empty_reach (marks_of s))) entry)
