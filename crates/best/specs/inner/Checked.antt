-- What the checks on entry leave of a strip, and what the pass makes of it.
use Rattle.std.specs.Prelude.{◌≡◌, List, map, true, ℕ, ◌≤◌, length}
use Rattle.std.specs.List.{list_all}
use Rattle.geometry.specs.Mark.{place_in_range_lem, weight_in_range_lem}
use Rattle.geometry.specs.Strip.{Strip, most_short}
use Rattle.geometry.specs.Position.{code}
use Rattle.geometry.specs.Pass.{most_gap, cleared}
use Rattle.best.specs.Best.{work_named}
use Rattle.best.specs.inner.Worth.{whole_worth, whole_choice}

-- of its lists
pub record StripChecked (s : Strip) : Type 0 where
  pub same-lengths : length s.places ≡ length s.lengths
  pub same-weights : length s.places ≡ length s.weights
  pub few : length s.places ≤ most_short
  pub places-good : list_all place_in_range_lem s.places ≡ true
  pub weights-good : list_all weight_in_range_lem s.weights ≡ true

-- and of a gap of g dots
pub record Checked (g : ℕ) (s : Strip) : Type 0 where
  pub strip-checked : StripChecked s
  pub gap-narrow : g ≤ most_gap

-- the positions are those of the strip's choice at a gap of g dots, its sum is given, and the work area cleared
pub record Labelled (g : ℕ) (s : Strip) (positions old_work work : List ℕ) (sum : ℕ) : Type 0 where
  pub positions-are : positions ≡ map code (whole_choice g s)
  pub sum_is : sum ≡ whole_worth g s
  pub work-cleared : work ≡ cleared work_named 0 old_work
