-- A mark may be tried beside any last labels of marks before it: the cells that it leads to are in the table, and hold sums of a short
-- strip, to which a weight can be added.
use mathlib.Core.List.{List}
use Prim.Native.Nat.{ℕ, ◌/◌, ◌≤◌, ◌<◌, max}
use lib.ListN.{length}
use Rattle.geometry.specs.Strip.{Strip}
use Rattle.geometry.specs.Position.{above, below, Position}
use Rattle.best.specs.Best.{work_named}
use Rattle.best.specs.inner.Names.{names, last_after, reach_at}
use Rattle.best.specs.inner.Checked.{StripChecked}
use Rattle.best.specs.inner.Table.{cell_worth, Partly, Filled}
use Rattle.best.specs.inner.Trial.{most_sum, BeforeMark, TrialAsked}
use Rattle.best.proofs.SumsAreSmall.{worth-limit}
use Rattle.best.proofs.CellsHoldWorth.{above-after, below-after}

-- no cell holds more than a short strip earns
cell-limit : (g j x y : ℕ) (s : Strip) → StripChecked s → cell_worth g s j x y ≤ most_sum
unfolding cell_worth
cell-limit g j x y s h = worth-limit g (reach_at g s x) (reach_at g s y) (max j (max (x / 2) (y / 2))) s h

module _ (g : ℕ) (s : Strip) (k x y : ℕ) (checked : StripChecked s) (before : BeforeMark s k x y) where
  -- the names of the last labels once mark k is at p
  abbrev x' : Position → ℕ
  x' p = last_after above k p x

  abbrev y' : Position → ℕ
  y' p = last_after below k p y

  -- the cells that it leads to are in the table
  in_table : (p : Position) → (x' p < names) × (y' p < names)
  in_table p = (above-after g s k x y checked before p, below-after g s k x y checked before p)

  module _ (work : List ℕ) (roomy : work_named ≤ length work) where
    -- while the table is renewed, and once it is filled
    pub trial-partly : (bound : ℕ) → Partly g s k bound work → TrialAsked s work k x y
    trial-partly bound partly = record {
      before = before;
      roomy = roomy;
      small = λ p. rw (partly.cell (x' p) (y' p) (in_table p).0 (in_table p).1) (cell-limit g _ (x' p) (y' p) s checked);
    }

    pub trial-filled : Filled g s 0 work → TrialAsked s work k x y
    trial-filled filled = record {
      before = before;
      roomy = roomy;
      small = λ p. rw (filled.cell (x' p) (y' p) (in_table p).0 (in_table p).1) (cell-limit g 0 (x' p) (y' p) s checked);
    }
