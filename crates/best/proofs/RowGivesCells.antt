-- A cell of a row gets the greatest offer for mark k, from what the row shares and three cells.
-- Of the five offers, no label takes the cell as it is; a label above takes the cell of its own name in the same column, and has room
-- by the row's reach; a label below takes the cell of its own name in the same row, and has room by the column's reach. The greatest
-- of the five does not depend on their order, so the labels may be taken side by side. The two cells of a label below stand behind
-- every cell that is renewed, so what the row shares holds until the row is done.
use mathlib.Core.Path.{◌≡◌, sym, ◌∙◌, ap}
use mathlib.Core.List.{List}
use Prim.Native.Nat.{ℕ, suc, ◌+◌, ◌/◌, ◌≤◌, ◌<◌, max}
use native.Mathlib.Omega.{arith}
use lib.ListN.{get_or, set}
use lib.Seq.{get_or-set_other, drop-set-lt}
use Rattle.geometry.specs.Lists.{greatest_of}
use Rattle.geometry.specs.Strip.{Strip}
use Rattle.geometry.specs.Position.{above, Direction, leftward, rightward, at}
use Rattle.best.specs.Best.{work_named}
use Rattle.best.specs.declared.row.Row.{Row}
use Rattle.best.specs.inner.Names.{names_before, name_of}
use Rattle.best.specs.inner.Checked.{StripChecked}
use Rattle.best.specs.inner.Table.{cell_of, Renewing, Renewed}
use Rattle.best.specs.inner.Trial.{BeforeMark, TrialAsked}
use Rattle.best.specs.inner.Row.{RowOf, cell_by, CellAsked}
use Rattle.best.proofs.CellsHoldWorth.{most_at, renewed-worth}
use Rattle.best.proofs.TableRenewed.{set-cell}
use Rattle.best.proofs.CellsAreSmall.{trial-partly}

-- two labels above and two below, by sides or in the order in which positions are tried
by-sides : (stay a b c d : ℕ) → max (max stay (max a c)) (max b d) ≡ max (0 + stay) (max a (max b (max c (max d 0))))
by-sides stay a b c d = omega arith

module _ (g : ℕ) (s : Strip) (checked : StripChecked s) (reaches work : List ℕ) (k : ℕ) where
  -- while the table is renewed, mark k may be tried beside last labels of marks before it
  pub may-try : (bound x y : ℕ) → Renewing g s reaches work k bound → x / 2 ≤ k → y / 2 ≤ k → TrialAsked s work k x y
  may-try bound x y r above_before below-before =
      let before : BeforeMark s k x y = record { in-strip = r.in-strip; above_before = above_before; below-before = below-before } in
      trial-partly g s k x y checked before work r.roomy bound r.partly

  module _ (x y : ℕ) (row : Row) (shared : RowOf s reaches work k x row) (renewing : Renewing g s reaches work k (cell_of x y))
      (above_before : x < names_before k) (below-before : y < names_before k) where
    -- the value of the cell is the greatest offer
    row-most : cell_by row reaches work k x y ≡ most_at g s work k x y
    unfolding greatest_of
    row-most =
        rw (
          shared.reach-is,
          renewing.reaches_known.reach x (omega arith),
          renewing.reaches_known.reach y (omega arith),
          shared.left_is,
          shared.place_is,
          shared.weight_is,
          shared.leftward-is,
          shared.rightward-is,
        )
        (by-sides _ _ _ _ _)

    -- the mark may be tried at the cell
    trial : TrialAsked s work k x y
    trial = may-try (cell_of x y) x y renewing (omega arith) (omega arith)

    -- what renewing the cell asks
    pub cell-asked : CellAsked work k x y
    cell-asked = record {
      few = omega arith;
      above_before = above_before;
      below-before = below-before;
      roomy = renewing.roomy;
      small-left = trial.small (at above leftward);
      small-right = trial.small (at above rightward);
    }

    -- and what it gives
    module _ (new : List ℕ) (e : new ≡ set work (cell_of x y) (cell_by row reaches work k x y)) where
      cell-renewed : Renewed g s k (suc (cell_of x y)) work new
      cell-renewed =
          let value = row-most ∙ renewed-worth g s k x y checked trial.before work renewing.partly in
          rw e (record {
            partly = set-cell g s k work x y _ (omega arith) (omega arith) value renewing.partly;
            rest-kept = drop-set-lt work_named work (cell_of x y) _ (omega arith);
          })

      -- the cell of a label below stays as it is
      kept : (d : Direction) → get_or work (cell_of x (name_of k d)) 0 ≡ get_or new (cell_of x (name_of k d)) 0
      kept leftward = rw e (sym (get_or-set_other work (cell_of x y) (cell_of x (name_of k leftward)) _ 0 (omega arith)))
      kept rightward = rw e (sym (get_or-set_other work (cell_of x y) (cell_of x (name_of k rightward)) _ 0 (omega arith)))

      still-shared : RowOf s reaches new k x row
      still-shared = record {
        reach-is = shared.reach-is;
        left_is = shared.left_is;
        place_is = shared.place_is;
        weight_is = shared.weight_is;
        leftward-is = shared.leftward-is ∙ ap (λ n. get_or s.weights k 0 + n) (kept leftward);
        rightward-is = shared.rightward-is ∙ ap (λ n. get_or s.weights k 0 + n) (kept rightward);
      }

      pub one-cell-more : Renewed g s k (suc (cell_of x y)) work new × RowOf s reaches new k x row
      one-cell-more = (cell-renewed, still-shared)
