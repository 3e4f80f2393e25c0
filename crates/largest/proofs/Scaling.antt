-- A loop that writes the lengths at a width: those written and those that are left are all of them.
use mathlib.Core.Path.{◌≡◌, sym}
use mathlib.Core.List.{List, ◌++◌}
use Prim.Native.Nat.{ℕ, ◌*◌, ◌≤◌}
use lib.ListN.{length, take, drop, length-map}
use Rattle.geometry.proofs.Lent.{used-is}
use Rattle.largest.specs.Widths.{lengths_at}
use Rattle.largest.specs.inner.Cells.{Scaled}

-- what holds before the cell count with index i
pub record Scaling (width : ℕ) (cells entry list : List ℕ) (i : ℕ) : Type 0 where
  pub passed : i ≤ length cells
  pub so_far : take i list ++ lengths_at width (drop i cells) ≡ lengths_at width cells
  pub rest-kept : drop i list ≡ drop i entry
  pub long : length list ≡ length entry
  pub roomy : length cells ≤ length entry

-- of a list with the lengths at a width, as many elements as there are cells are these
pub lengths-used : (cells : List ℕ) {width : ℕ} {entry list : List ℕ} → Scaled cells width entry list
    → take (length cells) list ≡ lengths_at width cells
lengths-used cells {width} {entry} scaled =
    used-is (lengths_at width cells) entry scaled.lengths-are (sym (length-map cells (λ c. c * width)))
