-- That a number is one of the table's has one proof at most: a left edge is neither of the two numbers outside the coordinates, and these
-- differ. So what a row carries, that some proof is there that each of its numbers is one, gives that proof.
use mathlib.Core.Path.{ap}
use Prim.Native.Nat.{ℕ}
use native.Mathlib.Bridge.{le_prop}
use native.Mathlib.Nat.{ℕ_set}
use native.Mathlib.Omega.{arith}
use mathlib.Core.List.{List}
use mathlib.Core.Logic.{∥∥₁_elim}
use lib.IntN.{ℤ}
use Rattle.full.specs.inner.SixteenBits.{LeftEdge, Stored, is_edge, is_none, is_unbounded}
use Rattle.full.specs.inner.OneMark.{RowHeld}

edge-prop : (d : ℕ) → IsProp (LeftEdge d)
edge-prop d = Prim.hlevel le_prop

stored-prop : (d : ℕ) → IsProp (Stored d)
stored-prop d (is_edge h) (is_edge k) = ap is_edge (edge-prop d h k)
stored-prop d (is_edge h) (is_none e) = absurd (omega arith)
stored-prop d (is_edge h) (is_unbounded e) = absurd (omega arith)
stored-prop d (is_none e) (is_edge k) = absurd (omega arith)
stored-prop d (is_none e) (is_none f) = ap is_none (ℕ_set _ _ e f)
stored-prop d (is_none e) (is_unbounded f) = absurd (omega arith)
stored-prop d (is_unbounded e) (is_edge k) = absurd (omega arith)
stored-prop d (is_unbounded e) (is_none f) = absurd (omega arith)
stored-prop d (is_unbounded e) (is_unbounded f) = ap is_unbounded (ℕ_set _ _ e f)

row-held-prop : (reaches : List ℤ) → IsProp (RowHeld reaches)
row-held-prop reaches = Prim.hlevel stored-prop

pub row-held : (reaches : List ℤ) → ∥ RowHeld reaches ∥₁ → RowHeld reaches
row-held reaches held = ∥∥₁_elim held (row-held-prop reaches) (λ h. h)
