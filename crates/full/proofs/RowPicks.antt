-- A row decides what the definition picks: a label leaves the rest possible exactly if it fits beside its side's reach and the other
-- side's reach is within the row's number for its position.
use mathlib.Core.Path.{◌≡◌, refl, ◌∙◌, ap}
use mathlib.Core.Bool.{Bool, ◌&&◌}
use mathlib.Core.List.{List, ◌∷◌}
use Prim.Native.Nat.{ℕ, ◌+◌}
use lib.Dec.{leb}
use Rattle.geometry.specs.Mark.{Mark}
use Rattle.geometry.specs.Position.{Side, above, below, Direction, leftward, rightward, at, opposite, own_reach}
use Rattle.geometry.specs.Overlap.{left_end, right_end}
use Rattle.geometry.specs.inner.Each.{Each}
use Rattle.full.specs.inner.Rest.{leaves, pick, pick_by_row}
use Rattle.full.specs.inner.Row.{greatest}
use Rattle.full.specs.inner.SixteenBits.{Carried, is_reach, EndsHeld}
use Rattle.full.proofs.Within.{can-mirror, can-within}

module _ (g a b : ℕ) (m : Mark) (rest : List Mark) (ca : Carried a) (cb : Carried b) (held : Each (EndsHeld g) (m ∷ rest)) where
  -- what a label in a direction leaves to the other side
  abbrev left_by : Direction → ℕ
  left_by d = greatest g (right_end m d + g) rest

  -- a label leaves the rest possible exactly by the two tests of the row
  pub leaves-by-row : (s : Side) (d : Direction)
      → leaves g a b m rest (at s d) ≡ (leb (own_reach s a b) (left_end m d) && leb (own_reach (opposite s) a b) (left_by d))
  leaves-by-row above d =
      ap (λ (t : Bool). leb a (left_end m d) && t) (can-within g (right_end m d + g) b rest (is_reach (held.0.reach d)) cb held.1)
  leaves-by-row below d =
      ap (λ (t : Bool). leb b (left_end m d) && t)
      (can-mirror g a (right_end m d + g) rest ∙ can-within g (right_end m d + g) a rest (is_reach (held.0.reach d)) ca held.1)

  -- so the row picks what the definition picks
  pub row-picks : pick_by_row a b (left_end m leftward) (left_end m rightward) (left_by leftward) (left_by leftward) (left_by rightward)
      ≡ pick g a b m rest
  row-picks = rw (leaves-by-row above leftward, leaves-by-row below leftward, leaves-by-row above rightward) refl
