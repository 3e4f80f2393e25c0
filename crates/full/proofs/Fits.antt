-- The first mark's count says whether the strip fits. Beside two sides without labels each label of the first mark fits, so the strip
-- fits exactly if an empty side is within one of the four reaches of the first row, and that is what the count counts.
use mathlib.Core.Path.{◌≡◌, refl, ap}
use mathlib.Core.Bool.{Bool, true, false, cond, not, ◌||◌}
use mathlib.Core.List.{List, ◌∷◌}
use Prim.Native.Nat.{ℕ, ◌+◌}
use native.Mathlib.Omega.{arith}
use lib.Dec.{leb, eqb}
use borrow.Author.Tests.{le-leb, eq-eqb, ne_eqb}
use Rattle.geometry.specs.Dot.{empty_reach}
use Rattle.geometry.specs.Mark.{Mark}
use Rattle.geometry.specs.Position.{above, below, Direction, leftward, rightward}
use Rattle.geometry.specs.Overlap.{left_end, right_end}
use Rattle.geometry.specs.inner.Each.{Each}
use Rattle.geometry.proofs.Split.{by-leb}
use Rattle.full.specs.inner.Rest.{can}
use Rattle.full.specs.inner.Row.{greatest, row_of, kept_one, count_of}
use Rattle.full.specs.inner.SixteenBits.{Carried, is_empty, EndsHeld}
use Rattle.full.proofs.RowPicks.{leaves-by-row}

-- a kept part layout is one that a side without labels meets
kept_test : (x : ℕ) → kept_one x ≡ cond (leb empty_reach x) 1 0
kept_test x =
    by-leb empty_reach x (λ t. kept_one x ≡ cond t 1 0)
    (λ h. ap (λ (t : Bool). cond t 0 1) (ne_eqb x 0 (λ e. omega arith)))
    (λ h. ap (λ (t : Bool). cond t 0 1) (eq-eqb x 0 (omega arith)))

-- a sum of tests is 0 exactly if none is passed
some-passed : (s t : Bool) → not (eqb (cond s 1 0 + (cond s 1 0 + (cond t 1 0 + (cond t 1 0 + 0)))) 0) ≡ (s || (s || (t || t)))
some-passed true true = refl
some-passed true false = refl
some-passed false true = refl
some-passed false false = refl

module _ (g : ℕ) (m : Mark) (rest : List Mark) (held : Each (EndsHeld g) (m ∷ rest)) where
  -- a side without labels
  empty : Carried empty_reach
  empty = is_empty refl

  -- leaves room for each label of the first mark
  room : (d : Direction) → leb empty_reach (left_end m d) ≡ true
  room d = let edge = held.0.left-edge d in le-leb empty_reach (left_end m d) (omega arith)

  -- a label in a direction leaves something to an empty side
  abbrev kept : Direction → Bool
  kept d = leb empty_reach (greatest g (right_end m d + g) rest)

  -- the strip fits exactly if the count is not 0
  pub fits-by-count : can g empty_reach empty_reach (m ∷ rest) ≡ not (eqb (count_of (row_of g m rest)) 0)
  unfolding can count_of
  fits-by-count =
      let leaves = leaves-by-row g empty_reach empty_reach m rest empty empty held in
      rw (
        leaves above leftward,
        leaves below leftward,
        leaves above rightward,
        leaves below rightward,
        room leftward,
        room rightward,
        kept_test (greatest g (right_end m leftward + g) rest),
        kept_test (greatest g (right_end m rightward + g) rest),
        some-passed (kept leftward) (kept rightward),
      )
      refl
