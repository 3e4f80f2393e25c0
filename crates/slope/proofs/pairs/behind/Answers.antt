-- `slope::pairs::behind` meets its contract: a shift by four places for each quadrant before brings the row of this one to the lowest four.
use mathlib.Core.Path.{◌≡◌, ap, ◌∙◌}
use mathlib.Core.Bool.{Bool}
use Prim.Native.Nat.{ℕ, ◌+◌, ◌*◌, ◌/◌, ◌^◌}
use native.Mathlib.Omega.{arith}
use Rattle.std.specs.Int.{bit_at}
use Rattle.slope.specs.Square.{Quadrant}
use Rattle.slope.specs.inner.Sets.{index, Pairs, Quadrants}
use Rattle.slope.proofs.Sets.{bit-of-shift, quadrants-alone}
use Rattle.slope.proofs.pairs.behind.Goals as goal

row : {set : ℕ} {holds : Quadrant → Quadrant → Bool} → Pairs set holds → (q : Quadrant) (k : ℕ) → k ≡ 4 * index q
    → Quadrants (set / 2 ^ k) (holds q)
row {set} pairs q k is = record {
  each = λ r. bit-of-shift set k (index r) ∙ ap (λ j. bit_at set (j + index r)) is ∙ pairs.each q r;
}

pub returns : goal.returns
returns c holds pairs = quadrants-alone (row pairs c.args.q _ (omega arith))
