-- `slope::pairs::any` meets its contract: the lowest four bits are a number other than 0 exactly if one of them is 1.
use mathlib.Core.Path.{◌≡◌, ap, ◌∙◌}
use mathlib.Core.Bool.{Bool, true, false, not}
use mathlib.Core.List.{map}
use Prim.Native.Nat.{ℕ, ◌%◌, ◌^◌}
use native.Mathlib.Omega.{arith}
use Rattle.std.proofs.Common.{nat_eq}
use Rattle.std.proofs.lemmas.Bool.{eq-eqb, ne_eqb}
use Rattle.std.proofs.lemmas.Nat.{and_mask}
use Rattle.geometry.specs.Lists.{any_of}
use Rattle.slope.specs.Square.{every_quadrant}
use Rattle.slope.specs.inner.Sets.{index, digit}
use Rattle.slope.proofs.Sets.{most, most-any}
use Rattle.slope.proofs.pairs.any.Goals as goal

some-bit : (set : ℕ) (some : Bool) → most set (map index every_quadrant) ≡ digit some → not (nat_eq (set % 2 ^ 4) 0) ≡ some
some-bit set true is = ap not (ne_eqb (set % 2 ^ 4) 0 (λ e. omega arith))
some-bit set false is = ap not (eq-eqb (set % 2 ^ 4) 0 (omega arith))

pub returns : goal.returns
returns c holds quadrants-are =
    ap (λ n. not (nat_eq n 0)) (and_mask c.args.set 4)
    ∙ some-bit c.args.set (any_of holds every_quadrant) (most-any c.args.set index holds quadrants-are.each every_quadrant)
