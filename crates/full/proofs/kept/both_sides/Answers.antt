-- `full::kept::both_sides` meets its contract: a number that went through 16 bits is itself, and twice two counts are the count of four.
use native.Mathlib.Omega.{arith}
use Rattle.geometry.proofs.Dots.{back}
use Rattle.full.specs.inner.Row.{count_of}
use Rattle.full.proofs.kept.both_sides.Goals as goal

pub invariant_of-result : goal.invariant_of-result
unfolding count_of
invariant_of-result c =
    let left = back c.ranges.left in
    let right = back c.ranges.right in
    let left-counted = rw left at c.one_if_kept.ensures.0 in
    let right-counted = rw right at c.one_if_kept-2.ensures.0 in
    let left-held = c.requires.0 in
    let right-held = c.requires.1 in
    record {
      held = rw (left, right) (∣ (left-held, (left-held, (right-held, (right-held, tt)))) ∣₁);
      counted = rw (left, right, left-counted, right-counted) (omega arith);
    }
