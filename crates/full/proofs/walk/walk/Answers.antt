-- `full::walk::walk` meets its contract: the numbers written so far and the walk from the current mark on are the whole walk.
use Prim.Native.Nat.{ℕ, ◌+◌, ◌*◌}
use native.Mathlib.Omega.{arith}
use lib.IntN.{ℤ, pos}
use lib.ListN.{get_or}
use Rattle.geometry.proofs.Dots.{fetched}
use Rattle.full.proofs.Walking.{step-ready, walking-more, walking-done}
use Rattle.full.proofs.walk.walk.Goals as goal

pub step-taken-requires : goal.step-taken-requires
step-taken-requires c =
    let cell : ℕ → ℤ = λ n. get_or c.args.work.now n (pos 0) in
    rw (
      fetched (cell (4 * c.loop-i.i)) (omega arith),
      fetched (cell (4 * c.loop-i.i + 1)) (omega arith),
      fetched (cell (4 * c.loop-i.i + 2)) (omega arith),
    )
    (step-ready _ _ _ c.args.marks.checked _ _ c.requires _ _ _ _ c.loop-i.invariant c.loop-i-test.true)

pub loop-i-preserved : goal.loop-i-preserved
loop-i-preserved c =
    let cell : ℕ → ℤ = λ n. get_or c.args.work.now n (pos 0) in
    let after = c.step-taken.result.after in
    let stepped = rw (
      c.at.ensures.place,
      c.at.ensures.label,
      c.at.ensures.gap,
      fetched (cell (4 * c.loop-i.i)) (omega arith),
      fetched (cell (4 * c.loop-i.i + 1)) (omega arith),
      fetched (cell (4 * c.loop-i.i + 2)) (omega arith),
    )
    at c.step-taken.ensures in
    rw c.from.ensures
    (walking-more _ _ _ c.args.marks.checked _ _ c.requires _ _ _ _ c.loop-i.invariant c.loop-i-test.true _ after.above after.below stepped)

pub returns : goal.returns
returns c = walking-done _ _ _ c.args.marks.checked _ _ c.requires _ _ _ _ c.loop-i.invariant (omega arith)
