-- `best::label_marks` meets its contract: the filled table, the walk by it, and its first cell.
use Prim.Native.Nat.{◌≤◌}
use native.Mathlib.Omega.{arith}
use lib.ListN.{length}
use Rattle.geometry.proofs.Lent.{cleared-again, cleared-named}
use Rattle.best.specs.Best.{work_named}
use Rattle.best.specs.inner.Handed.{strip_of}
use Rattle.best.proofs.WalkIsBest.{first_cell}
use Rattle.best.proofs.label_marks.Goals as goal

pub returns : goal.returns
returns c =
    let long : work_named ≤ length c.fill.new.work = omega (arith, c.requires.roomy, c.fill.auto.work) in
    let cleared = cleared-named work_named 0 c.clear.new.work c.fill.new.work c.clear.ensures long in
    record {
      positions-are = c.place_labels.ensures;
      sum_is = first_cell _ (strip_of c.args.marks) _ c.fill.ensures.filled;
      work-cleared = cleared-again work_named 0 c.clear.new.work c.fill.new.work c.args.work.now cleared c.fill.ensures.rest_kept;
    }
