-- `full::kept::greatest` meets its contract: each call says what it gives, a number that went through 16 bits is itself, and the
-- candidates are those of the first test that is passed.
use mathlib.Core.Path.{sym, ◌∙◌, subst}
use Prim.Native.Nat.{◌-◌}
use native.Mathlib.Omega.{arith}
use lib.IntN.{pos}
use lib.ListN.{get_or}
use Rattle.geometry.specs.Dot.{dot}
use Rattle.geometry.proofs.Dots.{back, fetched}
use Rattle.full.specs.inner.SixteenBits.{LeftEdge, Stored}
use Rattle.full.proofs.StoredOnce.{row-held}
use Rattle.full.proofs.EndsHeld.{edge-back}
use Rattle.full.proofs.Candidates.{candidates-by-test}
use Rattle.full.proofs.SixteenBits.{candidates-stored}
use Rattle.full.proofs.kept.greatest.Goals as goal

pub returns : goal.returns
returns c =
    let next = c.args.next in
    let row = c.args.kept.reaches in
    let left = c.left_edge-left.result in
    let left-held = rw c.left_edge-left.ensures.0 at c.left_edge-left.ensures.1 in
    let place-held : LeftEdge (dot next.place) = let formed = next.formed in omega arith in
    let held = row-held row c.args.kept.held in
    let is = rw (
      fetched c.if_passed-here.result c.if_passed-here.type_inv,
      fetched c.if_passed-there.result c.if_passed-there.type_inv,
      c.if_passed-here.ensures,
      c.if_passed-there.ensures,
      fetched c.if_passed-right_here.result c.if_passed-right_here.type_inv,
      fetched c.if_passed-left_there.result c.if_passed-left_there.type_inv,
      c.if_passed-right_here.ensures,
      c.if_passed-left_there.ensures,
      fetched c.larger-either.result c.larger-either.type_inv,
      c.larger-either.ensures,
      c.at_most.ensures,
      c.at_most-2.ensures,
      c.at_most-3.ensures,
      c.at_most-4.ensures,
      back c.ranges.reach,
      edge-back next.place place-held,
      edge-back left c.left_edge-left.ensures.1,
      fetched (get_or row 0 (pos 0)) (omega arith),
      fetched (get_or row 2 (pos 0)) (omega arith),
      c.left_edge-left.ensures.0,
    )
    at c.larger.ensures in
    let of-all = is ∙ sym (candidates-by-test (dot c.args.reach) (dot next.place - next.length) (dot next.place) _ _ (omega arith)) in
    let stored = candidates-stored (dot c.args.reach) _ _ _ _ left-held place-held held.0 held.1.1.0 in
    rw (fetched c.larger.result c.larger.type_inv) (of-all, subst Stored (sym of-all) stored)
