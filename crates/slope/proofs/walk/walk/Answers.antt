-- `slope::walk::walk` meets its contract: each turn takes an allowed quadrant, and a walk to the end has written a placing.
use native.Mathlib.Omega.{arith}
use Rattle.slope.proofs.Rows.{pairs-same}
use Rattle.slope.proofs.Walked.{walked_none, walked-more, walked_all}
use Rattle.slope.proofs.walk.walk.Goals as goal

pub loop-k-init : goal.loop-k-init
loop-k-init c =
    let m = c.args.marks in
    walked_none m.side m.xs.now m.ys.now c.args.table.now c.args.first c.args.positions.now c.requires

pub loop-k-preserved : goal.loop-k-preserved
loop-k-preserved c =
    let m = c.args.marks in
    let walked = c.loop-k.invariant in
    let allowed = c.one_of-q.ensures walked.here walked.allowed-is walked.going.some in
    let row = c.requires.rows.each c.loop-k.k (omega arith) (omega arith) in
    let far = pairs-same c.spreads-far.ensures.each c.apart.ensures in
    rw c.from.ensures
    (walked-more m.side m.xs.now m.ys.now m.checked c.args.positions.now c.loop-k.k c.loop-k.positions c.loop-k.allowed c.loop-k.free_next walked
    (omega arith) c.requires.long c.one_of-q.result allowed c.behind.result c.behind-free_next.result
    (c.behind.ensures _ row) (c.behind-free_next.ensures _ far))

pub returns : goal.returns
returns c =
    let m = c.args.marks in
    walked_all m.side m.xs.now m.ys.now m.checked c.args.positions.now c.loop-k.k c.loop-k.positions c.loop-k.allowed c.loop-k.free_next
    c.loop-k.invariant (omega arith)
