-- `geometry::work::clear` meets its contract: after i turns the first i elements of the named part are zeros and its rest is as it was.
-- What stands before the part is nothing, in whatever form the code takes it.
use mathlib.Core.Path.{◌≡◌, ◌∙◌}
use native.Mathlib.Omega.{arith}
use Prim.Native.Nat.{◌≤◌, min}
use lib.ListN.{length, length-set}
use Rattle.std.proofs.Common.{rules}
use Rattle.geometry.proofs.Lent.{cleared_more, cleared-part, cleared-from}
use Rattle.geometry.proofs.work.clear.Goals as goal

pub loop-cell-preserved : goal.loop-cell-preserved
loop-cell-preserved g c =
    let turn = c.loop-cell in (
      length-set turn.cell-items turn.cell-index c.args.zero ∙ turn.invariant.0,
      cleared_more turn.cell-index c.args.zero turn.cell-items _ turn.invariant.1 (omega arith),
    )

pub returns : goal.returns
returns g c =
    let lent : c.min-named.result ≡ min c.args.named (length c.args.work.now) = omega arith in
    let within : c.min-named.result ≤ length c.args.work.now = omega arith in
    rw (← lent) (search (rules, cleared-part, cleared-from))
