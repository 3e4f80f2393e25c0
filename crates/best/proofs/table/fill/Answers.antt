-- `best::table::fill` meets its contract: the table counts the marks from index k on.
use mathlib.Core.Path.{◌≡◌, ◌∙◌}
use Prim.Native.Nat.{suc, ◌-◌}
use native.Mathlib.Omega.{arith}
use Rattle.geometry.proofs.Lent.{cleared-named, drop-cleared}
use Rattle.best.specs.Best.{work_named}
use Rattle.best.specs.inner.Handed.{strip_of}
use Rattle.best.proofs.TableRenewed.{none-renewed, all-renewed, cleared-table}
use Rattle.best.proofs.table.fill.Goals as goal

pub loop-k-init : goal.loop-k-init
loop-k-init c =
    let s = strip_of c.args.marks in
    let cleared = cleared-named work_named 0 c.clear.new.work c.args.work.now c.clear.ensures c.requires in
    record {
      filled = cleared-table _ s c.clear.new.work c.args.work.now c.args.marks.checked.strip-checked cleared;
      rest_kept = drop-cleared work_named 0 c.clear.new.work c.args.work.now cleared;
    }

pub renew-requires : goal.renew-requires
renew-requires c =
    let s = strip_of c.args.marks in
    let loop = c.loop-k in
    let one_more : loop.k ≡ suc (loop.k - 1) = omega arith in
    record {
      reaches_known = c.set_reaches.ensures;
      roomy = omega (arith, c.clear.auto.work);
      in-strip = omega arith;
      partly = none-renewed _ s (loop.k - 1) loop.work (rw one_more at loop.invariant.filled);
    }

pub loop-k-preserved : goal.loop-k-preserved
loop-k-preserved c =
    let s = strip_of c.args.marks in
    let done = c.renew.ensures in
    record {
      filled = all-renewed _ s (c.loop-k.k - 1) _ done.partly;
      rest_kept = done.rest-kept ∙ c.loop-k.invariant.rest_kept;
    }
