-- `full::full` meets its contract: a refusal on entry changes nothing; else the first mark's count says whether the strip fits.
use mathlib.Core.Path.{refl, sym}
use Prim.Native.Nat.{◌≤◌}
use native.Mathlib.Omega.{arith}
use lib.IntN.{pos}
use lib.ListN.{length}
use Rattle.geometry.specs.Strip.{lists_of}
use Rattle.geometry.proofs.Lent.{cleared-named}
use Rattle.full.specs.Full.{full_lent, work_named}
use Rattle.full.proofs.Contract.{checked, roomy, ready-to-walk, no-placing-call, placing-call}
use Rattle.full.proofs.full.Goals as goal

pub invariant_of-marks : goal.invariant_of-marks
invariant_of-marks c =
    let lent = full_lent c.args.positions.now c.args.work.now in
    record { checked = checked (lists_of c.args.strip) c.args.gap lent (sym c.in_ok-check.ensures) }

pub fill-kept-requires : goal.fill-kept-requires
fill-kept-requires c =
    roomy (lists_of c.args.strip) c.args.gap (full_lent c.args.positions.now c.args.work.now) (sym c.in_ok-check.ensures)

pub returns-then-kept-eq0 : goal.returns-then-kept-eq0
returns-then-kept-eq0 c =
    let lent = full_lent c.args.positions.now c.args.work.now in
    let room = roomy (lists_of c.args.strip) c.args.gap lent (sym c.in_ok-check.ensures) in
    let long : work_named ≤ length c.fill-kept.new.work = omega (arith, room, c.fill-kept.auto.work) in
    let cleared = cleared-named work_named (pos 0) _ _ c.clear.ensures long in
    no-placing-call (lists_of c.args.strip) c.args.gap lent (sym c.in_ok-check.ensures)
    c.fill-kept.new.work _ c.fill-kept.ensures _ _ (omega arith) refl refl cleared

pub walk-requires : goal.walk-requires
walk-requires c =
    ready-to-walk (lists_of c.args.strip) c.args.gap (full_lent c.args.positions.now c.args.work.now) (sym c.in_ok-check.ensures)
    c.fill-kept.new.work _ c.fill-kept.ensures c.fill-kept.auto.work (omega arith)

pub returns : goal.returns
returns c =
    let lent = full_lent c.args.positions.now c.args.work.now in
    let room = roomy (lists_of c.args.strip) c.args.gap lent (sym c.in_ok-check.ensures) in
    let long : work_named ≤ length c.fill-kept.new.work = omega (arith, room, c.fill-kept.auto.work) in
    let cleared = cleared-named work_named (pos 0) _ _ c.clear-2.ensures long in
    placing-call (lists_of c.args.strip) c.args.gap lent (sym c.in_ok-check.ensures)
    c.fill-kept.new.work _ c.fill-kept.ensures _ _ (omega arith) refl c.walk.ensures cleared
