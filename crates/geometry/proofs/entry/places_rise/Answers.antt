-- `geometry::entry::places_rise` meets its contract: what the neighbours so far say together and what is left says is the answer.
use mathlib.Core.Path.{◌≡◌, sym, ◌∙◌, ap₂}
use Prim.Native.Nat.{◌+◌, ◌-◌}
use native.Mathlib.Omega.{arith}
use lib.IntN.{pos}
use lib.Signed.{lt_z}
use lib.ListN.{get_or}
use Rattle.std.proofs.Common.{rules}
use Rattle.geometry.proofs.Dots.{fetched}
use Rattle.geometry.proofs.Every.{rising-next, rising-all}
use Rattle.geometry.proofs.entry.places_rise.Goals as goal

pub loop-i-preserved : goal.loop-i-preserved
loop-i-preserved c =
    let places = c.args.places.now in
    let here = c.loop-i.i in
    let first = fetched (get_or places (here - 1) (pos 0)) (search rules) in
    let second = fetched (get_or places here (pos 0)) (search rules) in
    let before : here - 1 + 1 ≡ here = omega arith in
    let behind : here + 1 - 1 ≡ here = omega arith in
    let next = rising-next places (pos 0) (here - 1) c.loop-i.good c.loop-i.invariant (omega arith) in
    rw (c.rises-good.ensures ∙ ap₂ lt_z first second, behind) (rw before at next)

pub returns : goal.returns
returns c = sym (rising-all c.args.places.now (pos 0) c.loop-i.i c.loop-i.good c.loop-i.invariant c.loop-i.auto.i c.loop-i.auto.i-end c.loop-i-test.false)
