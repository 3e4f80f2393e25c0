-- `font::lengths` meets its contract: past the checks the list is filled, and a refusal changes nothing.
use mathlib.Core.Path.{◌≡◌}
use native.Mathlib.Omega.{arith}
use lib.ListN.{length}
use Rattle.std.proofs.Common.{rules}
use Rattle.geometry.specs.Refusal.{accepted}
use Rattle.font.specs.Calls.{lengths_verdict}
use Rattle.font.proofs.Contract.{accepted-parts}
use Rattle.font.proofs.lengths.Goals as goal

pub fill-requires : goal.fill-requires
fill-requires c =
    let a = c.args in
    let passed : lengths_verdict a.texts.now a.counts.now (length a.lengths.now) ≡ accepted = search rules in
    let (readable, good, roomy) = accepted-parts a.texts.now a.counts.now _ passed in
    (readable, good, omega (arith, roomy))
