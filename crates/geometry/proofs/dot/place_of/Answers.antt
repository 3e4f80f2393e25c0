-- `geometry::dot::place_of` meets its contract: in 32 bits the difference is the signed one, and it fits 16 bits.
use mathlib.Core.Path.{◌≡◌}
use Prim.Native.Nat.{◌<◌}
use native.Mathlib.Omega.{arith}
use mir.Syntax.{w32}
use mir.Val.{to_z}
use mir.ValLaws.{to_z_pos}
use lib.IntN.{pos, ◌-ℤ◌}
use lib.Signed.{mag}
use Rattle.geometry.proofs.Dots.{fetched}
use Rattle.geometry.specs.inner.Place.{place_of_lem}
use Rattle.geometry.proofs.Places.{wide_back, difference-is-place, place-mag}
use Rattle.geometry.proofs.dot.place_of.Goals as goal

pub returns : goal.returns
returns c =
    let dot = c.args.dot in
    let small : mag (place_of_lem dot) < 32768 = place-mag dot (omega arith) in
    let difference : to_z w32 dot -ℤ pos 32768 ≡ place_of_lem dot = rw (to_z_pos w32 dot (omega arith)) (difference-is-place dot) in
    rw (difference, wide_back (place_of_lem dot) (omega (arith, small))) (fetched (place_of_lem dot) small)
