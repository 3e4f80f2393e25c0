-- The places rise if those up to place i - 1 do and those from it on do.
use mathlib.Core.Path.{◌≡◌}
use mathlib.Core.Bool.{◌&&◌}
use Prim.Native.Nat.{◌-◌}
use lib.ListN.{drop}
use Rattle.geometry.specs.Mark.{rising}
use Rattle.geometry.proofs.entry.places_rise.Given as goal

abbrev pub invariant-loop-i : goal.invariant-loop-i
invariant-loop-i l = rising l.places ≡ (l.good && rising (drop (l.i - 1) l.places))
