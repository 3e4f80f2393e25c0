-- Of each test that the closure makes: the whole list passes if the elements so far do together and what is left does.
use mathlib.Core.Path.{◌≡◌}
use mathlib.Core.Bool.{Bool, ◌&&◌}
use lib.ListN.{drop}
use Rattle.std.specs.List.{list_all}
use Rattle.geometry.proofs.entry.every_passes.Given as goal

abbrev pub invariant-loop-x : goal.invariant-loop-x
invariant-loop-x g l =
    (passes : _) → ((x : _) (r : Bool) → goal.F-post g l.test x r → r ≡ passes x)
    → list_all passes l.list ≡ (l.good && list_all passes (drop l.x-index l.list))
