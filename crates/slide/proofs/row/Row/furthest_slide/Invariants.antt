-- The answer for the whole row is that for what is left of it.
use mathlib.Core.Path.{◌≡◌}
use Rattle.slide.specs.inner.Room.{furthest}
use Rattle.slide.specs.inner.Table.{cell_in}
use Rattle.slide.proofs.row.Row.furthest_slide.Given as goal

abbrev pub invariant-loop-d : goal.invariant-loop-d
invariant-loop-d l = furthest (cell_in l.self.cells.now) l.reach l.count ≡ furthest (cell_in l.self.cells.now) l.reach l.d
