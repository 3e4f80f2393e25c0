-- `geometry::entry::check_strip` meets its contract: no check stands between 6 and 7.
use mathlib.Core.Path.{refl}
use mathlib.Core.List.{[]}
use Rattle.geometry.specs.Refusal.{first_failure}
use Rattle.geometry.specs.Entry.{entry}
use Rattle.geometry.proofs.entry.check_strip.Goals as goal

pub returns : goal.returns
unfolding entry first_failure
returns c = c.check_marks.ensures [] refl
