-- `demands::compare::best_against_full` meets its contract: each return is what the contracts of the two passes say together.
use mathlib.Core.Path.{refl, ap}
use Rattle.geometry.specs.Refusal.{refusal_number}
use Rattle.demands.proofs.Comparison.{full-fits, full-finds-none}
use Rattle.demands.proofs.compare.best_against_full.Goals as goal

pub returns-in-Ok-placed : goal.returns-in-Ok-placed
returns-in-Ok-placed c = full-fits (record { full-ran = c.in-Ok-placed.ensures; best-ran = c.in-Ok.ensures }) refl refl

pub returns-in-NoPlacing : goal.returns-in-NoPlacing
returns-in-NoPlacing c =
    full-finds-none (record { full-ran = c.in-Err.ensures; best-ran = c.in-Ok.ensures }) refl (ap refusal_number c.in-NoPlacing.is)
