-- `demands::trips::marks_there_and_back` meets its contract: what the writer wrote is what the reader reads back.
use mathlib.Core.Path.{refl}
use Rattle.job.specs.Calls.{read_answer}
use Rattle.demands.proofs.ThereAndBack.{writer-accepts}
use Rattle.demands.proofs.trips.marks_there_and_back.Goals as goal

pub returns : goal.returns
returns c = writer-accepts _ c.in-Ok.ensures (read_answer c.read-read.result) refl c.read-read.ensures
