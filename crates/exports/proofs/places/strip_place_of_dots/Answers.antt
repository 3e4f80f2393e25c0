-- `exports::places::strip_place_of_dots` meets its contract: what is handed over is what `place` answers.
use Rattle.logger.specs.declared.Logged.TheVariants.{Dots}
use Rattle.exports.proofs.PlaceHanded.{place-handed}
use Rattle.exports.proofs.places.strip_place_of_dots.Goals as goal

pub returns : goal.returns
returns c = place-handed (Dots c.args.value) c.place.result c.place.ensures c.hand_over.ensures.numbered c.hand_over.ensures.set
