-- What the program's marks stand for: the strip of their lists.
use Rattle.geometry.specs.Strip.{Strip, strip}
use Rattle.best.specs.declared.marks.Marks as handed

abbrev pub strip_of : handed.Marks → Strip
strip_of m = strip m.places.now m.lengths.now m.weights.now
