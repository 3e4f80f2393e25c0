-- What the program's marks stand for.
use Rattle.std.specs.Prelude.{List}
use Rattle.geometry.specs.Mark.{Mark}
use Rattle.slide.specs.declared.mark.Mark as coded
use Rattle.slide.specs.declared.marks.Marks as handed
use Rattle.slide.specs.inner.Plain.{plain_mark, plain_marks}

abbrev pub mark_of : coded.Mark → Mark
mark_of m = plain_mark m.place m.length

abbrev pub plain_of : handed.Marks → List Mark
plain_of m = plain_marks m.places.now m.lengths.now
