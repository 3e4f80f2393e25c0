-- One strip computed from the definitions: marks at 0, 1, 2, 3 and 161 with 80 cells each. At 4 dots a label would have 320, at 3 dots it
-- has 240 and the labels do not fit, at 2 dots it has 160: the second mark's label, to the right, ends at 161, where the last one's
-- begins (positions 2 1 3 4 1, as in document 01's strip 8). At a gap of 1 dot these two may not touch, and 1 dot is left.
use mathlib.Core.Path.{◌≡◌, refl}
use mathlib.Core.List.{[], ◌∷◌, map}
use mathlib.Core.Option.{some}
use lib.IntN.{pos}
use lib.ListN.{replicate}
use Rattle.geometry.specs.Lists.{first_of, prefixed, words_of}
use Rattle.geometry.specs.Strip.{Strip, strip, marks_of_lists}
use Rattle.geometry.specs.Position.{above, below, leftward, rightward, at}
use Rattle.geometry.specs.Overlap.{apart, free}
use Rattle.geometry.specs.Placing.{first_placing}
use Rattle.largest.specs.Widths.{placing_at, widths_from, largest_width}

abbrev touching : Strip
touching = strip (map pos (0 ∷ 1 ∷ 2 ∷ 3 ∷ 161 ∷ [])) (replicate 5 80) (replicate 5 1)

pub width-example : largest_width 0 touching ≡ some 2
unfolding first_of widths_from placing_at first_placing words_of prefixed free apart marks_of_lists
width-example = refl

pub placing-example : placing_at 0 touching 2
    ≡ some (at above leftward ∷ at above rightward ∷ at below leftward ∷ at below rightward ∷ at above rightward ∷ [])
unfolding first_of placing_at first_placing words_of prefixed free apart marks_of_lists
placing-example = refl

pub gap-example : largest_width 1 touching ≡ some 1
unfolding first_of widths_from placing_at first_placing words_of prefixed free apart marks_of_lists
gap-example = refl
