-- Marks whose places rise strictly and whose labels end inside the coordinates: what the checks on entry leave of a strip.
use Rattle.std.specs.Prelude.{◌<◌, List, [], ◌∷◌}
use Rattle.geometry.specs.Mark.{Mark}

abbrev pub Rising : List Mark → Type 0
Rising [] = Unit {0}
Rising (m ∷ []) = m.label_length < m.place
Rising (m ∷ n ∷ ms) = (m.label_length < m.place) × (m.place < n.place) × Rising (n ∷ ms)
