-- The mark at an index of a strip.
use Rattle.std.specs.Prelude.{ℕ, pos, get_or}
use Rattle.geometry.specs.Dot.{dot}
use Rattle.geometry.specs.Mark.{Mark}
use Rattle.geometry.specs.Strip.{Strip}

abbrev pub mark_at : Strip → ℕ → Mark
mark_at s i = record { place = dot (get_or s.places i (pos 0)); label_length = get_or s.lengths i 0; weight = get_or s.weights i 0 }
