-- "A strip is its mark lists." "Every pass and the writer take three mark lists (places, lengths, weights)"; "Marks are numbered from 1."
use Rattle.std.specs.Prelude.{ℕ, List, [], ◌∷◌, ℤ, take}
use Rattle.geometry.specs.Dot.{dot}
use Rattle.geometry.specs.Mark.{Mark}
use Rattle.geometry.specs.declared.strip.Strip as handed

pub record Strip : Type 0 where
  pub places : List ℤ
  pub lengths : List ℕ
  pub weights : List ℕ

abbrev pub strip : List ℤ → List ℕ → List ℕ → Strip
strip places lengths weights = record { places = places; lengths = lengths; weights = weights }

-- the mark lists of a strip as a call is handed them
abbrev pub lists_of : handed.Strip → Strip
lists_of s = strip s.places.now s.lengths.now s.weights.now

-- the first so many marks of three lists, as where a reader has filled so many of each
abbrev pub first_marks : ℕ → Strip → Strip
first_marks n s = strip (take n s.places) (take n s.lengths) (take n s.weights)

-- the marks of three lists of one length, places as dots
unfoldable pub marks_of_lists : List ℤ → List ℕ → List ℕ → List Mark
marks_of_lists [] ls ws = []
marks_of_lists (z ∷ zs) [] ws = []
marks_of_lists (z ∷ zs) (l ∷ ls) [] = []
marks_of_lists (z ∷ zs) (l ∷ ls) (w ∷ ws) = record { place = dot z; label_length = l; weight = w } ∷ marks_of_lists zs ls ws

abbrev pub marks_of : Strip → List Mark
marks_of s = marks_of_lists s.places s.lengths s.weights

-- "The full pass takes 0 to 4,000 marks", and so do the job calls; "the other two 0 to 60": a strip of so many marks is short
abbrev pub most_marks : ℕ
most_marks = 4000

abbrev pub most_short : ℕ
most_short = 60
