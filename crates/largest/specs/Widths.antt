-- "Given lengths in letter cells, 1 to 240, find the greatest cell width from 30 down to 1 dots at which the full pass fits every label with
-- lengths of cells times width. A length over 240 counts as not fitting." (document 02, P6) Here a strip has cells in place of lengths.
use Rattle.std.specs.Prelude.{ℕ, zero, suc, ◌*◌, Bool, true, false, cond, List, [], ◌∷◌, map, leb}
use Rattle.std.proofs.Math.Option.{Option, none, some}
use Rattle.geometry.specs.Lists.{first_of}
use Rattle.std.specs.List.{list_all}
use Rattle.geometry.specs.Mark.{most_length}
use Rattle.geometry.specs.Strip.{Strip, strip, marks_of}
use Rattle.geometry.specs.Position.{Position}
use Rattle.geometry.specs.Placing.{first_placing}

-- "lengths of cells times width"
abbrev pub lengths_at : ℕ → List ℕ → List ℕ
lengths_at width cells = map (λ c. c * width) cells

-- the strip as it is printed at a width
abbrev pub strip_at : ℕ → Strip → Strip
strip_at width s = strip s.places (lengths_at width s.lengths) s.weights

-- "A length over 240 counts as not fitting."
abbrev pub none_over_lem : ℕ → List ℕ → Bool
none_over_lem width cells = list_all (λ l. leb l most_length) (lengths_at width cells)

-- the full pass's placing at a width, at a gap of g dots
unfoldable pub placing_at : ℕ → Strip → ℕ → Option (List Position)
placing_at g s width = cond (none_over_lem width s.lengths) (first_placing g (marks_of (strip_at width s))) none

-- whether the strip fits at a width: there is such a placing
abbrev pub is_there : {A : Type 0} → Option A → Bool
is_there none = false
is_there (some x) = true

abbrev pub fits_at : ℕ → Strip → ℕ → Bool
fits_at g s width = is_there (placing_at g s width)

-- "from 30 down to 1 dots"
abbrev pub widest : ℕ
widest = 30

unfoldable pub widths_from : ℕ → List ℕ
widths_from zero = []
widths_from (suc width) = suc width ∷ widths_from width

-- "the greatest cell width": the first of them that fits, if one does
abbrev pub largest_width : ℕ → Strip → Option ℕ
largest_width g s = first_of (fits_at g s) (widths_from widest)

-- "and a width found comes with the full pass's positions at it"
abbrev pub placing_of : ℕ → Strip → Option ℕ → Option (List Position)
placing_of g s none = none
placing_of g s (some width) = placing_at g s width
