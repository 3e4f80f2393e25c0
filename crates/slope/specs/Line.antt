-- "all on one straight line"; "18, marks not on one line" (document 02, P13)
use Rattle.std.specs.Prelude.{List, [], ◌∷◌, Bool, true, ◌&&◌, ◌-ℤ◌, ◌*ℤ◌}
use Rattle.std.specs.Ordering.{int_eq}
use Rattle.std.specs.List.{list_all}
use Rattle.slope.specs.Track.{Point}

-- three marks are on one line: the steps from the first to the other two have one slope, compared by products
abbrev pub on_line_lem : Point → Point → Point → Bool
on_line_lem a b c = int_eq ((c.x -ℤ a.x) *ℤ (b.y -ℤ a.y)) ((c.y -ℤ a.y) *ℤ (b.x -ℤ a.x))

-- any two of the marks are on one line with a
unfoldable pub on_lines : Point → List Point → Bool
on_lines a [] = true
on_lines a (b ∷ ps) = list_all (on_line_lem a b) ps && on_lines a ps

-- any three of them are
unfoldable pub on_one_line_lem : List Point → Bool
on_one_line_lem [] = true
on_one_line_lem (a ∷ ps) = on_lines a ps && on_one_line_lem ps
