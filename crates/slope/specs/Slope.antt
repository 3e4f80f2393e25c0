-- The contract of the slope pass: "The answer is a placing of all squares, or 11 exactly when none exists. [..] Mark count, lists and ranges
-- are tested as for the other passes; which placing is given is open. This pass has no gap, no bars and no work area; a side out of range or
-- a coordinate not rising is 8. Errors: 18, marks not on one line, tested after 8 and any 7." (document 02, P13)
use Rattle.std.specs.Prelude.{ℕ, ◌≡◌, Bool, true, false, ◌↔◌, List, [], ◌∷◌, ◌++◌, map, eqb, length}
use Rattle.geometry.specs.Strip.{most_marks, most_short}
use Rattle.geometry.specs.Refusal.{Check, Verdict, accepted, refused, number_of, refusal_number, at_most, first_failure}
use Rattle.geometry.specs.declared.refusal.Refusal.TheVariants.{ListsUnequal, TooManyMarks, BadMark, NotOnOneLine, ListTooShort, NoPlacing as no_placing}
use Rattle.geometry.specs.Pass.{written}
use Rattle.slope.specs.Track.{Track, Point, points_of, good_values_lem}
use Rattle.slope.specs.Square.{Quadrant, quadrant_number}
use Rattle.slope.specs.Line.{on_one_line_lem}
use Rattle.slope.specs.Placing.{free, fits, NoPlacing}

-- 6, 7 over 4,000 marks
abbrev pub list_checks : Track → List Check
list_checks t = record { passes = eqb (length t.xs) (length t.ys); otherwise = ListsUnequal } ∷ at_most (length t.xs) most_marks TooManyMarks ∷ []

-- 8, 7 over 60 marks
abbrev pub mark_checks : Track → ℕ → List Check
mark_checks t side = record { passes = good_values_lem t side; otherwise = BadMark } ∷ at_most (length t.xs) most_short TooManyMarks ∷ []

-- 18, 9: the position list has the length lent
abbrev pub last_checks : Track → ℕ → List Check
last_checks t lent =
    record { passes = on_one_line_lem (points_of t); otherwise = NotOnOneLine } ∷ at_most (length t.xs) lent ListTooShort ∷ []

-- the checks on entry in their order
unfoldable pub slope_checks : Track → ℕ → ℕ → Verdict
slope_checks t side lent = first_failure (list_checks t ++ mark_checks t side ++ last_checks t lent)

-- "11 exactly when none exists", behind the checks
abbrev pub slope_verdict : Verdict → Bool → Verdict
slope_verdict (refused r) fit = refused r
slope_verdict accepted false = refused no_placing
slope_verdict accepted true = accepted

-- a placing in the used part of the position list; which one is open
pub record Placed (side : ℕ) (ps : List Point) (entry exit : List ℕ) : Type 0 where
  pub quadrants : List Quadrant
  pub placing : free side ps quadrants ≡ true
  pub positions-written : exit ≡ written (map quadrant_number quadrants) entry

-- The contract: the track, the side, the position list at entry and at exit, and the number.
pub record SlopeContract (t : Track) (side : ℕ) (entry exit : List ℕ) (number : ℕ) : Type 0 where
  pub number_is : number ≡ number_of (slope_verdict (slope_checks t side (length entry)) (fits side (points_of t)))
  -- past the checks, 11 is given exactly if no list of quadrants is a placing
  pub none-exactly : slope_checks t side (length entry) ≡ accepted → (number ≡ refusal_number no_placing) ↔ NoPlacing side (points_of t)
  pub where-placed : number ≡ 0 → Placed side (points_of t) entry exit
  pub where-refused : (number ≡ 0 → ⊥) → exit ≡ entry
