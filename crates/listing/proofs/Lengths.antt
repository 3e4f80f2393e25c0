-- How long a piece of text is at most. A number has at most five digits, so numbers have six bytes each with their spaces, and the full line
-- of 4,000 marks has 24,010 at most.
use mathlib.Core.Path.{◌≡◌, refl, ◌∙◌}
use mathlib.Core.Bool.{Bool, true, false, cond}
use mathlib.Core.List.{List, [], ◌∷◌, ◌++◌, map}
use mathlib.Core.Option.{Option, none, some}
use Prim.Native.Nat.{ℕ, ◌+◌, ◌*◌, ◌/◌, ◌%◌, ◌≤◌}
use native.Mathlib.Omega.{arith}
use lib.ListN.{length, length-append, length-map}
use Rattle.geometry.specs.Strip.{Strip, marks_of, most_marks}
use Rattle.geometry.specs.Position.{Position, code}
use Rattle.geometry.specs.Placing.{first_placing}
use Rattle.geometry.proofs.Split.{by-leb}
use Rattle.geometry.proofs.Accepted.{Accepted, length-marks}
use Rattle.geometry.proofs.Best.{free-length}
use Rattle.geometry.proofs.Whole.{found-placing}
use Rattle.listing.specs.Text.{listing_gap, digit_at, decimal, spaced, line_end, full_tail, full_line, slide_line, best_line}

-- a digit, a number, numbers each after a space, and a line of one number
digit-most : (power n : ℕ) → length (digit_at power n) ≤ 1
digit-most power n = by-leb power n (λ t. length (cond t ((48 + n / power % 10) ∷ []) []) ≤ 1) (λ _. omega arith) (λ _. omega arith)

pub decimal-most : (n : ℕ) → length (decimal n) ≤ 5
unfolding decimal
decimal-most n =
    simp length-append (omega (arith, digit-most 10000 n, digit-most 1000 n, digit-most 100 n, digit-most 10 n))

pub spaced-most : (ns : List ℕ) → length (spaced ns) ≤ 6 * length ns
unfolding spaced
spaced-most [] = omega arith
spaced-most (n ∷ ns) = omega (arith, length-append (32 ∷ decimal n) (spaced ns), decimal-most n, spaced-most ns)

pub line-most : (word : List ℕ) (n : ℕ) → length (word ++ decimal n ++ line_end) ≤ length word + 6
line-most word n = simp length-append (omega (arith, decimal-most n))

-- the end of the full line, of at most n marks
tail-most : (o : Option (List Position)) (n : ℕ) → ((ps : List Position) → o ≡ some ps → length ps ≤ n) → length (full_tail o) ≤ 6 * n + 5
tail-most none n few = omega arith
tail-most (some ps) n few = omega (arith, spaced-most (map code ps), length-map ps code, few ps refl)

-- the full line, of at most 4,000 marks
pub full-most : (s : Strip) → Accepted most_marks s → length (full_line (marks_of s)) ≤ 24010
full-most s good =
    let placed : (ps : List Position) → first_placing listing_gap (marks_of s) ≡ some ps → length ps ≡ length s.places =
    λ ps e.
    free-length listing_gap (marks_of s) ps (found-placing listing_gap (marks_of s) ps e).is_free
    ∙ length-marks s good.same-lengths good.same-weights in
    let tail = tail-most (first_placing listing_gap (marks_of s)) most_marks (λ ps e. omega (arith, placed ps e, good.few)) in
    simp length-append (omega (arith, tail))

-- the slide and the best line
pub slide-most : (fits : Bool) → length (slide_line fits) ≤ 11
slide-most true = omega arith
slide-most false = omega arith

pub best-most : (sum all : ℕ) → length (best_line sum all) ≤ 20
best-most sum all = simp length-append (omega (arith, decimal-most sum, decimal-most all))

-- what the check alone needs to find the room for a piece behind others
pub ruleset lengths = (length-append, decimal-most, spaced-most, slide-most, best-most)
