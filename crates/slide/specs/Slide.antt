-- The contract of the slide pass: "a side (0 above, 1 below) and a left edge for each mark. Given the sides, every label is as far
-- left as it goes, taking marks from left to right. Which sides is open." (1d-4S, decided with a witness.) Document 02, P2: "The passes
-- take a gap, 0 to 8 dots. Two labels on one side overlap if their spans share more than an end point, or if fewer than that many dots
-- lie between their nearer ends. Gap 0 is the old meaning."
use Rattle.std.specs.Prelude.{◌≡◌, Bool, true, false, ◌↔◌, List, map, ℕ, min, ◌≤◌, ℤ, length}
use Rattle.geometry.specs.Dot.{dot}
use Rattle.geometry.specs.Mark.{Mark}
use Rattle.geometry.specs.Strip.{Strip, marks_of, most_short}
use Rattle.geometry.specs.Position.{Side, side_code}
use Rattle.geometry.specs.Sliding.{SlidingPlacing, Slides, leftmost_edges, slides_whole}
use Rattle.geometry.specs.Refusal.{Verdict, accepted, refused, number_of, refusal_number}
use Rattle.geometry.specs.declared.refusal.Refusal.TheVariants.{NoPlacing as no_placing}
use Rattle.geometry.specs.Pass.{pass_verdict, written, work_after}

-- "Work areas, lent by the caller: .. slide pass 30,000 of 16 bits, .. whatever the strip"
abbrev pub work_named : ℕ
work_named = 30000

-- the three lent lists
pub record SlideLent : Type 0 where
  pub sides : List ℕ
  pub edges : List ℤ
  pub work : List ℕ

abbrev pub slide_lent : List ℕ → List ℤ → List ℕ → SlideLent
slide_lent sides edges work = record { sides = sides; edges = edges; work = work }

-- checks 6, 12 and 7 to 10: a short strip, a gap of g dots, two answer lists, a work area
abbrev pub slide_checks : Strip → ℕ → SlideLent → Verdict
slide_checks s g lent = pass_verdict most_short s g (min (length lent.sides) (length lent.edges)) work_named (length lent.work)

-- "full and slide, at the end: 11 no placing exists", behind the checks 6, 12 and 7 to 10, by whether the strip slides
abbrev pub slide_verdict : Verdict → Bool → Verdict
slide_verdict (refused r) slides = refused r
slide_verdict accepted false = refused no_placing
slide_verdict accepted true = accepted

-- "no placing exists" at a gap of g dots, also at fractions of a dot: for no whole n from 1 are there sides and left edges in nth parts
-- without overlap
abbrev pub NoPlacing : ℕ → List Mark → Type 0
NoPlacing g ms = (n : ℕ) → 1 ≤ n → Slides g n ms → ⊥

-- a placing in the used parts of the two answer lists. Which sides is open: any will do whose leftmost edges are a placing, that is,
-- each edge is between place − length and place, and no two labels of one side share more than an end point or have fewer than g dots
-- between their nearer ends. The sides decide the edges, and an edge's dot decides the edge.
pub record Placed (g : ℕ) (ms : List Mark) (entry exit : SlideLent) : Type 0 where
  pub sides : List Side
  pub one-for-each : length sides ≡ length ms
  pub placing : SlidingPlacing g 1 ms sides (leftmost_edges g ms sides)
  pub sides-written : exit.sides ≡ written (map side_code sides) entry.sides
  pub edges : List ℤ
  pub leftmost : map dot edges ≡ leftmost_edges g ms sides
  pub edges-written : exit.edges ≡ written edges entry.edges

-- "Every refusal .. changes no lent memory, but for the work area at 11": the answer lists
pub record AnswersUnchanged (entry exit : SlideLent) : Type 0 where
  pub sides-unchanged : exit.sides ≡ entry.sides
  pub edges-unchanged : exit.edges ≡ entry.edges

-- The contract: the strip, the gap, the lent lists at entry and at exit, and the number.
pub record SlideContract (s : Strip) (g : ℕ) (entry exit : SlideLent) (number : ℕ) : Type 0 where
  pub number_is : number ≡ number_of (slide_verdict (slide_checks s g entry) (slides_whole g (marks_of s)))
  -- past the checks, 11 speaks of every denominator
  pub none-exactly : slide_checks s g entry ≡ accepted → (number ≡ refusal_number no_placing) ↔ NoPlacing g (marks_of s)
  pub where-placed : number ≡ 0 → Placed g (marks_of s) entry exit
  pub where-refused : (number ≡ 0 → ⊥) → AnswersUnchanged entry exit
  pub work-is : exit.work ≡ work_after work_named 0 (slide_checks s g entry) entry.work
