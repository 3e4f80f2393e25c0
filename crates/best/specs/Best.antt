-- "Best: the sum, a position for each mark (0 for none; no two of the labels overlap), the list of left-out mark numbers and its
-- length." Which choice among equal sums is open; "the best pass lists left-out marks by falling weight, and equal weights by rising
-- mark number" (document 02, P1). (Weighted Max-1d-4P, with a witness.) The pass takes a short strip: 0 to 60 marks; and "the passes
-- take a gap, 0 to 8 dots. Two labels on one side overlap if their spans share more than an end point, or if fewer than that many dots
-- lie between their nearer ends. Gap 0 is the old meaning." (document 02, P2)
use Rattle.std.specs.Prelude.{◌≡◌, List, map, true, ℕ, min, length, Result, Ok, Err}
use Rattle.geometry.specs.Strip.{Strip, marks_of, most_short}
use Rattle.geometry.specs.Position.{Position, code}
use Rattle.geometry.specs.Overlap.{free}
use Rattle.geometry.specs.Placing.{sum_of, best_sum}
use Rattle.geometry.specs.Pass.{pass_verdict, written, cleared}
use Rattle.geometry.specs.Refusal.{Verdict, accepted, refusal_number, number_of}
use Rattle.geometry.specs.declared.refusal.Refusal.{Refusal}
use Rattle.best.specs.declared.choice.Choice.{Choice}
use Rattle.best.specs.LeftOut.{left_out_lem}

-- "Work areas, lent by the caller: [..] best pass 15,000 of 32 bits, whatever the strip."
abbrev pub work_named : ℕ
work_named = 15000

-- "Best: the sum, [..] the list of left-out mark numbers and its length", with the number of the answer
pub record BestAnswer : Type 0 where
  pub number : ℕ
  pub sum : ℕ
  pub count : ℕ

-- what an answer of the call says of it
abbrev pub best_answer : Result Choice Refusal → BestAnswer
best_answer (Ok choice) = record { number = 0; sum = choice.sum; count = choice.count }
best_answer (Err r) = record { number = refusal_number r; sum = 0; count = 0 }

-- the three lent lists, at entry or at exit
pub record BestLent : Type 0 where
  pub positions : List ℕ
  pub left_out : List ℕ
  pub work : List ℕ

abbrev pub best_lent : List ℕ → List ℕ → List ℕ → BestLent
best_lent positions out work = record { positions = positions; left_out = out; work = work }

-- checks 6, 12 and 7 to 10 at a gap of g dots: 9 is about the shorter of the two answer lists
abbrev pub best_checks : Strip → ℕ → BestLent → Verdict
best_checks s g entry =
    pass_verdict most_short s g (min (length entry.positions) (length entry.left_out)) work_named (length entry.work)

-- "Every refusal gives its number, with sum, count and length 0, and changes no lent memory"
pub record RefusedAnswer (entry exit : BestLent) (r : BestAnswer) : Type 0 where
  pub sum-zero : r.sum ≡ 0
  pub count-zero : r.count ≡ 0
  pub positions-unchanged : exit.positions ≡ entry.positions
  pub left-out-unchanged : exit.left_out ≡ entry.left_out
  pub work-unchanged : exit.work ≡ entry.work

pub record AcceptedAnswer (s : Strip) (g : ℕ) (entry exit : BestLent) (r : BestAnswer) : Type 0 where
  -- "What the best pass lists is the choice in the used part of its position list." Which one among equal sums is open.
  pub choice : List Position
  pub positions-written : exit.positions ≡ written (map code choice) entry.positions
  -- "it is overlap-free if no two of its labels overlap", at the gap; it has an entry for each mark
  pub overlap-free : free g (marks_of s) choice ≡ true
  -- "its sum is that of their weights"; no overlap-free choice has a greater one
  pub sum-earned : r.sum ≡ sum_of (marks_of s) choice
  pub sum-best : r.sum ≡ best_sum g (marks_of s)
  -- "the list of left-out mark numbers and its length": of the listed choice, heaviest first
  pub out_written : exit.left_out ≡ written (left_out_lem s.weights choice) entry.left_out
  pub out-counted : r.count ≡ length (left_out_lem s.weights choice)
  -- "the named part of the work area ends as zeros; the rest of it is unchanged"
  pub work-cleared : exit.work ≡ cleared work_named 0 entry.work

-- The contract: the strip, the gap, the lent lists at entry and at exit, and what is handed back.
pub record BestContract (s : Strip) (g : ℕ) (entry exit : BestLent) (r : BestAnswer) : Type 0 where
  pub number_is : r.number ≡ number_of (best_checks s g entry)
  pub where-refused : (best_checks s g entry ≡ accepted → ⊥) → RefusedAnswer entry exit r
  pub where-accepted : best_checks s g entry ≡ accepted → AcceptedAnswer s g entry exit r
