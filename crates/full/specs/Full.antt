-- "Full: one position for each mark. Of all placings it is the first, comparing from mark 1 on, with positions ranked 2, 3, 1, 4."
-- "The passes take a gap, 0 to 8 dots. [..] Everything built on the overlap rule takes the gap along" (document 02, P2).
use Rattle.std.specs.Prelude.{ℕ, ◌≡◌, List, map, ℤ, pos, length}
use Rattle.std.proofs.Math.Option.{Option, none, some}
use Rattle.geometry.specs.Strip.{Strip, marks_of, most_marks}
use Rattle.geometry.specs.Position.{Position, code}
use Rattle.geometry.specs.Placing.{first_placing}
use Rattle.geometry.specs.Refusal.{Verdict, accepted, refused, number_of}
use Rattle.geometry.specs.declared.refusal.Refusal.TheVariants.{NoPlacing}
use Rattle.geometry.specs.Pass.{pass_verdict, written, work_after}

-- "Work areas, lent by the caller: full pass 20,000 numbers of 16 bits"
abbrev pub work_named : ℕ
work_named = 20000

-- the lists that a caller lends, at one moment
pub record FullLent : Type 0 where
  pub positions : List ℕ
  pub work : List ℤ

abbrev pub full_lent : List ℕ → List ℤ → FullLent
full_lent positions work = record { positions = positions; work = work }

-- the checks 6, 12 and 7 to 10, at a gap of g dots
abbrev pub full_checks : Strip → ℕ → FullLent → Verdict
full_checks s g entry = pass_verdict most_marks s g (length entry.positions) work_named (length entry.work)

-- "full and slide, at the end: 11 no placing exists", behind the checks
abbrev pub full_verdict : Verdict → Option (List Position) → Verdict
full_verdict (refused r) placing = refused r
full_verdict accepted none = refused NoPlacing
full_verdict accepted (some ps) = accepted

-- the position list afterwards: the placing's numbers in its used part, or unchanged at every refusal
abbrev pub positions_after : Verdict → Option (List Position) → List ℕ → List ℕ
positions_after (refused r) placing old = old
positions_after accepted none old = old
positions_after accepted (some ps) old = written (map code ps) old

-- The contract: the strip, the gap, the lent lists at entry and at exit, and the number. Nothing is open.
pub record FullContract (s : Strip) (g : ℕ) (entry exit : FullLent) (number : ℕ) : Type 0 where
  pub number_is : number ≡ number_of (full_verdict (full_checks s g entry) (first_placing g (marks_of s)))
  pub positions-are : exit.positions ≡ positions_after (full_checks s g entry) (first_placing g (marks_of s)) entry.positions
  pub work-is : exit.work ≡ work_after work_named (pos 0) (full_checks s g entry) entry.work
