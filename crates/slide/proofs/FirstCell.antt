-- The answer past the checks, from what its steps leave: the first cell of the filled table decides, because both sides are empty at
-- first; the walk writes the answer lists, or nothing does; and clearing looks only behind the part in which the table lies.
use mathlib.Core.Path.{◌≡◌, refl, sym, ◌∙◌, ap}
use mathlib.Core.Bool.{Bool, true, false, ◌||◌}
use mathlib.Core.List.{List, [], ◌∷◌}
use Prim.Native.Nat.{ℕ}
use native.Mathlib.Omega.{arith}
use borrow.Author.Tests.{ne_eqb}
use lib.Dec.{eqb, ltb}
use lib.IntN.{ℤ}
use lib.ListN.{length, get_or}
use Rattle.geometry.specs.Dot.{empty_reach}
use Rattle.geometry.specs.Pass.{cleared}
use Rattle.geometry.specs.Refusal.{Verdict, accepted, number_of, after_check}
use Rattle.geometry.specs.declared.refusal.Refusal.TheVariants.{NoPlacing as no_placing}
use Rattle.geometry.proofs.Lent.{cleared-again}
use Rattle.slide.specs.Slide.{SlideLent, slide_lent, AnswersUnchanged, slide_verdict, work_named}
use Rattle.slide.specs.inner.Answer.{AnswerReady, Answer}
use Rattle.slide.specs.inner.Plain.{plain_marks, Checked}
use Rattle.slide.specs.inner.Room.{slideable}
use Rattle.slide.specs.inner.Table.{TableHolds, TableFrom}
use Rattle.slide.specs.inner.Walk.{fits_plain, WalkReady, Walked}
use Rattle.slide.proofs.ExactCells.{Inside}
use Rattle.slide.proofs.WalkAllowed.{first_cell}
use Rattle.slide.proofs.PlainMarks.{marks-inside}

-- no marks, or a first cell beyond the empty reach
abbrev first_test : List ℤ → List ℕ → Bool
first_test places cells = eqb (length places) 0 || ltb empty_reach (get_or cells 0 0)

-- no marks always fit
no-marks-fit : (g : ℕ) → true ≡ slideable g empty_reach empty_reach []
unfolding slideable
no-marks-fit g = refl

-- the test of the first cell is whether the strip fits
first-decides : (zs : List ℤ) (ls : List ℕ) (g : ℕ) (cells : List ℕ) → length ls ≡ length zs → Inside g (plain_marks zs ls)
    → TableHolds g cells (plain_marks zs ls) → first_test zs cells ≡ fits_plain zs ls g
unfolding plain_marks
first-decides [] ls g cells same inside table = no-marks-fit g
first-decides (z ∷ zs) [] g cells same inside table = absurd (omega arith)
first-decides (z ∷ zs) (l ∷ ls) g cells same inside table =
    rw (ne_eqb (length (z ∷ zs)) 0 (omega arith), table.0 0 (omega arith)) (sym (first_cell g _ _ inside))

-- what the check of that test says
as_verdict : (t : Bool) → after_check t no_placing accepted ≡ slide_verdict accepted t
as_verdict true = refl
as_verdict false = refl

fits-at-0 : (t : Bool) (v : Verdict) → v ≡ after_check t no_placing accepted → number_of v ≡ 0 → t ≡ true
fits-at-0 true v is z = refl
fits-at-0 false v is z = absurd (omega (arith, ap number_of is))

misses-else : (t : Bool) (v : Verdict) → v ≡ after_check t no_placing accepted → (number_of v ≡ 0 → ⊥) → t ≡ false
misses-else true v is positive = absurd (positive (ap number_of is))
misses-else false v is positive = refl

-- a strip past the checks, its table filled, and the answer of the test
module _
    (places : List ℤ)
    (lengths : List ℕ)
    (g : ℕ)
    (entry : SlideLent)
    (filled : List ℕ)
    (checked : Checked places lengths g)
    (ready : AnswerReady places entry)
    (table : TableFrom g entry.work filled 0 (plain_marks places lengths))
    (t : Bool)
    (tested : t ≡ first_test places filled)
  where
    -- the test says whether the strip fits
    decided : t ≡ fits_plain places lengths g
    decided =
        tested ∙ first-decides places lengths g filled checked.same_count (marks-inside places lengths g checked) table.table

    -- where it does, the walk may begin
    pub walk-ready : t ≡ true → WalkReady places lengths g (slide_lent entry.sides entry.edges filled)
    walk-ready fits =
        record {
          sides-long = ready.sides-long;
          edges-long = ready.edges-long;
          work-long = omega (arith, ready.work-long, table.same_length);
          table = table.table;
          fits = sym decided ∙ fits;
        }

    -- what is left: the number of the check that follows, and lent lists that the walk has written or nothing has
    pub answered : (exit : SlideLent) (v : Verdict) → v ≡ after_check t no_placing accepted → (t ≡ true → Walked places lengths g entry exit)
        → (t ≡ false → AnswersUnchanged entry exit) → exit.work ≡ cleared work_named 0 filled → Answer places lengths g entry exit (number_of v)
    answered exit v checked-is walked unchanged clear =
        record {
          number_is = ap number_of (checked-is ∙ as_verdict t) ∙ ap (λ (u : Bool). number_of (slide_verdict accepted u)) decided;
          where-placed = λ zero_number. walked (fits-at-0 t v checked-is zero_number);
          where-none = λ positive. unchanged (misses-else t v checked-is positive);
          work-cleared = cleared-again work_named 0 exit.work filled entry.work clear table.beyond;
        }
