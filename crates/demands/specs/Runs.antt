-- What the test bench asks for: "the smallest run of neighbouring marks that cannot all be labelled: marks i to j such that the run gives 11 and the run
-- without its first and without its last mark gives 0, found by halving with calls of the proved full pass .., first j then i. [..] The same for
-- slide". So j is the least mark such that marks 1 to j give 11, and for it i is the greatest such that marks i to j do. Behind it: "a run of a
-- strip that fits, fits (four positions and sliding), so halving finds it".
use Rattle.std.specs.Prelude.{ℕ, ◌-◌, ◌+◌, ◌<◌, ◌≤◌, ◌≡◌, ◌⊎◌, List, [], ◌∷◌, length, take, drop}
use Rattle.geometry.specs.Mark.{Mark}
use Rattle.geometry.specs.Strip.{Strip, strip, marks_of, most_marks}
use Rattle.geometry.specs.Position.{Position}
use Rattle.geometry.specs.Placing.{IsPlacing, first_placing}
use Rattle.geometry.specs.Sliding.{Slides, slides_whole}
use Rattle.geometry.specs.Refusal.{accepted, number_of, refusal_number}
use Rattle.geometry.specs.declared.refusal.Refusal.TheVariants.{NoPlacing}
use Rattle.geometry.specs.Entry.{entry}
use Rattle.geometry.specs.Pass.{pass_verdict}
use Rattle.geometry.specs.Worked.{plain}
use Rattle.full.specs.Full.{FullLent, full_checks, full_verdict, FullContract}
use Rattle.slide.specs.Slide.{SlideLent, slide_checks, slide_verdict, SlideContract}

-- the elements i to j of a list, counted from 1: the first j, less the first i - 1, so none where j is less than i
abbrev pub from_to {ℓ} : {A : Type ℓ} → ℕ → ℕ → List A → List A
from_to i j xs = drop (i - 1) (take j xs)

-- marks i to j of a strip; without the first they are marks i + 1 to j, without the last i to j - 1
unfoldable pub run_of : ℕ → ℕ → Strip → Strip
run_of i j s = strip (from_to i j s.places) (from_to i j s.lengths) (from_to i j s.weights)

-- what a call of full gives a strip past its checks, whatever it is lent: 0 or 11
abbrev pub full_number : ℕ → Strip → ℕ
full_number gap s = number_of (full_verdict accepted (first_placing gap (marks_of s)))

-- and what a call of slide gives it
abbrev pub slide_number : ℕ → Strip → ℕ
slide_number gap s = number_of (slide_verdict accepted (slides_whole gap (marks_of s)))

-- "marks i to j such that the run gives 11 and the run without its first and without its last mark gives 0"; number is that of a pass
pub record Smallest (number : Strip → ℕ) (s : Strip) (i j : ℕ) : Type 0 where
  pub gives-11 : number (run_of i j s) ≡ refusal_number NoPlacing
  pub without-first : number (run_of (i + 1) j s) ≡ 0
  pub without-last : number (run_of i (j - 1) s) ≡ 0

-- marks i to j of the strip are one
pub record HasSmallest (number : Strip → ℕ) (s : Strip) : Type 0 where
  pub i : ℕ
  pub j : ℕ
  pub from-1 : 1 ≤ i
  pub in-order : i ≤ j
  pub to-last : j ≤ length s.places
  pub smallest : Smallest number s i j

-- What the search stands on, for any strip and either pass.
pub record RunsFit (number : Strip → ℕ) (s : Strip) : Type 0 where
  -- "a run of a strip that fits, fits", so where a run gives 11, the strip does
  pub run-fits : (i j : ℕ) → number s ≡ 0 → number (run_of i j s) ≡ 0
  pub run-fails : (i j : ℕ) → number (run_of i j s) ≡ refusal_number NoPlacing → number s ≡ refusal_number NoPlacing
  -- The same of a run and a run within it. So "halving finds" both ends: marks 1 to j give 0 up to some j and 11 from there on, and for that
  -- j marks i to j give 11 up to some i and 0 from there on.
  pub within-fits : (i j k l : ℕ) → i ≤ k → l ≤ j → number (run_of i j s) ≡ 0 → number (run_of k l s) ≡ 0
  -- the search begins with runs of no marks
  pub no-marks : (i j : ℕ) → j < i → number (run_of i j s) ≡ 0
  -- What it ends with is a smallest run, and where the strip gives 11 there is one. A strip may have several: this one ends first.
  pub found : (i j : ℕ) → 1 ≤ i → number (run_of 1 (j - 1) s) ≡ 0 → number (run_of i j s) ≡ refusal_number NoPlacing
      → number (run_of (i + 1) j s) ≡ 0
      → Smallest number s i j
  pub ends-first : (j k l : ℕ) → 1 ≤ k → number (run_of 1 (j - 1) s) ≡ 0 → Smallest number s k l → j ≤ l
  pub some-smallest : number s ≡ refusal_number NoPlacing → HasSmallest number s
  -- every run within a smallest one, but for itself, gives 0
  pub smaller-fits : (i j k l : ℕ) → Smallest number s i j → i ≤ k → l ≤ j → (i < k) ⊎ (l < j) → number (run_of k l s) ≡ 0

-- All of it (proofs/Runs.antt proves it): for all lists of marks, in any order; for strips; for calls.
pub record Runs : Type 0 where
  -- what places the marks places a run of them, at every denominator where they slide
  pub marks-placed : (g i j : ℕ) (ms : List Mark) (ps : List Position) → IsPlacing g ms ps → IsPlacing g (from_to i j ms) (from_to i j ps)
  pub marks-slide : (g n i j : ℕ) (ms : List Mark) → Slides g n ms → Slides g n (from_to i j ms)
  -- strips that full accepts, whether slide takes so many marks or not
  pub full-runs : (gap : ℕ) (s : Strip) → entry most_marks s ≡ accepted → RunsFit (full_number gap) s
  pub slide-runs : (gap : ℕ) (s : Strip) → entry most_marks s ≡ accepted → RunsFit (slide_number gap) s
  -- the number of a call that is past its checks
  pub full-gives : (s : Strip) (gap : ℕ) (lent left : FullLent) (number : ℕ) → FullContract s gap lent left number
      → full_checks s gap lent ≡ accepted → number ≡ full_number gap s
  pub slide-gives : (s : Strip) (gap : ℕ) (lent left : SlideLent) (number : ℕ) → SlideContract s gap lent left number
      → slide_checks s gap lent ≡ accepted → number ≡ slide_number gap s
  -- a run passes the checks that its strip passes: those on entry, and those of a pass that is lent lists as long
  pub run-accepted : (limit i j : ℕ) (s : Strip) → limit ≤ most_marks → entry limit s ≡ accepted → entry limit (run_of i j s) ≡ accepted
  pub run-passes : (limit i j : ℕ) (s : Strip) (gap shortest named lent : ℕ) → limit ≤ most_marks
      → pass_verdict limit s gap shortest named lent ≡ accepted
      → pass_verdict limit (run_of i j s) gap shortest named lent ≡ accepted

-- a strip that full accepts, and its smallest run
pub record Example (number : Strip → ℕ) (s : Strip) (i j : ℕ) : Type 0 where
  pub good : entry most_marks s ≡ accepted
  pub smallest : Smallest number s i j

pub record Examples : Type 0 where
  -- all five marks: for full those of strip 9 of document 01, which slides, and for slide those of strip 10
  pub whole-full : Example (full_number 0) (plain (0 ∷ 1 ∷ 2 ∷ 3 ∷ 10 ∷ [])) 1 5
  pub whole-slide : Example (slide_number 0) (plain (0 ∷ 1 ∷ 2 ∷ 3 ∷ 9 ∷ [])) 1 5
  -- the middle three, with a mark far off on either side
  pub inner-full : Example (full_number 3) (plain (0 ∷ 100 ∷ 101 ∷ 102 ∷ 200 ∷ [])) 2 4
  pub inner-slide : Example (slide_number 3) (plain (0 ∷ 100 ∷ 101 ∷ 102 ∷ 200 ∷ [])) 2 4
