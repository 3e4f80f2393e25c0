-- What the slide pass does with a strip and a gap that passed checks 6, 12 and 7 to 10, by the table's own definitions.
use Rattle.std.specs.Prelude.{◌≡◌, List, ℕ, ◌≤◌, ℤ, length}
use Rattle.geometry.specs.Pass.{cleared}
use Rattle.geometry.specs.Refusal.{accepted, number_of}
use Rattle.slide.specs.Slide.{SlideLent, AnswersUnchanged, slide_verdict, work_named}
use Rattle.slide.specs.inner.Walk.{fits_plain, Walked}

-- what it asks of the lent lists
pub record AnswerReady (places : List ℤ) (lent : SlideLent) : Type 0 where
  pub sides-long : length places ≤ length lent.sides
  pub edges-long : length places ≤ length lent.edges
  pub work-long : work_named ≤ length lent.work

-- what it leaves, by whether some sides let every label lie where it may
pub record Answer (places : List ℤ) (lengths : List ℕ) (g : ℕ) (entry exit : SlideLent) (number : ℕ) : Type 0 where
  pub number_is : number ≡ number_of (slide_verdict accepted (fits_plain places lengths g))
  pub where-placed : number ≡ 0 → Walked places lengths g entry exit
  pub where-none : (number ≡ 0 → ⊥) → AnswersUnchanged entry exit
  pub work-cleared : exit.work ≡ cleared work_named 0 entry.work
