-- The three demands, whole and in their order. Each record says what holds for every strip, every gap, every lent list and every answer
-- that meets the contract of its call; proofs/Demands.antt proves all of it from the contracts and the theorems about the definitions.
-- `lent` are the lent lists at entry and `left` the same lists at exit. "Accepted" is said of the checks 6 to 10, among which a pass
-- tests 12, the gap, right after 6: "The first check that is not passed decides."
use Rattle.std.specs.Prelude.{ℕ, ◌≤◌, ◌≡◌, ◌⊎◌, ◌↔◌, true, List, map, pos, length, take}
use Rattle.geometry.specs.Lists.{sum_list}
use Rattle.geometry.specs.Strip.{Strip, strip, first_marks, marks_of, most_marks}
use Rattle.geometry.specs.Position.{Position, code}
use Rattle.geometry.specs.Overlap.{free, all_labelled}
use Rattle.geometry.specs.Placing.{IsPlacing, NotAfter, sum_of}
use Rattle.geometry.specs.Sliding.{Slides}
use Rattle.geometry.specs.Layout.{unbeaten_count, BeginsUnbeaten}
use Rattle.geometry.specs.Refusal.{refusal_number, accepted, refused}
use Rattle.geometry.specs.declared.refusal.Refusal.{Refusal}
use Rattle.geometry.specs.declared.refusal.Refusal.TheVariants.{NoPlacing}
use Rattle.geometry.specs.Entry.{entry}
use Rattle.geometry.specs.Pass.{written, cleared}
use Rattle.full.specs.Full as full
use Rattle.full.specs.Full.{FullLent, full_checks, FullContract}
use Rattle.slide.specs.Slide as slide
use Rattle.slide.specs.Slide.{SlideLent, slide_checks, SlideContract, Placed}
use Rattle.best.specs.Best as best
use Rattle.best.specs.Best.{BestAnswer, BestLent, best_checks, BestContract}
use Rattle.best.specs.LeftOut.{left_out_lem, ListsLeftOut, HeaviestFirst}
use Rattle.job.specs.Number.{Bytes}
use Rattle.job.specs.Outcome.{given, refusal}
use Rattle.job.specs.Encode.{job_for}
use Rattle.job.specs.Calls.{shortest, read_into, Read, Written, ReadContract, WriteContract}

-- lent lists with the marks of a strip in their used part, "unchanged beyond their used part"
abbrev pub with_marks : Strip → Strip → Strip
with_marks s lent = strip (written s.places lent.places) (written s.lengths lent.lengths) (written s.weights lent.weights)

-- nothing is read: "Every refusal gives its number, with sum, count and length 0, and changes no lent memory"
pub record NotRead (number : ℕ) (lent left : Strip) (answer : Read) : Type 0 where
  pub number_is : answer.number ≡ number
  pub count-zero : answer.count ≡ 0
  pub unchanged : left ≡ lent

-- a strip is read: "An accepted call gives number 0; the reader also gives the count of marks"
pub record StripRead (s lent left : Strip) (answer : Read) : Type 0 where
  pub number-zero : answer.number ≡ 0
  pub count-is : answer.count ≡ length s.places
  pub marks-written : left ≡ with_marks s lent

-- nothing is written
pub record NotWritten (number : ℕ) (lent left : List ℕ) (answer : Written) : Type 0 where
  pub number_is : answer.number ≡ number
  pub length-zero : answer.length ≡ 0
  pub unchanged : left ≡ lent

-- a job is written: "An accepted call gives number 0; .. the writer the job's length"
pub record JobWritten (job lent left : List ℕ) (answer : Written) : Type 0 where
  pub number-zero : answer.number ≡ 0
  pub length-is : answer.length ≡ length job
  pub job-written : left ≡ written job lent

-- Demand 1. "Three passes (full, slide, best) and a job reader and writer end on every input and never go wrong": that is what it
-- means that these functions are proved. "Each public call tests what it is given and refuses by a number of document 01, with sum and
-- count 0 and lent memory as that document lays down."
pub record Demand1 : Type 0 where
  -- the full pass, 6 to 10 and 12: "Every refusal gives its number, .., and changes no lent memory, but for the work area at 11"
  pub full_refuses : (s : Strip) (gap : ℕ) (lent left : FullLent) (number : ℕ) (r : Refusal) → FullContract s gap lent left number
      → full_checks s gap lent ≡ refused r → (number ≡ refusal_number r) × (left ≡ lent)
  -- past them "An accepted call gives number 0", and the one refusal that is left is "at the end: 11 no placing exists"
  pub full-answers : (s : Strip) (gap : ℕ) (lent left : FullLent) (number : ℕ) → FullContract s gap lent left number
      → full_checks s gap lent ≡ accepted → (number ≡ 0) ⊎ (number ≡ refusal_number NoPlacing)
  -- which leaves the positions as they were
  pub full-at-11 : (s : Strip) (gap : ℕ) (lent left : FullLent) (number : ℕ) → FullContract s gap lent left number
      → full_checks s gap lent ≡ accepted → number ≡ refusal_number NoPlacing → left.positions ≡ lent.positions
  -- "Once checks 6 to 10 are passed, the named part of the work area ends as zeros, also at refusal 11; the rest of it is unchanged."
  pub full-clears : (s : Strip) (gap : ℕ) (lent left : FullLent) (number : ℕ) → FullContract s gap lent left number
      → full_checks s gap lent ≡ accepted → left.work ≡ cleared full.work_named (pos 0) lent.work
  -- the slide pass, 6 to 10 and 12: the number, and nothing changed
  pub slide-refuses : (s : Strip) (gap : ℕ) (lent left : SlideLent) (number : ℕ) (r : Refusal) → SlideContract s gap lent left number
      → slide_checks s gap lent ≡ refused r → (number ≡ refusal_number r) × (left ≡ lent)
  -- past them 0 or 11
  pub slide-answers : (s : Strip) (gap : ℕ) (lent left : SlideLent) (number : ℕ) → SlideContract s gap lent left number
      → slide_checks s gap lent ≡ accepted → (number ≡ 0) ⊎ (number ≡ refusal_number NoPlacing)
  -- 11 leaves both answer lists as they were
  pub slide-at-11 : (s : Strip) (gap : ℕ) (lent left : SlideLent) (number : ℕ) → SlideContract s gap lent left number
      → slide_checks s gap lent ≡ accepted → number ≡ refusal_number NoPlacing → (left.sides ≡ lent.sides) × (left.edges ≡ lent.edges)
  -- the named part of the work area ends as zeros, also at 11
  pub slide-clears : (s : Strip) (gap : ℕ) (lent left : SlideLent) (number : ℕ) → SlideContract s gap lent left number
      → slide_checks s gap lent ≡ accepted → left.work ≡ cleared slide.work_named 0 lent.work
  -- the best pass, 6 to 10 and 12: the number "with sum, count and length 0", and nothing changed
  pub best-refuses : (s : Strip) (gap : ℕ) (lent left : BestLent) (answer : BestAnswer) (r : Refusal) → BestContract s gap lent left answer
      → best_checks s gap lent ≡ refused r → (answer.number ≡ refusal_number r) × (answer.sum ≡ 0) × (answer.count ≡ 0) × (left ≡ lent)
  -- past them always 0, and the named part of the work area ends as zeros
  pub best-clears : (s : Strip) (gap : ℕ) (lent left : BestLent) (answer : BestAnswer) → BestContract s gap lent left answer
      → best_checks s gap lent ≡ accepted → (answer.number ≡ 0) × (left.work ≡ cleared best.work_named 0 lent.work)
  -- the reader refuses exactly what `read_into` refuses: 1 to 5 for the job, 9 for "a lent list shorter than the count"
  pub read-refuses : (job : List ℕ) (lent left : Strip) (answer : Read) (r : Refusal) → ReadContract job lent left answer
      → read_into lent job ≡ refusal r → NotRead (refusal_number r) lent left answer
  pub read-answers : (job : List ℕ) (lent left : Strip) (answer : Read) (s : Strip) → ReadContract job lent left answer
      → read_into lent job ≡ given s → StripRead s lent left answer
  -- the writer refuses exactly what `job_for` refuses: 6 to 8 for the strip, 9 for "the job longer than the output"
  pub write-refuses : (s : Strip) (lent left : List ℕ) (answer : Written) (r : Refusal) → WriteContract s lent left answer
      → job_for (length lent) s ≡ refusal r → NotWritten (refusal_number r) lent left answer
  pub write-answers : (s : Strip) (lent left : List ℕ) (answer : Written) (job : List ℕ) → WriteContract s lent left answer
      → job_for (length lent) s ≡ given job → JobWritten job lent left answer

-- what the full pass lists where it gives 0: a placing in the used part of the position list, and no placing comes before it
pub record FirstPlaced (s : Strip) (gap : ℕ) (lent left : FullLent) : Type 0 where
  pub placing : List Position
  pub listed : left.positions ≡ written (map code placing) lent.positions
  pub is-placing : IsPlacing gap (marks_of s) placing
  pub is-first : (other : List Position) → IsPlacing gap (marks_of s) other → NotAfter placing other

-- Demand 2. "Full gives the first placing in four positions, slide one with sliding labels; each says 11 exactly when its model has none,
-- for slide even at fractions of a dot. Job bytes round-trip both ways."
pub record Demand2 : Type 0 where
  -- "Of all placings it is the first, comparing from mark 1 on, with positions ranked 2, 3, 1, 4."
  pub full-places : (s : Strip) (gap : ℕ) (lent left : FullLent) (number : ℕ) → FullContract s gap lent left number
      → number ≡ 0 → FirstPlaced s gap lent left
  -- "11 no placing exists", and only then
  pub full-none-exactly : (s : Strip) (gap : ℕ) (lent left : FullLent) (number : ℕ) → FullContract s gap lent left number
      → full_checks s gap lent ≡ accepted
      → (number ≡ refusal_number NoPlacing) ↔ ((ps : List Position) → IsPlacing gap (marks_of s) ps → ⊥)
  -- "a side (0 above, 1 below) and a left edge for each mark", no two labels overlapping, "every label is as far left as it goes"
  pub slide-places : (s : Strip) (gap : ℕ) (lent left : SlideLent) (number : ℕ) → SlideContract s gap lent left number
      → number ≡ 0 → Placed gap (marks_of s) lent left
  -- 11 if no placing exists "whose left edges are whole numbers of nth parts of a dot, for any whole n from 1", and only then
  pub slide-none-exactly : (s : Strip) (gap : ℕ) (lent left : SlideLent) (number : ℕ) → SlideContract s gap lent left number
      → slide_checks s gap lent ≡ accepted
      → (number ≡ refusal_number NoPlacing) ↔ ((denominator : ℕ) → 1 ≤ denominator → Slides gap denominator (marks_of s) → ⊥)
  -- a job that the reader accepts, read and written back, has the same bytes
  pub job-there-and-back : (job : List ℕ) (lent left : Strip) (read : Read) (output copy : List ℕ) (made : Written) → Bytes job
      → ReadContract job lent left read → read.number ≡ 0 → WriteContract (first_marks read.count left) output copy made
      → length job ≤ length output → JobWritten job output copy made
  -- a strip that the writer accepts, written and read back, has the same marks
  pub strip-there-and-back : (s : Strip) (output job : List ℕ) (made : Written) (lent left : Strip) (read : Read)
      → WriteContract s output job made → made.number ≡ 0 → ReadContract (take made.length job) lent left read
      → length s.places ≤ shortest lent → StripRead s lent left read

-- what the best pass lists where it gives 0
pub record BestChosen (s : Strip) (gap : ℕ) (lent left : BestLent) (answer : BestAnswer) : Type 0 where
  -- "What the best pass lists is the choice in the used part of its position list."
  pub choice : List Position
  pub listed : left.positions ≡ written (map code choice) lent.positions
  -- "it is overlap-free if no two of its labels overlap"; so it has an entry for each mark
  pub overlap-free : free gap (marks_of s) choice ≡ true
  -- "its sum is that of their weights", and no overlap-free choice has a greater one
  pub sum-earned : answer.sum ≡ sum_of (marks_of s) choice
  pub greatest : (other : List Position) → free gap (marks_of s) other ≡ true → sum_of (marks_of s) other ≤ answer.sum
  -- "the list of left-out mark numbers and its length": it is the left-out list of the choice
  pub out_written : left.left_out ≡ written (left_out_lem s.weights choice) lent.left_out
  pub out-counted : answer.count ≡ length (left_out_lem s.weights choice)
  -- "every left-out mark, each one time", and no other number; "by falling weight, and equal weights by rising mark number"; no other
  -- list is so
  pub out_once : ListsLeftOut choice (left_out_lem s.weights choice)
  pub out-ordered : HeaviestFirst s.weights (left_out_lem s.weights choice)
  pub out-only : (other : List ℕ) → ListsLeftOut choice other → HeaviestFirst s.weights other → other ≡ left_out_lem s.weights choice

-- both passes on one strip at one and the same gap, past their checks; `number` is the full pass's, which "finds a fit if it gives 0, and none if it gives 11"
pub record BestAndFull (s : Strip) (gap : ℕ) (lent left : BestLent) (answer : BestAnswer) (number : ℕ) : Type 0 where
  pub chosen : BestChosen s gap lent left answer
  -- "The weight of all marks is the sum of the weight list.": it is the best sum exactly when the full pass fits
  pub whole-exactly : (answer.sum ≡ sum_list s.weights) ↔ (number ≡ 0)
  -- and exactly then the choice has a label for each mark
  pub labels-all-exactly : (all_labelled chosen.choice ≡ true) ↔ (number ≡ 0)

-- Demand 3. "Best (up to 60 marks) gives an overlap-free choice of greatest weight, its sum earned by exactly the listed labels; it
-- labels all exactly when full fits. After any mark of any strip of up to 4,000 at most two pairs of reaches are unbeaten, and a strip
-- that fits has a placing that begins with an unbeaten part layout."
pub record Demand3 : Type 0 where
  -- "an overlap-free choice of greatest weight, its sum earned by exactly the listed labels"
  pub best-chooses : (s : Strip) (gap : ℕ) (lent left : BestLent) (answer : BestAnswer) → BestContract s gap lent left answer
      → answer.number ≡ 0 → BestChosen s gap lent left answer
  -- "it labels all exactly when full fits", both "taken from calls that pass checks 9 and 10 too"
  pub best-labels-all-where-full-fits : (s : Strip) (gap : ℕ) (lent left : BestLent) (answer : BestAnswer) (full_lent full_left : FullLent) (number : ℕ)
      → BestContract s gap lent left answer → answer.number ≡ 0 → FullContract s gap full_lent full_left number
      → full_checks s gap full_lent ≡ accepted → BestAndFull s gap lent left answer number
  -- "The count after mark k is the number of different pairs of reaches, .., that no part layout of those k marks beats": at every gap
  pub at-most-two-unbeaten : (s : Strip) (gap k : ℕ) → entry most_marks s ≡ accepted → 1 ≤ k → k ≤ length s.places
      → unbeaten_count gap (take k (marks_of s)) ≤ 2
  -- "The placing begins with the part layout that its first k positions form": at every gap, for every k
  pub begins-unbeaten : (s : Strip) (gap k : ℕ) → entry most_marks s ≡ accepted → k ≤ length s.places
      → (ps : List Position) → IsPlacing gap (marks_of s) ps → BeginsUnbeaten gap k (marks_of s)
