-- What the two job calls settle: the number, the count or the length, and each lent list at exit.
use Rattle.std.specs.Prelude.{ℕ, min, ◌≡◌, List, length, Result, Ok, Err}
use Rattle.geometry.specs.Strip.{Strip}
use Rattle.geometry.specs.declared.refusal.Refusal.{Refusal}
use Rattle.geometry.specs.Refusal.{refusal_number, number_of}
use Rattle.geometry.specs.Pass.{written}
use Rattle.job.specs.Outcome.{Outcome, given, refusal, verdict_of}
use Rattle.job.specs.Decode.{decode}
use Rattle.job.specs.Encode.{job_for}

-- what the reader gives: "An accepted call gives number 0; the reader also gives the count of marks, the writer the job's length."
pub record Read : Type 0 where
  pub number : ℕ
  pub count : ℕ

-- and the writer
pub record Written : Type 0 where
  pub number : ℕ
  pub length : ℕ

-- "When an answer is an enum, a definition gives this paper's number and values for each of its cases."
abbrev pub read_answer : Result ℕ Refusal → Read
read_answer (Ok count) = record { number = 0; count = count }
read_answer (Err r) = record { number = refusal_number r; count = 0 }

abbrev pub written_answer : Result ℕ Refusal → Written
written_answer (Ok length) = record { number = 0; length = length }
written_answer (Err r) = record { number = refusal_number r; length = 0 }

-- how many elements an accepted call uses of a list; "Every refusal gives its number, with sum, count and length 0"
abbrev pub used_of : {M A : Type 0} → (M → List A) → Outcome M → ℕ
used_of part (given m) = length (part m)
used_of part (refusal r) = 0

-- a lent list at exit: "unchanged beyond their used part" where the call is accepted, and every refusal "changes no lent memory"
abbrev pub left_as : {M A : Type 0} → (M → List A) → Outcome M → List A → List A
left_as part (given m) old = written (part m) old
left_as part (refusal r) old = old

-- the length of the shortest of three lent lists
abbrev pub shortest : Strip → ℕ
shortest lent = min (length lent.places) (min (length lent.lengths) (length lent.weights))

-- what a job says to a reader that is lent these lists
abbrev pub read_into : Strip → List ℕ → Outcome Strip
read_into lent job = decode (shortest lent) job

-- the reader: the three lent lists at entry and at exit
pub record ReadContract (job : List ℕ) (entry exit : Strip) (r : Read) : Type 0 where
  pub number_is : r.number ≡ number_of (verdict_of (read_into entry job))
  pub count-is : r.count ≡ used_of (λ s. s.places) (read_into entry job)
  pub places-are : exit.places ≡ left_as (λ s. s.places) (read_into entry job) entry.places
  pub lengths-are : exit.lengths ≡ left_as (λ s. s.lengths) (read_into entry job) entry.lengths
  pub weights-are : exit.weights ≡ left_as (λ s. s.weights) (read_into entry job) entry.weights

-- the writer: the output at entry and at exit
pub record WriteContract (s : Strip) (entry exit : List ℕ) (r : Written) : Type 0 where
  pub number_is : r.number ≡ number_of (verdict_of (job_for (length entry) s))
  pub length-is : r.length ≡ used_of (λ job. job) (job_for (length entry) s)
  pub job_is : exit ≡ left_as (λ job. job) (job_for (length entry) s) entry
