-- The contract of the listing: its bytes, up to which choice among equal sums is listed.
use Rattle.std.specs.Prelude.{ℕ, Result, Ok, Err, ◌≤◌, ◌≡◌, ◌↔◌, List, Bool, true, leb, length}
use Rattle.geometry.specs.Strip.{Strip, marks_of, most_marks, most_short}
use Rattle.geometry.specs.Position.{Position}
use Rattle.geometry.specs.Overlap.{free}
use Rattle.geometry.specs.Placing.{sum_of, best_sum}
use Rattle.geometry.specs.Sliding.{Slides}
use Rattle.geometry.specs.Pass.{written}
use Rattle.geometry.specs.Refusal.{Verdict, accepted, refused, number_of, refusal_number, after_check}
use Rattle.geometry.specs.declared.refusal.Refusal.TheVariants.{ListTooShort}
use Rattle.best.specs.LeftOut.{left_out_lem}
use Rattle.job.specs.Outcome.{Outcome, given}
use Rattle.job.specs.Decode.{decode}
use Rattle.listing.specs.Text.{listing_gap, listing_of}
use Rattle.geometry.specs.declared.refusal.Refusal.{Refusal}

-- what a job says, read with room for the most marks
abbrev pub said_by : List ℕ → Outcome Strip
said_by job = decode most_marks job

-- a sliding placing at some denominator
pub record SlidesSomehow (s : Strip) : Type 0 where
  pub denominator : ℕ
  pub whole : 1 ≤ denominator
  pub placing : Slides listing_gap denominator (marks_of s)

-- what is open: an overlap-free choice of the greatest sum; "the listing's out line shows" its left-out marks "in that order", by
-- falling weight and equal weights by rising mark number (document 02, P1)
pub record Chosen (s : Strip) (out : List ℕ) : Type 0 where
  pub choice : List Position
  pub overlap-free : free listing_gap (marks_of s) choice ≡ true
  pub greatest : sum_of (marks_of s) choice ≡ best_sum listing_gap (marks_of s)
  pub left_out : out ≡ left_out_lem s.weights choice

-- the text of a job
pub record TextOf (job : List ℕ) (text : List ℕ) : Type 0 where
  pub fits : Bool
  pub out : List ℕ
  pub text-is : text ≡ listing_of (said_by job) fits out
  -- "fits" exactly if the strip has a sliding placing, at whole dots or at any fraction
  pub fits-exactly : (s : Strip) → said_by job ≡ given s → (fits ≡ true) ↔ SlidesSomehow s
  pub out-chosen : (s : Strip) → said_by job ≡ given s → length s.places ≤ most_short → Chosen s out

-- No text is longer (`text-fits` in proofs/), so that an output of so many bytes is never too small.
abbrev pub text_most : ℕ
text_most = 25000

-- "9 .. longer than the output": the one check of the call
abbrev pub listing_verdict : List ℕ → List ℕ → Verdict
listing_verdict text output = after_check (leb (length text) (length output)) ListTooShort accepted

-- what the call gives: the number and the text's length, 0 at a refusal
pub record Listed : Type 0 where
  pub number : ℕ
  pub length : ℕ

abbrev pub listed_answer : Result ℕ Refusal → Listed
listed_answer (Ok length) = record { number = 0; length = length }
listed_answer (Err r) = record { number = refusal_number r; length = 0 }

-- what is handed back and the output afterwards: the text in its used part, or nothing at a refusal
abbrev pub length_given : Verdict → List ℕ → ℕ
length_given accepted text = length text
length_given (refused r) text = 0

abbrev pub output_after : Verdict → List ℕ → List ℕ → List ℕ
output_after accepted text old = written text old
output_after (refused r) text old = old

-- The contract: the job, the output at entry and at exit, and what is handed back.
pub record ListingContract (job entry exit : List ℕ) (r : Listed) : Type 0 where
  pub text : List ℕ
  pub text_of : TextOf job text
  pub number_is : r.number ≡ number_of (listing_verdict text entry)
  pub length-is : r.length ≡ length_given (listing_verdict text entry) text
  pub output-is : exit ≡ output_after (listing_verdict text entry) text entry
