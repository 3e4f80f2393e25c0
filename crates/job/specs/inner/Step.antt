-- How what the reader's steps hand over is seen by the definitions, and what filling the lists takes and leaves.
use Rattle.std.specs.Prelude.{ℕ, ◌≤◌, ◌≡◌, true, List}
use Rattle.std.specs.Borrow.{Bor}
use Rattle.geometry.specs.Strip.{Strip}
use Rattle.geometry.specs.Refusal.{accepted}
use Rattle.job.specs.Outcome.{Outcome, verdict_of}
use Rattle.job.specs.Format.{Field, step_field, length_field, weight_field}
use Rattle.job.specs.Decode.{Front, front, SignedMark, mark_of, Header, header_of, decode_records}
use Rattle.job.specs.Calls.{left_as, shortest}
use Rattle.job.specs.declared.field.Field as coded
use Rattle.job.specs.declared.field.Field.TheVariants.{Step, Length, Weight}
use Rattle.job.specs.declared.record.Mark.{Mark}
use Rattle.job.specs.declared.reader.Header as coded_header

-- the row of the table for each of the program's fields
abbrev pub row_of : coded.Field → Field
row_of Step = step_field
row_of Length = length_field
row_of Weight = weight_field

-- a value that was read, and the bytes after it
abbrev pub front_of : {A : Type 0} → A × Bor (List ℕ) → Front A
front_of x = front x.0 x.1.now

-- a mark that was read, and the bytes after it
abbrev pub mark_front : Mark × Bor (List ℕ) → Front SignedMark
mark_front x = front (mark_of x.0.place x.0.length x.0.weight) x.1.now

-- a header that was read
abbrev pub header_view : coded_header.Header × Bor (List ℕ) → Header
header_view x = header_of x.0.count x.0.place

-- what the records behind a header say
abbrev pub marks_behind : coded_header.Header → List ℕ → Outcome Strip
marks_behind h records = decode_records h.count true h.place records

-- records that pass every check, and lists that hold their marks
pub record Fillable (found : Outcome Strip) (count : ℕ) (lent : Strip) : Type 0 where
  pub room : count ≤ shortest lent
  pub all-good : verdict_of found ≡ accepted

-- the three lists after they were filled with the marks of those records
pub record Filled (found : Outcome Strip) (entry exit : Strip) : Type 0 where
  pub places-are : exit.places ≡ left_as (λ s. s.places) found entry.places
  pub lengths-are : exit.lengths ≡ left_as (λ s. s.lengths) found entry.lengths
  pub weights-are : exit.weights ≡ left_as (λ s. s.weights) found entry.weights
