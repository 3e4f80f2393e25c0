-- `job::reader::fill` meets its contract: what is stored and what is still to be stored are together the marks of all records.
use mathlib.Core.Path.{◌≡◌}
use Prim.Native.Nat.{ℕ}
use Rattle.geometry.specs.Strip.{Strip, strip}
use Rattle.geometry.specs.Refusal.{accepted}
use Rattle.job.specs.Outcome.{Outcome, verdict_of}
use Rattle.job.specs.inner.Step.{marks_behind}
use Rattle.job.proofs.RecordsLeft.{left_at}
use Rattle.job.proofs.StoredMarks.{StoringMarks}
use Rattle.job.proofs.FilledMarks.{marks_in}
use Rattle.job.proofs.reader.fill.Given as goal

pub record Filling (all left : Outcome Strip) (i : ℕ) (old cur : Strip) : Type 0 where
  pub all-good : verdict_of left ≡ accepted
  pub storing : StoringMarks (marks_in all) (marks_in left) i old cur

abbrev pub invariant-loop-i : goal.invariant-loop-i
invariant-loop-i l =
    Filling (marks_behind l.fn.header l.fn.records) (left_at l.fn.header.count l.i l.place l.rest) l.i
    (strip l.initial.places l.initial.lengths l.initial.weights) (strip l.places l.lengths l.weights)
