-- What one step of the writer takes and leaves.
use Rattle.std.specs.Prelude.{ℕ, ◌+◌, ◌-◌, ◌≡◌, List, eqb, ℤ, pos, length, get_or}
use Rattle.std.proofs.lemmas.List.Edits.{sets}
use Rattle.geometry.specs.Strip.{Strip, most_marks}
use Rattle.geometry.specs.Refusal.{accepted}
use Rattle.geometry.specs.Entry.{entry}
use Rattle.job.specs.Encode.{step_to, encode_record}
use Rattle.job.specs.declared.marks.Record.{Record}

-- bytes that were put into a job from a position on, and the position after them
pub record PutAt (old : List ℕ) (at : ℕ) (bs : List ℕ) (next : ℕ) (new : List ℕ) : Type 0 where
  pub next-is : next ≡ at + length bs
  pub job_is : new ≡ sets old at bs

-- a strip that the writer takes
abbrev pub Writable : Strip → Type 0
Writable s = entry most_marks s ≡ accepted

-- the step to the mark at an index, from the mark before it
abbrev pub step_at_lem : List ℤ → ℕ → ℕ
step_at_lem places i = step_to (eqb i 0) (get_or places (i - 1) (pos 0)) (get_or places i (pos 0))

-- the bytes of a record, and the record of the mark at an index
abbrev pub bytes_of_record : Record → List ℕ
bytes_of_record r = encode_record r.step r.length r.weight

pub record RecordOf (s : Strip) (i : ℕ) (r : Record) : Type 0 where
  pub step_is : r.step ≡ step_at_lem s.places i
  pub length-is : r.length ≡ get_or s.lengths i 0
  pub weight_is : r.weight ≡ get_or s.weights i 0
