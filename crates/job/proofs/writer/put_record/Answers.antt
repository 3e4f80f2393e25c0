-- `job::writer::put_record` meets its contract: the map byte and the three fields are put one after the other.
use mathlib.Core.Path.{◌≡◌}
use mathlib.Core.List.{List, [], ◌∷◌, ◌++◌}
use Prim.Native.Nat.{ℕ, ◌+◌}
use native.Mathlib.Omega.{arith}
use lib.ListN.{length, length-set, length-append}
use Rattle.job.specs.Encode.{encode_map}
use Rattle.job.specs.inner.Put.{PutAt, bytes_of_record}
use Rattle.job.specs.declared.marks.Record.{Record}
use Rattle.job.proofs.RecordBytes.{step_bytes, length_bytes, weight_bytes, record-size, record-joined}
use Rattle.job.proofs.PutBytes.{put_byte, put_two, put-length}
use Rattle.job.proofs.writer.put_record.Goals as goal

abbrev map : Record → ℕ
map one = encode_map one.step one.length one.weight

abbrev up_to_step : Record → List ℕ
up_to_step one = map one ∷ step_bytes one.step

abbrev up_to_length : Record → List ℕ
up_to_length one = up_to_step one ++ length_bytes one.length

-- the record has room
size : (one : Record)
    → length (bytes_of_record one) ≡ 1 + length (step_bytes one.step) + length (length_bytes one.length) + length (weight_bytes one.weight)
size one = record-size one.step one.length one.weight

pub bounds-job-at : goal.bounds-job-at
bounds-job-at c = omega (arith, size c.args.one)

pub put_field-after_step-requires : goal.put_field-after_step-requires
put_field-after_step-requires c = simp length-set (omega (arith, size c.args.one))

pub put_field-after_length-requires : goal.put_field-after_length-requires
put_field-after_length-requires c =
    let a = c.args in
    let q : PutAt a.job.now a.at (up_to_step a.one) c.put_field-after_step.result c.put_field-after_step.new.job =
    put_two (map a.one ∷ []) (step_bytes a.one.step) (put_byte a.job.now a.at (map a.one))
    (rw c.map_byte.ensures at c.put_field-after_step.ensures) in
    omega (arith, size a.one, q.next-is, put-length q)

pub put_field-requires : goal.put_field-requires
put_field-requires c =
    let a = c.args in
    let p : PutAt a.job.now a.at (up_to_step a.one) c.put_field-after_step.result c.put_field-after_step.new.job =
    put_two (map a.one ∷ []) (step_bytes a.one.step) (put_byte a.job.now a.at (map a.one))
    (rw c.map_byte.ensures at c.put_field-after_step.ensures) in
    let q : PutAt a.job.now a.at (up_to_length a.one) c.put_field-after_length.result c.put_field-after_length.new.job =
    put_two (up_to_step a.one) (length_bytes a.one.length) p c.put_field-after_length.ensures in
    omega (arith, size a.one, q.next-is, length-append (up_to_step a.one) (length_bytes a.one.length), put-length q)

pub returns : goal.returns
returns c =
    let a = c.args in
    let p : PutAt a.job.now a.at (up_to_step a.one) c.put_field-after_step.result c.put_field-after_step.new.job =
    put_two (map a.one ∷ []) (step_bytes a.one.step) (put_byte a.job.now a.at (map a.one))
    (rw c.map_byte.ensures at c.put_field-after_step.ensures) in
    let q : PutAt a.job.now a.at (up_to_length a.one) c.put_field-after_length.result c.put_field-after_length.new.job =
    put_two (up_to_step a.one) (length_bytes a.one.length) p c.put_field-after_length.ensures in
    rw (← record-joined a.one.step a.one.length a.one.weight)
    (put_two (up_to_length a.one) (weight_bytes a.one.weight) q c.put_field.ensures)
