-- `job::writer::write` meets its contract: each return stands at the first check that is not passed, and the bytes are put last.
use mathlib.Core.Path.{◌≡◌, sym, ◌∙◌, ap}
use Prim.Native.Nat.{◌+◌, ◌≤◌}
use native.Mathlib.Omega.{arith}
use lib.ListN.{length}
use lib.Seq.{length-sets}
use Rattle.geometry.specs.Strip.{lists_of}
use Rattle.job.specs.Format.{header_length}
use Rattle.job.specs.Encode.{header_bytes, records_of}
use Rattle.job.specs.inner.Put.{Writable}
use Rattle.job.proofs.Outcomes.{check-holds}
use Rattle.job.proofs.RecordsToWrite.{encode-size}
use Rattle.job.proofs.WriteContract.{entry-refused, job-too-long, refused-write, accepted-write, job-stores}
use Rattle.job.proofs.writer.write.Goals as goal

pub returns-in_err-check_strip : goal.returns-in_err-check_strip
returns-in_err-check_strip c =
    let marks = lists_of c.args.strip in
    refused-write marks c.args.job.now _ _ c.from_residual.ensures.1 (entry-refused (length c.args.job.now) marks _ c.in_err-check_strip.ensures)

pub returns-in_err-check : goal.returns-in_err-check
returns-in_err-check c =
    let marks = lists_of c.args.strip in
    refused-write marks c.args.job.now _ _ c.from_residual-in_err-check.ensures.1
    (job-too-long (length c.args.job.now) marks _ (sym c.in_ok-check_strip.ensures) (rw (← c.job_length-total.ensures) c.in_err-check.ensures))

pub put_header-requires : goal.put_header-requires
put_header-requires c =
    let marks = lists_of c.args.strip in
    let good : Writable marks = sym c.in_ok-check_strip.ensures in
    let fits : c.job_length-total.result ≤ length c.args.job.now = check-holds _ _ _ c.in_ok-check.ensures in
    let size : c.job_length-total.result ≡ header_length + length (records_of marks) = c.job_length-total.ensures ∙ encode-size marks in
    omega arith

pub put_records-requires : goal.put_records-requires
put_records-requires c =
    let marks = lists_of c.args.strip in
    let good : Writable marks = sym c.in_ok-check_strip.ensures in
    let fits : c.job_length-total.result ≤ length c.args.job.now = check-holds _ _ _ c.in_ok-check.ensures in
    let size : c.job_length-total.result ≡ header_length + length (records_of marks) = c.job_length-total.ensures ∙ encode-size marks in
    let as_long : length c.put_header.new.job ≡ length c.args.job.now =
    ap length c.put_header.ensures ∙ length-sets c.args.job.now 0 (header_bytes c.args.strip.places.now) in
    omega arith

pub returns : goal.returns
returns c =
    let marks = lists_of c.args.strip in
    let good : Writable marks = sym c.in_ok-check_strip.ensures in
    accepted-write marks c.args.job.now _ c.job_length-total.result good c.job_length-total.ensures (check-holds _ _ _ c.in_ok-check.ensures)
    (job-stores marks c.args.job.now c.put_header.new.job _ c.put_header.ensures c.put_records.ensures)
