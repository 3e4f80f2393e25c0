-- `job::reader::read` meets its contract: each return stands at the first check that is not passed, and the lists are filled last.
use mathlib.Core.Path.{◌≡◌, refl, sym, ◌∙◌, ap}
use Prim.Native.Nat.{min}
use lib.ListN.{length}
use Rattle.geometry.specs.Strip.{strip}
use Rattle.job.specs.Calls.{shortest}
use Rattle.job.specs.inner.Step.{marks_behind}
use Rattle.job.proofs.Outcomes.{verdict-refused}
use Rattle.job.proofs.ReadContract.{header_refused, lists-short, records-left, refused-read, accepted-read}
use Rattle.job.proofs.reader.read.Goals as goal

pub returns-in_err-header : goal.returns-in_err-header
returns-in_err-header c =
    let lent = strip c.args.places.now c.args.lengths.now c.args.weights.now in
    refused-read c.args.job.now lent _ _ c.from_residual.ensures.1 (header_refused lent c.args.job.now _ (sym c.in_err-header.ensures.header))

pub returns-in_err-check : goal.returns-in_err-check
returns-in_err-check c =
    let lent = strip c.args.places.now c.args.lengths.now c.args.weights.now in
    let short : c.min-shortest.result ≡ shortest lent = c.min-shortest.ensures ∙ ap (min (length c.args.places.now)) c.min.ensures in
    refused-read c.args.job.now lent _ _ c.from_residual-in_err-check.ensures.1
    (lists-short lent c.args.job.now _ _ (sym c.in_ok-header.ensures.header) _ (rw (← short) c.in_err-check.ensures))

pub returns-in_err-check_records : goal.returns-in_err-check_records
returns-in_err-check_records c =
    let lent = strip c.args.places.now c.args.lengths.now c.args.weights.now in
    let short : c.min-shortest.result ≡ shortest lent = c.min-shortest.ensures ∙ ap (min (length c.args.places.now)) c.min.ensures in
    let left = records-left lent c.args.job.now _ _ (sym c.in_ok-header.ensures.header) (rw (← short) c.in_ok-check.ensures) in
    refused-read c.args.job.now lent _ _ c.from_residual-in_err-check_records.ensures.1
    (left
    ∙ rw (← c.in_ok-header.ensures.behind)
    (verdict-refused (marks_behind c.in_ok-header.header c.in_ok-header.records.now) _ c.in_err-check_records.ensures))

pub returns : goal.returns
returns c =
    let lent = strip c.args.places.now c.args.lengths.now c.args.weights.now in
    let short : c.min-shortest.result ≡ shortest lent = c.min-shortest.ensures ∙ ap (min (length c.args.places.now)) c.min.ensures in
    let left = records-left lent c.args.job.now _ _ (sym c.in_ok-header.ensures.header) (rw (← short) c.in_ok-check.ensures) in
    accepted-read c.args.job.now lent _ _ _ _ (left ∙ rw (← c.in_ok-header.ensures.behind) refl) (sym c.in_ok-check_records.ensures) c.fill.ensures
