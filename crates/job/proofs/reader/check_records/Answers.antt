-- `job::reader::check_records` meets its contract: the verdict on all records is that on the records that are left.
use mathlib.Core.Path.{sym, ◌∙◌, ap}
use Rattle.geometry.proofs.Dots.{back}
use Rattle.geometry.proofs.Verdicts.{handed-on}
use Rattle.job.specs.Outcome.{verdict_of}
use Rattle.job.proofs.RecordsLeft.{with-verdict, records-over, turn-refused, turn-next}
use Rattle.job.proofs.reader.check_records.Goals as goal

pub returns-in_err-mark : goal.returns-in_err-mark
returns-in_err-mark c =
    handed-on _ _ c.from_residual.ensures.1
    ∙ sym (c.loop-i.invariant ∙ ap verdict_of (turn-refused _ _ _ _ c.loop-i-test.true _ (sym c.in_err-mark.ensures.record_is)))

pub loop-i-preserved : goal.loop-i-preserved
loop-i-preserved c =
    rw (back c.in_ok-mark.ensures.held)
    (c.loop-i.invariant ∙ ap verdict_of (turn-next _ _ _ _ c.loop-i-test.true _ _ (sym c.in_ok-mark.ensures.record_is)) ∙ with-verdict _ _)

pub returns : goal.returns
returns c = c.check.ensures ∙ rw c.is_empty.ensures (sym (c.loop-i.invariant ∙ records-over _ _ _ _ c.loop-i-test.false))
