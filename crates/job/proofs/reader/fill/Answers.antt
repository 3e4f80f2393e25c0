-- `job::reader::fill` meets its contract: what is stored and what is still to be stored are together the marks of all records.
use mathlib.Core.Path.{◌≡◌, sym, ◌∙◌, ap}
use Rattle.geometry.specs.Strip.{strip}
use Rattle.geometry.specs.Refusal.{refused, accepted, number_of}
use Rattle.geometry.proofs.Dots.{back}
use Rattle.geometry.proofs.Verdicts.{refusal-positive}
use Rattle.job.specs.Outcome.{verdict_of}
use Rattle.job.proofs.RecordsLeft.{turn-refused, turn-next}
use Rattle.job.proofs.StoredMarks.{storing-next}
use Rattle.job.proofs.FilledMarks.{next-accepted, next-mark, none_left, filled-all}
use Rattle.job.proofs.reader.fill.Goals as goal

-- no record is refused, since all are accepted
pub returns-in_default : goal.returns-in_default
returns-in_default c =
    let no : refused c.in_default.field-0 ≡ accepted =
    sym (ap verdict_of (turn-refused _ _ _ _ c.loop-i-test.true _ (sym c.in_default.ensures.record_is))) ∙ c.loop-i.invariant.all-good in
    absurd (refusal-positive c.in_default.field-0 (ap number_of no))

pub loop-i-preserved : goal.loop-i-preserved
loop-i-preserved c =
    let l = c.loop-i in
    let all-good = l.invariant.all-good in
    let next = turn-next _ _ _ _ c.loop-i-test.true _ _ (sym c.in-Ok.ensures.record_is) in
    rw (back c.in-Ok.ensures.held)
    (record {
      all-good = next-accepted _ _ _ next all-good;
      storing = storing-next _ _ l.i (strip c.args.places.now c.args.lengths.now c.args.weights.now) (strip l.places l.lengths l.weights) _ _
          (next-mark _ _ _ next all-good) l.invariant.storing;
    })

pub returns : goal.returns
returns c =
    let l = c.loop-i in
    filled-all _ _ _ _ _ l.i (strip c.args.places.now c.args.lengths.now c.args.weights.now) (strip l.places l.lengths l.weights)
    c.requires.all-good (none_left _ _ _ _ c.loop-i-test.false) c.requires.room l.invariant.storing
