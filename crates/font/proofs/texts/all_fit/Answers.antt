-- `font::texts::all_fit` meets its contract: where the texts so far fit, those that are left decide.
use mathlib.Core.Path.{sym, ap, ◌∙◌}
use native.Mathlib.Omega.{arith}
use Rattle.geometry.specs.Mark.{length_in_range_lem}
use Rattle.font.specs.Text.{text_width}
use Rattle.font.proofs.Going.{next-within, behind-readable, left-fails, left-passes, none-left}
use Rattle.font.proofs.texts.all_fit.Goals as goal

pub split_at-requires : goal.split_at-requires
split_at-requires c = next-within _ _ _ c.loop-count.invariant.left c.loop-count-test.true

pub returns-then-not-text_fits : goal.returns-then-not-text_fits
returns-then-not-text_fits c =
    let inv = c.loop-count.invariant in
    let front = c.split_at.ensures.front in
    let fails = ap (λ text. length_in_range_lem (text_width text)) (sym front) ∙ sym c.text_fits.ensures ∙ c.if-not-text_fits.true in
    sym (inv.decide ∙ left-fails _ _ _ inv.left c.loop-count-test.true fails)

pub loop-count-preserved : goal.loop-count-preserved
loop-count-preserved c =
    let inv = c.loop-count.invariant in
    let front = c.split_at.ensures.front in
    let passes = ap (λ text. length_in_range_lem (text_width text)) (sym front) ∙ sym c.text_fits.ensures ∙ c.if-not-text_fits.false in
    rw c.split_at.ensures.back (
    record {
      left = behind-readable _ _ _ inv.left c.loop-count-test.true;
      decide = inv.decide ∙ left-passes _ _ _ inv.left c.loop-count-test.true passes;
    })

pub returns : goal.returns
returns c =
    let inv = c.loop-count.invariant in
    sym (inv.decide ∙ none-left c.loop-count.rest.now c.args.counts.now c.loop-count.count-index (omega arith))
