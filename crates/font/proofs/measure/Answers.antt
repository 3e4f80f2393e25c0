-- `font::measure` meets its contract: 13 and the count come first, and where they are passed the width decides.
use mathlib.Core.Path.{refl, ◌∙◌}
use native.Mathlib.Omega.{arith}
use borrow.Author.Tests.{le-leb, leb-true}
use Rattle.geometry.specs.Mark.{most_length}
use Rattle.geometry.specs.declared.refusal.Refusal.TheVariants.{StrayByte, BadMark}
use Rattle.geometry.proofs.Split.{is-leb}
use Rattle.geometry.proofs.Verdicts.{one-made}
use Rattle.font.specs.Text.{text_width}
use Rattle.font.proofs.Contract.{measure-in-turn, range-is, not-measured, measured}
use Rattle.font.proofs.measure.Goals as goal

pub returns-in_err-check : goal.returns-in_err-check
returns-in_err-check c =
    let text = c.args.text.now in
    let letters = one-made StrayByte c.in_err-check.ensures c.all_in_font.ensures in
    not-measured text _ _ c.from_residual.ensures.1 (measure-in-turn text letters refl refl)

pub returns-in_err-check-2 : goal.returns-in_err-check-2
returns-in_err-check-2 c =
    let text = c.args.text.now in
    let letters = one-made StrayByte c.in_ok-check.ensures c.all_in_font.ensures in
    let count = one-made BadMark c.in_err-check-2.ensures c.count_fits.ensures in
    not-measured text _ _ c.from_residual-in_err-check-2.ensures.1 (measure-in-turn text letters count refl)

pub returns-in_err-check-3 : goal.returns-in_err-check-3
returns-in_err-check-3 c =
    let text = c.args.text.now in
    let letters = one-made StrayByte c.in_ok-check.ensures c.all_in_font.ensures in
    let count = one-made BadMark c.in_ok-check-2.ensures c.count_fits.ensures in
    let range = range-is text count in
    let width =
    one-made BadMark c.in_err-check-3.ensures
    (is-leb (text_width text) most_length (omega (arith, leb-true, le-leb, c.width-width.ensures)) ∙ range) in
    not-measured text _ _ c.from_residual-in_err-check-3.ensures.1 (measure-in-turn text letters count width)

pub returns : goal.returns
returns c =
    let text = c.args.text.now in
    let letters = one-made StrayByte c.in_ok-check.ensures c.all_in_font.ensures in
    let count = one-made BadMark c.in_ok-check-2.ensures c.count_fits.ensures in
    let range = range-is text count in
    let width =
    one-made BadMark c.in_ok-check-3.ensures
    (is-leb (text_width text) most_length (omega (arith, leb-true, le-leb, c.width-width.ensures)) ∙ range) in
    measured text c.width-width.ensures (measure-in-turn text letters count width)
