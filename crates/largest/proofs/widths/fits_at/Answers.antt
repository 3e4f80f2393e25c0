-- `largest::widths::fits_at` meets its contract: by the full pass's contract of the strip at the width, or with nothing called.
use mathlib.Core.Path.{refl, sym, ◌∙◌}
use Rattle.geometry.specs.Strip.{lists_of}
use Rattle.full.specs.Full.{full_lent}
use Rattle.geometry.proofs.Verdicts.{ok-is-zero}
use Rattle.largest.proofs.Scaling.{lengths-used}
use Rattle.largest.proofs.FullAtWidth.{ready-to-scale, tried, passed_over}
use Rattle.largest.proofs.widths.fits_at.Goals as goal

pub returns-then-not-within : goal.returns-then-not-within
returns-then-not-within c =
    let s = lists_of c.args.strip in
    let lent = full_lent c.args.positions.now c.args.work.now in
    let says = c.within.ensures _ _ c.requires.most-is refl in
    passed_over s _ _ lent c.requires.checked c.requires.least (sym says ∙ c.if-not-within.true)

pub scale-requires : goal.scale-requires
scale-requires c =
    let s = lists_of c.args.strip in
    let lent = full_lent c.args.positions.now c.args.work.now in
    let says = c.within.ensures _ _ c.requires.most-is refl in
    ready-to-scale s _ _ lent c.requires.checked c.requires.least (sym says ∙ c.if-not-within.false) refl refl

pub returns : goal.returns
returns c =
    let s = lists_of c.args.strip in
    let lent = full_lent c.args.positions.now c.args.work.now in
    let says = c.within.ensures _ _ c.requires.most-is refl in
    let used = lengths-used c.args.strip.lengths.now c.scale.ensures in
    rw (c.is_ok.ensures.value ∙ ok-is-zero c.full.result)
    (tried s _ _ lent c.requires.checked c.requires.least (sym says ∙ c.if-not-within.false) _ used _ _ c.full.ensures)
