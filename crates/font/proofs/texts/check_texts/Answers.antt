-- `font::texts::check_texts` meets its contract: each check made stands for that of its number, and the first that refuses decides.
use mathlib.Core.Path.{refl, sym, ◌∙◌}
use Rattle.geometry.specs.declared.refusal.Refusal.TheVariants.{ListsUnequal, TooManyMarks, BadMark, ListTooShort, StrayByte}
use Rattle.geometry.proofs.Verdicts.{handed-on, one-made}
use Rattle.font.proofs.Contract.{texts-in-turn}
use Rattle.font.proofs.texts.check_texts.Goals as goal

pub returns-in_err-check : goal.returns-in_err-check
returns-in_err-check c =
    let a = c.args in
    let six = one-made ListsUnequal c.in_err-check.ensures c.counts_add_up.ensures in
    handed-on _ _ c.from_residual.ensures.1 ∙ sym (texts-in-turn a.texts.now a.counts.now a.room six refl refl refl refl refl)

pub returns-in_err-check-2 : goal.returns-in_err-check-2
returns-in_err-check-2 c =
    let a = c.args in
    let six = one-made ListsUnequal c.in_ok-check.ensures c.counts_add_up.ensures in
    let seven = one-made TooManyMarks c.in_err-check-2.ensures refl in
    handed-on _ _ c.from_residual-in_err-check-2.ensures.1 ∙ sym (texts-in-turn a.texts.now a.counts.now a.room six seven refl refl refl refl)

pub returns-in_err-check-3 : goal.returns-in_err-check-3
returns-in_err-check-3 c =
    let a = c.args in
    let six = one-made ListsUnequal c.in_ok-check.ensures c.counts_add_up.ensures in
    let seven = one-made TooManyMarks c.in_ok-check-2.ensures refl in
    let letters = one-made StrayByte c.in_err-check-3.ensures c.all_in_font.ensures in
    handed-on _ _ c.from_residual-in_err-check-3.ensures.1 ∙ sym (texts-in-turn a.texts.now a.counts.now a.room six seven letters refl refl refl)

pub returns-in_err-check-4 : goal.returns-in_err-check-4
returns-in_err-check-4 c =
    let a = c.args in
    let six = one-made ListsUnequal c.in_ok-check.ensures c.counts_add_up.ensures in
    let seven = one-made TooManyMarks c.in_ok-check-2.ensures refl in
    let letters = one-made StrayByte c.in_ok-check-3.ensures c.all_in_font.ensures in
    let few = one-made BadMark c.in_err-check-4.ensures c.counts_fit.ensures in
    handed-on _ _ c.from_residual-in_err-check-4.ensures.1 ∙ sym (texts-in-turn a.texts.now a.counts.now a.room six seven letters few refl refl)

pub returns-in_err-check-5 : goal.returns-in_err-check-5
returns-in_err-check-5 c =
    let a = c.args in
    let six = one-made ListsUnequal c.in_ok-check.ensures c.counts_add_up.ensures in
    let seven = one-made TooManyMarks c.in_ok-check-2.ensures refl in
    let letters = one-made StrayByte c.in_ok-check-3.ensures c.all_in_font.ensures in
    let few = one-made BadMark c.in_ok-check-4.ensures c.counts_fit.ensures in
    let range = one-made BadMark c.in_err-check-5.ensures c.all_fit.ensures in
    handed-on _ _ c.from_residual-in_err-check-5.ensures.1 ∙ sym (texts-in-turn a.texts.now a.counts.now a.room six seven letters few range refl)

pub returns : goal.returns
returns c =
    let a = c.args in
    let six = one-made ListsUnequal c.in_ok-check.ensures c.counts_add_up.ensures in
    let seven = one-made TooManyMarks c.in_ok-check-2.ensures refl in
    let letters = one-made StrayByte c.in_ok-check-3.ensures c.all_in_font.ensures in
    let few = one-made BadMark c.in_ok-check-4.ensures c.counts_fit.ensures in
    let range = one-made BadMark c.in_ok-check-5.ensures c.all_fit.ensures in
    let nine = one-made ListTooShort c.check-6.ensures refl in
    sym (texts-in-turn a.texts.now a.counts.now a.room six seven letters few range nine)
