-- `geometry::entry::check_marks` meets its contract: each check made stands for those of its number, and the first that refuses decides.
use mathlib.Core.Path.{refl, sym, ◌∙◌, ap}
use native.Mathlib.Omega.{arith}
use lib.ListN.{length}
use borrow.Author.Tests.{le-leb, leb-true}
use Rattle.geometry.specs.Refusal.{verdict_of, ListsUnequal, TooManyMarks, BadMark}
use Rattle.geometry.specs.Strip.{lists_of, most_marks}
use Rattle.geometry.proofs.Verdicts.{handed-on, and-verdict, one-made, count-made, entry-in-turn}
use Rattle.geometry.proofs.entry.check_marks.Goals as goal

pub returns-in_err-and : goal.returns-in_err-and
returns-in_err-and c checks own =
    let six = one-made ListsUnequal c.check.ensures c.same_lengths.ensures in
    let early = sym (ap verdict_of c.in_err-and.ensures ∙ and-verdict _ _) in
    handed-on _ _ c.from_residual.ensures.1 ∙ sym (entry-in-turn checks c.args.limit (lists_of c.args.strip) six (sym own) early refl refl refl)

pub returns-in_err-check : goal.returns-in_err-check
returns-in_err-check c checks own =
    let s = lists_of c.args.strip in
    let six = one-made ListsUnequal c.check.ensures c.same_lengths.ensures in
    let seven = count-made (length s.places) most_marks TooManyMarks c.in_err-check.ensures (omega (arith, leb-true, le-leb)) in
    let early = sym (ap verdict_of c.in_ok-and.ensures ∙ and-verdict _ _) in
    handed-on _ _ c.from_residual-in_err-check.ensures.1 ∙ sym (entry-in-turn checks c.args.limit s six (sym own) early seven refl refl)

pub returns : goal.returns
returns c checks own =
    let s = lists_of c.args.strip in
    let six = one-made ListsUnequal c.check.ensures c.same_lengths.ensures in
    let seven = count-made (length s.places) most_marks TooManyMarks c.in_ok-check.ensures (omega (arith, leb-true, le-leb)) in
    let eight = one-made BadMark c.check-values.ensures c.good_marks.ensures in
    let last = count-made (length s.places) c.args.limit TooManyMarks c.check-3.ensures (omega (arith, leb-true, le-leb, c.ranges)) in
    let early = sym (ap verdict_of c.in_ok-and.ensures ∙ and-verdict _ _) in
    ap verdict_of c.and-2.ensures ∙ and-verdict _ _ ∙ sym (entry-in-turn checks c.args.limit s six (sym own) early seven eight last)
