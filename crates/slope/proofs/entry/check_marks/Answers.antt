-- `slope::entry::check_marks` meets its contract: each check made stands for that of its number.
use mathlib.Core.Path.{sym, ◌∙◌, ap}
use native.Mathlib.Omega.{arith}
use lib.ListN.{length}
use borrow.Author.Tests.{le-leb, leb-true}
use Rattle.geometry.specs.Refusal.{verdict_of}
use Rattle.geometry.specs.Strip.{most_short}
use Rattle.geometry.specs.declared.refusal.Refusal.TheVariants.{BadMark, TooManyMarks}
use Rattle.geometry.proofs.Verdicts.{and-verdict, one-made, count-made}
use Rattle.slope.proofs.Checks.{two-made}
use Rattle.slope.proofs.entry.check_marks.Goals as goal

pub returns : goal.returns
returns c =
    let eight = one-made BadMark c.check-good.ensures c.good_values.ensures in
    let seven = count-made (length c.args.track.xs.now) most_short TooManyMarks c.check.ensures (omega (arith, leb-true, le-leb)) in
    ap verdict_of c.and.ensures ∙ and-verdict _ _ ∙ sym (two-made _ _ eight seven)
