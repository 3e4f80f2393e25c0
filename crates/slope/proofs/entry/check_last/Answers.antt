-- `slope::entry::check_last` meets its contract: each check made stands for that of its number.
use mathlib.Core.Path.{sym, ◌∙◌, ap}
use native.Mathlib.Omega.{arith}
use lib.ListN.{length}
use borrow.Author.Tests.{le-leb, leb-true}
use Rattle.geometry.specs.Refusal.{verdict_of}
use Rattle.geometry.specs.declared.refusal.Refusal.TheVariants.{NotOnOneLine, ListTooShort}
use Rattle.geometry.proofs.Verdicts.{and-verdict, one-made, count-made}
use Rattle.slope.proofs.Checks.{two-made}
use Rattle.slope.proofs.entry.check_last.Goals as goal

pub returns : goal.returns
returns c =
    let eighteen = one-made NotOnOneLine c.check-straight.ensures c.on_one_line.ensures in
    let nine = count-made (length c.args.track.xs.now) c.args.lent ListTooShort c.check.ensures (omega (arith, leb-true, le-leb)) in
    ap verdict_of c.and.ensures ∙ and-verdict _ _ ∙ sym (two-made _ _ eighteen nine)
