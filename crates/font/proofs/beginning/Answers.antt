-- `font::beginning` meets its contract: 13 decides, and where it is passed the bytes that have room are counted.
use Rattle.geometry.specs.declared.refusal.Refusal.TheVariants.{StrayByte}
use Rattle.geometry.proofs.Verdicts.{one-made}
use Rattle.font.specs.Calls.{beginning_verdict}
use Rattle.font.proofs.Contract.{not-begun, begun}
use Rattle.font.proofs.beginning.Goals as goal

pub returns-in_err-check : goal.returns-in_err-check
unfolding beginning_verdict
returns-in_err-check c =
    not-begun c.args.text.now _ _ c.from_residual.ensures.1 (one-made StrayByte c.in_err-check.ensures c.all_in_font.ensures)

pub returns : goal.returns
unfolding beginning_verdict
returns c = begun c.args.text.now c.longest_beginning.ensures (one-made StrayByte c.in_ok-check.ensures c.all_in_font.ensures)
