-- `logger::in_range` meets its contract: the constants are −30,000 and 30,001.
use mathlib.Core.Path.{sym, ap, ◌∙◌}
use mathlib.Core.Bool.{Bool, ◌&&◌}
use lib.Ieee.{binary32, lt, of_bits}
use Rattle.logger.proofs.Ranges.{beyond_bits, compared}
use Rattle.logger.proofs.in_range.Goals as goal

pub returns-then-dots : goal.returns-then-dots
returns-then-dots c =
    sym (ap (λ (t : Bool). t && lt c.args.dots (of_bits binary32 beyond_bits)) c.if-dots.true) ∙ compared c.args.dots

pub returns-else-dots : goal.returns-else-dots
returns-else-dots c =
    c.if-dots.false
    ∙ sym (ap (λ (t : Bool). t && lt c.args.dots (of_bits binary32 beyond_bits)) c.if-dots.false)
    ∙ compared c.args.dots
