-- `logger::Logged::in_dots` meets its contract: the constant is 8.
use mathlib.Core.Path.{sym, ap, ◌∙◌}
use lib.Ieee.{binary32, mul}
use Rattle.logger.specs.inner.Dots.{in_dots_lem}
use Rattle.logger.proofs.Eightfold.{eight-is}
use Rattle.logger.proofs.Logged.in_dots.Goals as goal

pub returns-in-Millimetres : goal.returns-in-Millimetres
returns-in-Millimetres c = ap (mul binary32 c.in-Millimetres.millimetres) eight-is ∙ ap in_dots_lem (sym c.in-Millimetres.is)
