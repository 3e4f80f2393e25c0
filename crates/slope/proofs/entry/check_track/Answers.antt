-- `slope::entry::check_track` meets its contract: the first pair of checks that refuses decides, and the last is made of marks that rise.
use mathlib.Core.Path.{refl, sym, ◌∙◌}
use Rattle.geometry.proofs.Verdicts.{handed-on}
use Rattle.slope.specs.Track.{lists_of}
use Rattle.slope.proofs.Checks.{in-turn, marks-checked}
use Rattle.slope.proofs.entry.check_track.Goals as goal

pub returns-in_err-check_lists : goal.returns-in_err-check_lists
returns-in_err-check_lists c =
    handed-on _ _ c.from_residual.ensures.1
    ∙ sym (in-turn (lists_of c.args.track) c.args.side c.args.lent (sym c.in_err-check_lists.ensures) refl refl)

pub returns-in_err-check_marks : goal.returns-in_err-check_marks
returns-in_err-check_marks c =
    handed-on _ _ c.from_residual-in_err-check_marks.ensures.1
    ∙ sym (in-turn (lists_of c.args.track) c.args.side c.args.lent (sym c.in_ok-check_lists.ensures) (sym c.in_err-check_marks.ensures) refl)

pub check_last-requires : goal.check_last-requires
check_last-requires c = marks-checked (lists_of c.args.track) c.args.side (sym c.in_ok-check_lists.ensures) (sym c.in_ok-check_marks.ensures)

pub returns : goal.returns
returns c =
    sym (in-turn (lists_of c.args.track) c.args.side c.args.lent (sym c.in_ok-check_lists.ensures) (sym c.in_ok-check_marks.ensures)
    (sym c.check_last.ensures))
