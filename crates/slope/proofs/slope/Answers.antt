-- `slope::slope` meets its contract: a refusal by the checks stands, and past them the table decides between 11 and a walk.
use mathlib.Core.Path.{◌≡◌, sym, ◌∙◌}
use mathlib.Core.Bool.{true, false}
use lib.ListN.{length}
use Rattle.std.proofs.Common.{rules}
use Rattle.slope.specs.Track.{lists_of}
use Rattle.slope.proofs.Checks.{passed}
use Rattle.slope.proofs.Contract.{not-placed, placed}
use Rattle.slope.proofs.slope.Goals as goal

pub invariant_of-marks : goal.invariant_of-marks
invariant_of-marks c =
    record { checked = (passed (lists_of c.args.track) c.args.side (length c.args.positions.now) (sym c.in_ok-check_track.ensures)).checked }

pub returns-then-not-any : goal.returns-then-not-any
returns-then-not-any c =
    let some = c.any.ensures _ (c.starts-first.ensures _ c.fill-row.ensures.first_row) in
    let fails : c.any.result ≡ false = search rules in
    not-placed (lists_of c.args.track) c.args.side c.args.positions.now (sym c.in_ok-check_track.ensures) (sym some ∙ fails)

pub walk-requires : goal.walk-requires
walk-requires c =
    let first_is = c.starts-first.ensures _ c.fill-row.ensures.first_row in
    let passes : c.any.result ≡ true = search rules in
    record {
      rows = c.fill-row.ensures.rows;
      first_is = first_is;
      some = sym (c.any.ensures _ first_is) ∙ passes;
      long = (passed (lists_of c.args.track) c.args.side (length c.args.positions.now) (sym c.in_ok-check_track.ensures)).long;
    }

pub returns : goal.returns
returns c = placed (lists_of c.args.track) c.args.side c.args.positions.now (sym c.in_ok-check_track.ensures) c.walk.new.positions c.walk.ensures
