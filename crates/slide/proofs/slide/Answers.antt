-- A refusal by the checks stands, and else the answer past them. That these were passed is taken from their number, not from how it is tested.
use mathlib.Core.Path.{◌≡◌}
use Rattle.std.proofs.Common.{rules}
use Rattle.geometry.specs.Refusal.{answer_number}
use Rattle.geometry.specs.Strip.{lists_of}
use Rattle.slide.specs.Slide.{slide_lent}
use Rattle.slide.proofs.Contract.{checks-passed, checked, answer-ready, answered-right}
use Rattle.slide.proofs.slide.Goals as goal

pub invariant_of-marks : goal.invariant_of-marks
invariant_of-marks c =
    let lent = slide_lent c.args.sides.now c.args.edges.now c.args.work.now in
    let zero : answer_number c.check_pass.result ≡ 0 = search rules in
    let past = checks-passed (lists_of c.args.strip) c.args.gap lent _ c.check_pass.ensures c.min-shortest.ensures zero in
    record { checked = checked (lists_of c.args.strip) c.args.gap lent past }

pub answer-requires : goal.answer-requires
answer-requires c =
    let lent = slide_lent c.args.sides.now c.args.edges.now c.args.work.now in
    let zero : answer_number c.check_pass.result ≡ 0 = search rules in
    let past = checks-passed (lists_of c.args.strip) c.args.gap lent _ c.check_pass.ensures c.min-shortest.ensures zero in
    answer-ready (lists_of c.args.strip) c.args.gap lent past

pub returns : goal.returns
returns c =
    let lent = slide_lent c.args.sides.now c.args.edges.now c.args.work.now in
    let zero : answer_number c.check_pass.result ≡ 0 = search rules in
    let past = checks-passed (lists_of c.args.strip) c.args.gap lent _ c.check_pass.ensures c.min-shortest.ensures zero in
    answered-right (lists_of c.args.strip) c.args.gap lent past (slide_lent c.answer.new.sides c.answer.new.edges c.answer.new.work) _
    c.answer.ensures
