-- `best::best` meets its contract: the first check that is not passed decides, and else the parts give what it says.
use mathlib.Core.Path.{◌≡◌, refl, sym, ◌∙◌}
use native.Mathlib.Omega.{arith}
use lib.ListN.{length}
use lib.Seq.{length-take-le}
use Rattle.geometry.specs.Strip.{lists_of}
use Rattle.best.proofs.Contract.{passed, accepted-checked, answer-accepted}
use Rattle.best.proofs.best.Goals as goal

pub invariant_of-marks : goal.invariant_of-marks
invariant_of-marks c =
    record { checked = accepted-checked (lists_of c.args.strip) _ _ c.in_ok-check_entry.ensures }

pub slice_bounds-used-end : goal.slice_bounds-used-end
slice_bounds-used-end c =
    omega (arith, (passed (lists_of c.args.strip) _ _ c.in_ok-check_entry.ensures).list-long)

pub slice_bounds-used-end-2 : goal.slice_bounds-used-end-2
slice_bounds-used-end-2 c =
    let p = passed (lists_of c.args.strip) _ _ c.in_ok-check_entry.ensures in
    sym (length-take-le _ c.args.positions.now (omega (arith, p.list-long)))

pub label_marks-sum-requires : goal.label_marks-sum-requires
label_marks-sum-requires c =
    let p = passed (lists_of c.args.strip) _ _ c.in_ok-check_entry.ensures in
    record { one_each = length-take-le _ c.args.positions.now (omega (arith, p.list-long)); roomy = p.work-long }

pub list-count-requires : goal.list-count-requires
list-count-requires c =
    let p = passed (lists_of c.args.strip) _ _ c.in_ok-check_entry.ensures in
    let used : length c.label_marks-sum.new.positions ≡ length c.args.strip.places.now =
    c.label_marks-sum.auto.positions ∙ length-take-le _ c.args.positions.now (omega (arith, p.list-long)) in
    record { one_each = used ∙ p.entered.same-weights; left_out_long = omega (arith, used, p.list-long) }

pub returns : goal.returns
returns c =
    answer-accepted (lists_of c.args.strip) _ _ c.in_ok-check_entry.ensures _ _ _ _
    c.label_marks-sum.ensures refl c.list-count.ensures.listed c.list-count.ensures.counted
