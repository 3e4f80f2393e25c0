-- `geometry::entry::check_pass` meets its contract: the checks on entry come first, and where they are passed those of lent memory decide.
use mathlib.Core.Path.{◌≡◌, refl, sym, ◌∙◌}
use mathlib.Core.Bool.{Bool, true}
use Prim.Native.Nat.{ℕ, ◌≤◌}
use native.Mathlib.Omega.{arith}
use lib.ListN.{length}
use borrow.Author.Tests.{le-leb, leb-true}
use Rattle.geometry.specs.Refusal.{Verdict, accepted, after_check, first_failure, GapTooWide, ListTooShort, WorkTooShort}
use Rattle.geometry.specs.Strip.{lists_of}
use Rattle.geometry.specs.Pass.{most_gap, gap_checks}
use Rattle.geometry.proofs.Verdicts.{handed-on, count-made, pass-in-turn}
use Rattle.geometry.proofs.entry.check_pass.Goals as goal

-- the verdict on entry, from that of the gap
abbrev twelve : (gap : ℕ) {t : Bool} {v : Verdict} → v ≡ after_check t GapTooWide accepted
    → (t ≡ true → gap ≤ most_gap) × (gap ≤ most_gap → t ≡ true)
    → v ≡ first_failure (gap_checks gap)
twelve gap is exactly = sym (count-made gap most_gap GapTooWide is exactly)

pub returns-in_err-check_marks : goal.returns-in_err-check_marks
returns-in_err-check_marks c =
    let a = c.args in
    let entered = sym (c.in_err-check_marks.ensures (gap_checks a.gap) (twelve a.gap c.check.ensures (omega (arith, leb-true, le-leb)))) in
    handed-on _ _ c.from_residual.ensures.1 ∙ sym (pass-in-turn a.limit (lists_of a.strip) a.gap a.shortest a.named a.lent entered refl refl)

pub returns-in_err-check : goal.returns-in_err-check
returns-in_err-check c =
    let a = c.args in
    let entered = sym (c.in_ok-check_marks.ensures (gap_checks a.gap) (twelve a.gap c.check.ensures (omega (arith, leb-true, le-leb)))) in
    let nine = count-made (length a.strip.places.now) a.shortest ListTooShort c.in_err-check.ensures (omega (arith, leb-true, le-leb)) in
    handed-on _ _ c.from_residual-in_err-check.ensures.1
    ∙ sym (pass-in-turn a.limit (lists_of a.strip) a.gap a.shortest a.named a.lent entered nine refl)

pub returns : goal.returns
returns c =
    let a = c.args in
    let entered = sym (c.in_ok-check_marks.ensures (gap_checks a.gap) (twelve a.gap c.check.ensures (omega (arith, leb-true, le-leb)))) in
    let nine = count-made (length a.strip.places.now) a.shortest ListTooShort c.in_ok-check.ensures (omega (arith, leb-true, le-leb)) in
    let ten = count-made a.named a.lent WorkTooShort c.check-3.ensures (omega (arith, leb-true, le-leb)) in
    sym (pass-in-turn a.limit (lists_of a.strip) a.gap a.shortest a.named a.lent entered nine ten)
