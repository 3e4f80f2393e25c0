-- `full::table::fill` meets its contract: after each turn the rows from the current mark on are right, and `kept` is the current mark's.
use mathlib.Core.Path.{refl, sym, ◌∙◌}
use Prim.Native.Nat.{◌-◌}
use native.Mathlib.Omega.{arith}
use Rattle.full.specs.inner.Row.{count_of}
use Rattle.full.proofs.Filling.{unbounded-held, filling-last, filling-more, filling-stops, filling-done}
use Rattle.full.proofs.table.fill.Goals as goal

pub invariant_of-kept : goal.invariant_of-kept
unfolding count_of
invariant_of-kept c = record { held = ∣ unbounded-held ∣₁; counted = refl }

pub loop-i-init : goal.loop-i-init
loop-i-init c =
    let filling = filling-last _ _ _ c.args.marks.checked _ c.requires _ _ (omega (arith, c.in-Some.ensures)) c.store.ensures in
    (filling, c.at-next.ensures.place, c.at-next.ensures.label)

pub returns-then-kept-eq0 : goal.returns-then-kept-eq0
returns-then-kept-eq0 c =
    let f = c.loop-i.invariant in
    let kept = rw (c.at-mark.ensures.place, c.at-mark.ensures.label, c.at-mark.ensures.gap, f.1, f.2) at c.kept_before-kept.ensures in
    filling-stops _ _ _ c.args.marks.checked _ c.requires _ _ _ f.0 c.kept_before-kept.result.reaches (c.loop-i.i - 1) (omega arith) kept
    (sym c.kept_before-kept.result.counted ∙ omega arith)

pub loop-i-preserved : goal.loop-i-preserved
loop-i-preserved c =
    let f = c.loop-i.invariant in
    let kept = rw (c.at-mark.ensures.place, c.at-mark.ensures.label, c.at-mark.ensures.gap, f.1, f.2) at c.kept_before-kept.ensures in (
      filling-more _ _ _ c.args.marks.checked _ c.requires _ _ _ f.0 _ (c.loop-i.i - 1) (omega arith) kept _ c.store-in-loop-i.ensures,
      c.at-mark.ensures.place,
      c.at-mark.ensures.label,
    )

pub returns : goal.returns
returns c =
    filling-done _ _ _ c.args.marks.checked _ c.requires _ _ _ c.loop-i.invariant.0 (omega arith) _ c.loop-i.kept.counted
