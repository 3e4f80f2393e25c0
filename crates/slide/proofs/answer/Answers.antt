-- The first cell of the table decides, and the walk or nothing follows.
use mathlib.Core.Path.{sym, ◌∙◌}
use mathlib.Core.Bool.{true≢false}
use Prim.Native.Nat.{◌≤◌}
use lib.ListN.{length}
use native.Mathlib.Omega.{arith}
use Rattle.geometry.specs.Refusal.{verdict_of}
use Rattle.geometry.proofs.Lent.{cleared-named}
use Rattle.slide.specs.Slide.{slide_lent, work_named}
use Rattle.slide.proofs.FirstCell.{walk-ready, answered}
use Rattle.slide.proofs.answer.Goals.{then-fits, else-fits}
use Rattle.slide.proofs.answer.Goals as goal

pub walk-requires : goal.walk-requires
walk-requires c =
    walk-ready _ _ _ (slide_lent c.args.sides.now c.args.edges.now c.args.work.now) _ c.args.marks.checked c.requires c.fill.ensures
    _ c.fits-fits.ensures c.if-fits.true

pub returns : goal.returns
returns c =
    let exit = slide_lent c.if-fits.sides c.if-fits.edges c.clear.new.work in
    let long : work_named ≤ length c.fill.new.work = omega (arith, c.requires.work-long, c.fill.auto.work) in
    answered _ _ _ (slide_lent c.args.sides.now c.args.edges.now c.args.work.now) _ c.args.marks.checked c.requires c.fill.ensures
    _ c.fits-fits.ensures exit (verdict_of c.check.result) c.check.ensures
    (λ fits. elim c.if-fits.branch [
      | then-fits w ↦ record { sides = w.sides-is ∙ w.walk.ensures.sides; edges = w.edges-is ∙ w.walk.ensures.edges }
      | else-fits w ↦ absurd (true≢false (sym fits ∙ w.if-fits.false))
    ])
    (λ misses. elim c.if-fits.branch [
      | then-fits w ↦ absurd (true≢false (sym w.if-fits.true ∙ misses))
      | else-fits w ↦ record { sides-unchanged = w.sides-is; edges-unchanged = w.edges-is }
    ])
    (cleared-named work_named 0 _ _ c.clear.ensures long)
