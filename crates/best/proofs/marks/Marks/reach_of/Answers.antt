-- `Marks::reach_of` meets its contract: the two tests tell no label, a leftward and a rightward one apart.
use native.Mathlib.Omega.{arith}
use Rattle.best.specs.inner.Handed.{strip_of}
use Rattle.best.proofs.NamedReaches.{reach-of-none, reach-of-left, reach-of-right}
use Rattle.best.proofs.marks.Marks.reach_of.Goals as goal
use Rattle.best.proofs.marks.Marks.reach_of.Goals.{then-name-eq0, else-name-eq0}

pub returns-then-name-lt2 : goal.returns-then-name-lt2
returns-then-name-lt2 c = reach-of-none _ _ _ c.if-name-lt2.true

pub returns : goal.returns
returns c =
    let marks = c.args.self in
    let s = strip_of marks in
    let left = reach-of-left marks.gap s c.args.name c.if-name-lt2.false in
    let right = reach-of-right marks.gap s c.args.name c.if-name-lt2.false in
    elim c.if-name-eq0.branch [
      | then-name-eq0 w ↦ omega (arith, w.end-is, c.place_at-place.ensures, left w.if-name-eq0.true)
      | else-name-eq0 w ↦ omega (arith, w.end-is, c.place_at-place.ensures, right w.if-name-eq0.false)
    ]
