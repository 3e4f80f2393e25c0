-- What is written so far is the beginning of the answer, and the walk of the rest is what is left.
use mathlib.Core.Path.{◌≡◌, ◌∙◌, ap}
use Prim.Native.Nat.{ℕ, ◌*◌, ◌<◌}
use native.Mathlib.Omega.{arith}
use lib.IntN.{ℤ}
use lib.ListN.{length}
use mir.Syntax.{w16}
use mir.Val.{to_z, of_z}
use Rattle.std.proofs.lemmas.Slice.{between_to_end}
use Rattle.geometry.specs.inner.Place.{place_of_lem}
use Rattle.geometry.proofs.Dots.{fetched}
use Rattle.geometry.proofs.Places.{place-mag}
use Rattle.slide.specs.inner.Handed.{mark_of}
use Rattle.slide.specs.inner.Table.{row_cells}
use Rattle.slide.proofs.WalkedSoFar.{walked_none, walked_all, step-ready, walked_more}
use Rattle.slide.proofs.walk.walk.Goals as goal

-- the edge that is stored
edge-written : (edge : ℕ) (z : ℤ) → z ≡ place_of_lem edge → edge < 65536 → to_z w16 (of_z w16 z) ≡ place_of_lem edge
edge-written edge z is small = ap (λ y. to_z w16 (of_z w16 y)) is ∙ fetched (place_of_lem edge) (place-mag edge small)

pub loop-i-init : goal.loop-i-init
loop-i-init c = walked_none _ _ _ _ _ _ (omega arith) c.requires.fits

pub place_label-label-requires : goal.place_label-label-requires
place_label-label-requires c =
    let row = between_to_end c.args.work.now (c.loop-i.i * row_cells) (length c.args.work.now) (omega arith) in
    step-ready _ _ _ c.args.marks.checked c.args.work.now _ _ _ _ _ _ c.loop-i.i c.requires.table c.loop-i.invariant (omega arith)
    (mark_of c.at.result) _ c.at.ensures row

pub loop-i-preserved : goal.loop-i-preserved
loop-i-preserved c =
    let walked = c.loop-i.invariant in
    let row = between_to_end c.args.work.now (c.loop-i.i * row_cells) (length c.args.work.now) (omega arith) in
    rw (edge-written c.place_label-label.result.edge c.place_of.result c.place_of.ensures (omega arith), c.from.ensures)
    (walked_more _ _ _ c.args.marks.checked c.args.work.now _ _ _ _ _ _ c.loop-i.i c.requires.table walked (omega arith)
    (mark_of c.at.result) _ c.at.ensures row _ _ _ _ c.place_label-label.ensures (omega (arith, c.requires.sides-long, walked.sides-so-far.same_length))
    (omega (arith, c.requires.edges-long, walked.edges-so-far.same_length)))

pub returns : goal.returns
returns c =
    let all = walked_all _ _ _ c.args.marks.checked _ _ _ _ _ _ _ c.loop-i.invariant (omega arith) in
    record { sides = all.0; edges = all.1 }
