-- The step is the difference of the dots, and the mark before has the smaller one.
use mathlib.Core.Path.{◌≡◌, ◌∙◌, ap}
use mathlib.Core.List.{List}
use Prim.Native.Nat.{ℕ, suc, ◌-◌, ◌<◌}
use native.Mathlib.Omega.{arith}
use lib.IntN.{ℤ, pos}
use lib.ListN.{length, get_or}
use Rattle.geometry.specs.Dot.{dot}
use Rattle.geometry.specs.Strip.{strip, most_marks}
use Rattle.geometry.proofs.Dots.{fetched}
use Rattle.geometry.proofs.Accepted.{Accepted, entry-accepted}
use Rattle.job.specs.inner.Put.{Writable}
use Rattle.job.proofs.RisingPlaces.{rising-at}
use Rattle.job.proofs.marks.Marks.step_at.Goals as goal

rises : (ps : List ℤ) (ls ws : List ℕ) (i : ℕ) → Writable (strip ps ls ws) → 0 < i → i < length ps
    → dot (get_or ps (i - 1) (pos 0)) < dot (get_or ps i (pos 0))
rises ps ls ws i w h k =
    let good : Accepted most_marks (strip ps ls ws) = entry-accepted most_marks _ w in
    let next : suc (i - 1) ≡ i = omega arith in
    rw next at (rising-at ps (i - 1) good.places-good good.places-rise (omega arith))

pub overflow_sub-result : goal.overflow_sub-result
overflow_sub-result c =
    let a = c.args in
    let s = a.self.strip in
    let ps = s.places.now in
    let here = c.dot_of.ensures ∙ ap dot (fetched (get_or ps a.i (pos 0)) (omega arith)) in
    let before = c.dot_of-2.ensures ∙ ap dot (fetched (get_or ps (a.i - 1) (pos 0)) (omega arith)) in
    omega (arith, here, before, rises ps s.lengths.now s.weights.now a.i a.self.good (omega arith) c.requires)
