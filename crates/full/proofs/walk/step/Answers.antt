-- `full::walk::step` meets its contract: the three tests decide the position, and with it which reach becomes the label's.
use mathlib.Core.Path.{◌≡◌, refl, sym, ◌∙◌, ap}
use mathlib.Core.Bool.{Bool, true, false, cond}
use Prim.Native.Nat.{ℕ, ◌-◌}
use native.Mathlib.Omega.{arith}
use lib.IntN.{ℤ, pos}
use lib.ListN.{get_or}
use Rattle.geometry.specs.Dot.{dot}
use Rattle.geometry.specs.Mark.{Mark}
use Rattle.geometry.specs.Position.{Position}
use Rattle.geometry.specs.inner.Machine.{next_above, next_below}
use Rattle.geometry.proofs.Dots.{fetched}
use Rattle.full.specs.inner.Rest.{first_passed_lem}
use Rattle.full.specs.inner.OneMark.{Formed, Reached, StepReady, Stepped}
use Rattle.full.proofs.EndsHeld.{formed-ends, edge-back, reach-back}
use Rattle.full.proofs.SixteenBits.{next-carried}
use Rattle.full.proofs.walk.step.Goals as goal

module _ (g : ℕ) (a b place : ℤ) (length : ℕ) (near far : ℤ) (own : Reached place length g near far) where
  abbrev marked : ℕ → Mark
  marked weight = record { place = dot place; label_length = length; weight = weight }

  -- the reaches by the tests of positions 2, 3 and 1
  abbrev above_by : Bool → Bool → Bool → ℕ
  above_by two three one = cond two (dot near) (cond three (dot a) (cond one (dot far) (dot a)))

  abbrev below_by : Bool → Bool → Bool → ℕ
  below_by two three one = cond two (dot b) (cond three (dot near) (cond one (dot b) (dot far)))

  -- are those after the position that the tests give
  by_tests : (two three one : Bool) (weight : ℕ)
      → (above_by two three one ≡ next_above g (dot a) (marked weight) (first_passed_lem two three one))
      × (below_by two three one ≡ next_below g (dot b) (marked weight) (first_passed_lem two three one))
  by_tests true three one weight = (own.near-is, refl)
  by_tests false true one weight = (refl, own.near-is)
  by_tests false false true weight = (own.far-is, refl)
  by_tests false false false weight = (refl, own.far-is)

  -- and reaches of the walk
  stepped : (first second third : ℤ) (two three one : Bool) (position : Position) (a' b' : ℤ)
      → Formed place length g → StepReady a b first second third → position ≡ first_passed_lem two three one
      → dot a' ≡ above_by two three one → dot b' ≡ below_by two three one
      → Stepped g a b place length (first_passed_lem two three one) position a' b'
  stepped first second third two three one position a' b' formed ready number up down =
      let next = by_tests two three one in
      let ends = formed-ends place length g 0 formed in
      let held = next-carried g (dot a) (dot b) (marked 0) (first_passed_lem two three one) ends ready.above-held ready.below-held in
      record {
        position-is = number;
        above-is = λ weight. up ∙ (next weight).0;
        below-is = λ weight. down ∙ (next weight).1;
        above-held = rw (up ∙ (next 0).0) held.0;
        below-held = rw (down ∙ (next 0).1) held.1;
      }

pub returns : goal.returns
returns c =
    let own = c.reaches-own.ensures in
    let above-read = fetched c.args.before.above (omega arith) in
    let below-read = fetched c.args.before.below (omega arith) in
    let near-read = reach-back c.reaches-own.result.near own.near-held in
    let far-read = reach-back c.reaches-own.result.far own.far-held in
    let left-read = edge-back c.left_edge-left.result c.left_edge-left.ensures.1 in
    let place-read = fetched c.args.mark.place (omega arith) in
    let left_is : dot c.left_edge-left.result ≡ dot c.args.mark.place - c.args.mark.length =
    omega (arith, ap dot place-read, c.left_edge-left.ensures.0) in
    let first-read = fetched (get_or c.args.left_to_other 0 (pos 0)) (omega arith) in
    let second-read = fetched (get_or c.args.left_to_other 1 (pos 0)) (omega arith) in
    let third-read = fetched (get_or c.args.left_to_other 2 (pos 0)) (omega arith) in
    let two_is = rw (left-read, left_is, above-read, below-read, first-read) at c.leaves_rest-two.ensures in
    let three-is = rw (left-read, left_is, below-read, above-read, second-read) at c.leaves_rest-three.ensures in
    let one-is = rw (above-read, place-read, below-read, third-read) at c.leaves_rest-one.ensures in
    let up = rw (
      fetched c.if_passed-above_rest.result c.if_passed-above_rest.type_inv,
      c.if_passed-above_rest.ensures,
      fetched c.if_passed-above_right.result c.if_passed-above_right.type_inv,
      c.if_passed-above_right.ensures,
      far-read,
      near-read,
      above-read,
    )
    at c.if_passed.ensures in
    let down = rw (
      fetched c.if_passed-below_rest.result c.if_passed-below_rest.type_inv,
      c.if_passed-below_rest.ensures,
      fetched c.if_passed-below_right.result c.if_passed-below_right.type_inv,
      c.if_passed-below_right.ensures,
      far-read,
      near-read,
      below-read,
    )
    at c.if_passed-2.ensures in
    rw (
      sym two_is,
      sym three-is,
      sym one-is,
      fetched c.if_passed.result c.if_passed.type_inv,
      fetched c.if_passed-2.result c.if_passed-2.type_inv,
    )
    (stepped _ _ _ _ _ _ _ own _ _ _ _ _ _ _ _ _ c.args.mark.formed c.requires c.first_passed.ensures up down)
