-- `slope::pairs::begun` meets its contract: for the pair of p and q it gathers the bits of the triples of p, q and each r. Which bits it gathers
-- is computed from its moves and masks, for each of the 16 pairs.
use mathlib.Core.Path.{◌≡◌, refl, ap, ◌∙◌}
use mathlib.Core.Bool.{Bool}
use mathlib.Core.List.{List, map}
use Prim.Native.Nat.{ℕ, ◌+◌, ◌*◌}
use Rattle.geometry.specs.Lists.{any_of}
use Rattle.slope.specs.Square.{Quadrant, every_quadrant}
use Rattle.slope.specs.inner.Sets.{index, Pairs, Triples}
use Rattle.slope.proofs.Sets.{by-quadrant, most, most-any}
use Rattle.slope.proofs.Gathered.{Gathers, gathers-itself, gathers-moved, gathers-masked}
use Rattle.slope.proofs.pairs.begun.Goals as goal

abbrev begun-by : Quadrant → Quadrant → List ℕ
begun-by p q = map (λ r. 16 * index p + (4 * index q + index r)) every_quadrant

pairs-begun : {set into : ℕ} {places : ℕ → List ℕ} {holds : Quadrant → Quadrant → Quadrant → Bool} → Gathers set into places
    → Triples set holds → ((p q : Quadrant) → places (4 * index p + index q) ≡ begun-by p q) → Pairs into (λ p q. any_of (holds p q) every_quadrant)
pairs-begun {set} {holds = holds} gathers triples are = record {
  each = λ p q.
      gathers.each (4 * index p + index q)
      ∙ ap (most set) (are p q)
      ∙ most-any set (λ r. 16 * index p + (4 * index q + index r)) (holds p q) (triples.each p q) every_quadrant;
}

pub returns : goal.returns
returns c holds triples =
    let twos = gathers-moved (gathers-itself c.args.triples) _ c.with_moved.ensures in
    let fours = gathers-moved twos _ c.with_moved-fours.ensures in
    let two_fours = gathers-moved (gathers-masked fours _) _ c.with_moved-2.ensures in
    let rows = gathers-moved two_fours _ c.with_moved-rows.ensures in
    let two_rows = gathers-moved (gathers-masked rows _) _ c.with_moved-3.ensures in
    let all = gathers-moved two_rows _ c.with_moved-4.ensures in
    pairs-begun (gathers-masked all 0xffff) triples (by-quadrant _
    (by-quadrant _ refl refl refl refl)
    (by-quadrant _ refl refl refl refl)
    (by-quadrant _ refl refl refl refl)
    (by-quadrant _ refl refl refl refl))
