-- A strip that fits has a placing that begins with an unbeaten part layout. Take a placing; if its beginning is beaten, go to what
-- beats it, and so on: the sum of the reaches falls each time. The rest of the placing goes behind the last one, mirrored if the
-- sides are exchanged.
use mathlib.Core.Path.{◌≡◌, refl, sym, ◌∙◌}
use mathlib.Core.Bool.{true, not, ◌&&◌, ◌||◌}
use mathlib.Core.Logic.{◌⊎◌, inl, inr, ⊎_elim}
use mathlib.Core.List.{List, [], ◌∷◌, ◌++◌, map}
use Prim.Native.Nat.{ℕ, zero, suc, ◌+◌, ◌≤◌, ◌<◌, max, min}
use native.Mathlib.Omega.{arith}
use native.Mathlib.Decide.{dec_le}
use lib.Dec.{leb, ltb}
use lib.ListN.{length, take, drop, take-append-drop}
use lib.Seq.{take_at, length-take-le}
use borrow.Author.Tests.{leb-true, ltb-true, not-false}
use Rattle.geometry.specs.Dot.{empty_reach}
use Rattle.geometry.specs.Mark.{Mark}
use Rattle.geometry.specs.Position.{above, below, Position, unlabelled, at, labelled, mirror}
use Rattle.geometry.specs.Overlap.{all_labelled}
use Rattle.geometry.specs.Placing.{IsPlacing}
use Rattle.geometry.specs.Layout.{part_layouts, reach, Pair, pair_of, beats, unbeaten, BeginsUnbeaten}
use Rattle.geometry.specs.inner.Rising.{Rising}
use Rattle.geometry.specs.inner.Machine.{Go}
use Rattle.geometry.proofs.Split.{both, by_bool, and-fst, and-snd, or_cases}
use Rattle.geometry.proofs.Rising.{Beyond}
use Rattle.geometry.proofs.Machine.{free-iff-go, smaller-reaches-go, mirror-go}
use Rattle.geometry.proofs.Reaches.{end_above, end_below, go-split, go-join, end-above, end_below_lem, effective, effective-less}
use Rattle.geometry.proofs.Words.{Member}
use Rattle.geometry.proofs.Kept.{Failing, one-fails}
use Rattle.geometry.proofs.Best.{free-length}
use Rattle.geometry.proofs.Layouts.{listed-layout}
use Rattle.geometry.proofs.Runs.{labelled-drop, placing-take}

-- what a pair that beats another says
pub record Smaller (p q : Pair) : Type 0 where
  pub larger-less : p.larger ≤ q.larger
  pub smaller-less : p.smaller ≤ q.smaller
  pub falls : p.larger + p.smaller < q.larger + q.smaller

-- no reach is greater, and the sum of both falls
smaller : (p q : Pair) → beats p q ≡ true → Smaller p q
smaller p q b =
    let l : p.larger ≤ q.larger = leb-true _ _ (and-fst (leb p.larger q.larger) _ b) in
    let b' = and-snd (leb p.larger q.larger) (leb p.smaller q.smaller && (ltb p.larger q.larger || ltb p.smaller q.smaller)) b in
    let s : p.smaller ≤ q.smaller = leb-true _ _ (and-fst (leb p.smaller q.smaller) _ b') in
    let one =
    or_cases (ltb p.larger q.larger) (ltb p.smaller q.smaller)
    (and-snd (leb p.smaller q.smaller) (ltb p.larger q.larger || ltb p.smaller q.smaller) b') in
    record {
      larger-less = l;
      smaller-less = s;
      falls = ⊎_elim (λ t. omega (arith, ltb-true p.larger q.larger t)) (λ t. omega (arith, ltb-true p.smaller q.smaller t)) one;
    }

-- side by side, or with the sides exchanged
either_way : (a b a' b' : ℕ) → max a' b' ≤ max a b → min a' b' ≤ min a b
    → ((a' ≤ a) × (b' ≤ b)) ⊎ ((a' ≤ b) × (b' ≤ a))
either_way a b a' b' h k =
    elim (dec_le b a) [
      | yes u ↦ elim (dec_le b' a') [ yes v ↦ inl (omega arith, omega arith) | no v ↦ inr (omega arith, omega arith) ]
      | no u ↦ elim (dec_le b' a') [ yes v ↦ inr (omega arith, omega arith) | no v ↦ inl (omega arith, omega arith) ]
    ]

-- a mirror image labels all marks too
mirror-labelled : (ps : List Position) → all_labelled ps ≡ true → all_labelled (map mirror ps) ≡ true
unfolding all_labelled
mirror-labelled [] e = refl
mirror-labelled (unlabelled ∷ ps) e = e
mirror-labelled (at s d ∷ ps) e = mirror-labelled ps e

-- an unbeaten part layout of ms behind which ns can be placed
pub record Begun (g : ℕ) (ms ns : List Mark) : Type 0 where
  pub first : List Position
  pub rest : List Position
  pub first-placed : IsPlacing g ms first
  pub first-unbeaten : unbeaten g ms first ≡ true
  pub rest-labelled : all_labelled rest ≡ true
  pub goes : Go g empty_reach empty_reach (ms ++ ns) (first ++ rest)

-- from two empty sides ps places the marks ms, and rs the marks ns behind it
abbrev Placed : ℕ → List Mark → List Position → Type 0
Placed g ms ps = Go g empty_reach empty_reach ms ps

abbrev Behind : ℕ → List Mark → List Mark → List Position → List Position → Type 0
Behind g ms ns ps rs = Go g (end_above g empty_reach ms ps) (end_below g empty_reach ms ps) ns rs

module _ (g : ℕ) (ms ns : List Mark) (rise : Rising ms) (big : Beyond empty_reach ms) where
  abbrev above-end : (ps : List Position) → Placed g ms ps → end_above g empty_reach ms ps ≡ effective g empty_reach (reach above ms ps)
  above-end ps goes = end-above g empty_reach empty_reach ms ps big goes

  abbrev below_end : (ps : List Position) → Placed g ms ps → end_below g empty_reach ms ps ≡ effective g empty_reach (reach below ms ps)
  below_end ps goes = end_below_lem g empty_reach empty_reach ms ps big goes

  -- the rest goes behind a part layout with no greater reaches
  follows : (ps qs rs : List Position) → Placed g ms ps → Placed g ms qs → reach above ms qs ≤ reach above ms ps
      → reach below ms qs ≤ reach below ms ps → Behind g ms ns ps rs → Behind g ms ns qs rs
  follows ps qs rs hp hq la lb h =
      smaller-reaches-go g _ _ _ _ ns rs
      (rw (above-end ps hp, above-end qs hq) (effective-less g (reach above ms ps) (reach above ms qs) la))
      (rw (below_end ps hp, below_end qs hq) (effective-less g (reach below ms ps) (reach below ms qs) lb))
      h

  -- or its mirror image does
  follows-mirrored : (ps qs rs : List Position) → Placed g ms ps → Placed g ms qs → reach above ms qs ≤ reach below ms ps
      → reach below ms qs ≤ reach above ms ps → Behind g ms ns ps rs → Behind g ms ns qs (map mirror rs)
  follows-mirrored ps qs rs hp hq la lb h =
      smaller-reaches-go g _ _ _ _ ns (map mirror rs)
      (rw (below_end ps hp, above-end qs hq) (effective-less g (reach below ms ps) (reach above ms qs) la))
      (rw (above-end ps hp, below_end qs hq) (effective-less g (reach above ms ps) (reach below ms qs) lb))
      (mirror-go g (end_above g empty_reach ms ps) (end_below g empty_reach ms ps) ns rs h)

  -- the sum of both reaches, which falls at each step
  abbrev height : List Position → ℕ
  height ps = (pair_of ms ps).larger + (pair_of ms ps).smaller

  -- a part layout with these positions and a rest behind it leads to an unbeaten one
  abbrev Leads : List Position → Type 0
  Leads ps = (rs : List Position) → IsPlacing g ms ps → all_labelled rs ≡ true → Behind g ms ns ps rs → Begun g ms ns

  -- on to a part layout qs that beats ps
  onward : (ps qs : List Position) → Leads qs → Member qs (part_layouts g ms) → Smaller (pair_of ms qs) (pair_of ms ps) → Leads ps
  onward ps qs leads listed less rs placed labels h =
      let layout = listed-layout g ms qs listed in
      let hp = (free-iff-go g ms ps rise).0 placed.is_free in
      let hq = (free-iff-go g ms qs rise).0 layout.is_free in
      ⊎_elim (λ le. leads rs layout labels (follows ps qs rs hp hq le.0 le.1 h))
      (λ le. leads (map mirror rs) layout (mirror-labelled rs labels) (follows-mirrored ps qs rs hp hq le.0 le.1 h))
      (either_way (reach above ms ps) (reach below ms ps) (reach above ms qs) (reach below ms qs) less.larger-less less.smaller-less)

  -- a part layout that is unbeaten is what is wanted; one that is beaten leads to a smaller height
  step : (n : ℕ) → ((qs : List Position) → height qs < n → Leads qs) → (ps : List Position) → height ps ≤ n → Leads ps
  unfolding unbeaten
  step n lower ps few rs placed labels h =
      by_bool (unbeaten g ms ps) (λ t. unbeaten g ms ps ≡ t → Begun g ms ns)
      (λ _ u. record {
        first = ps;
        rest = rs;
        first-placed = placed;
        first-unbeaten = u;
        rest-labelled = labels;
        goes = go-join g empty_reach empty_reach ms ns ps rs ((free-iff-go g ms ps rise).0 placed.is_free) h;
      })
      (λ _ u. beaten (one-fails (λ qs. not (beats (pair_of ms qs) (pair_of ms ps))) (part_layouts g ms) u)) refl
    where
      beaten : Failing (λ qs. not (beats (pair_of ms qs) (pair_of ms ps))) (part_layouts g ms) → Begun g ms ns
      beaten f =
          let less = smaller (pair_of ms f.element) (pair_of ms ps) (not-false _ f.fails) in
          onward ps f.element (lower f.element (omega (arith, less.falls))) f.listed less rs placed labels h

  -- by induction on the height
  descend : (n : ℕ) (ps : List Position) → height ps ≤ n → Leads ps
  descend zero ps few = step zero (λ qs lt. absurd (omega arith)) ps few
  descend (suc n) ps few = step (suc n) (λ qs lt. descend n qs (omega arith)) ps few

  -- so every part layout with a rest behind it leads to an unbeaten one
  pub begun : (ps rs : List Position) → IsPlacing g ms ps → all_labelled rs ≡ true
      → Behind g ms ns ps rs
      → Begun g ms ns
  begun ps rs = descend (height ps) ps (omega arith) rs

-- two lists of labels, put together
labelled-append : (ps qs : List Position) → all_labelled ps ≡ true → all_labelled qs ≡ true → all_labelled (ps ++ qs) ≡ true
unfolding all_labelled
labelled-append [] qs e f = f
labelled-append (p ∷ ps) qs e f =
    both (labelled p) (all_labelled (ps ++ qs)) (and-fst (labelled p) (all_labelled ps) e) (labelled-append ps qs (and-snd (labelled p) (all_labelled ps) e) f)

-- the first k marks rise, and lie where all marks do
pub rising-take : (k : ℕ) (ms : List Mark) → Rising ms → Rising (take k ms)
rising-take zero ms r = tt
rising-take (suc k) [] r = tt
rising-take (suc k) (m ∷ []) r = rw (lib.Seq.take-nil k) r
rising-take (suc zero) (m ∷ n ∷ ms) r = r.0
rising-take (suc (suc k)) (m ∷ n ∷ ms) r = (r.0, r.1, rising-take (suc k) (n ∷ ms) r.2)

pub beyond-take : (x k : ℕ) (ms : List Mark) → Beyond x ms → Beyond x (take k ms)
beyond-take x zero ms b = tt
beyond-take x (suc k) [] b = tt
beyond-take x (suc k) (m ∷ ms) b = (b.0, beyond-take x k ms b.1)

-- the same of a strip and its first k marks
pub begins-unbeaten : (g k : ℕ) (ms : List Mark) (ps : List Position) → Rising ms → Beyond empty_reach ms → k ≤ length ms → IsPlacing g ms ps
    → BeginsUnbeaten g k ms
begins-unbeaten g k ms ps rise big short placed =
    let n : length ps ≡ length ms = free-length g ms ps placed.is_free in
    let whole : Go g empty_reach empty_reach (take k ms ++ drop k ms) (take k ps ++ drop k ps) =
    rw (take-append-drop k ms, take-append-drop k ps) ((free-iff-go g ms ps rise).0 placed.is_free) in
    let parts = go-split g empty_reach empty_reach (take k ms) (drop k ms) (take k ps) (drop k ps)
    (length-take-le k ps (omega arith) ∙ sym (length-take-le k ms short)) whole in
    let b =
    begun g (take k ms) (drop k ms) (rising-take k ms rise) (beyond-take empty_reach k ms big) (take k ps) (drop k ps)
    (placing-take g k ms ps placed) (labelled-drop k ps placed.labels-all) parts.1 in
    let e : take k (b.first ++ b.rest) ≡ b.first =
    take_at b.first b.rest k (free-length g (take k ms) b.first b.first-placed.is_free ∙ length-take-le k ms short) in
    record {
      placing = b.first ++ b.rest;
      is-placing = record {
        is_free = (free-iff-go g ms (b.first ++ b.rest) rise).1 (rw (take-append-drop k ms) at b.goes);
        labels-all = labelled-append b.first b.rest b.first-placed.labels-all b.rest-labelled;
      };
      part-layout = rw e b.first-placed;
      part-unbeaten = rw e b.first-unbeaten;
    }
