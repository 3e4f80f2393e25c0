-- Leftmost edges that are all allowed are a sliding placing at denominator 1, and a placing at 1 is one at every denominator.
-- A leftmost label begins at its side's reach or beyond, and the reach is where the label before it ends; so two labels on one side are
-- apart. Multiplying all edges by n keeps them allowed and apart. With the converse of Sliding, whole dots decide for every denominator.
use mathlib.Core.Path.{◌≡◌, refl, ap}
use mathlib.Core.Bool.{true, false}
use mathlib.Core.Logic.{inl, inr, ◌↔◌}
use mathlib.Core.List.{List, [], ◌∷◌, map}
use Prim.Native.Nat.{ℕ, ◌+◌, ◌*◌, ◌≤◌}
use native.Mathlib.Nat.{mul-add, mul-le-mul_left}
use native.Mathlib.Omega.{arith}
use borrow.Author.Tests.{leb-true}
use lib.Dec.{leb}
use lib.ListN.{length}
use Rattle.geometry.specs.Mark.{Mark}
use Rattle.geometry.specs.Position.{Side, above, below, own_reach, above_after, below_after}
use Rattle.geometry.specs.Sliding.{EdgesApart, ApartOnSide, SlidingPlacing, Slides, leftmost_edge, edges_from, leftmost_edges, none_beyond, slides_whole}
use Rattle.geometry.specs.inner.Rising.{Rising}
use Rattle.geometry.proofs.Split.{and-fst, and-snd, clash}
use Rattle.geometry.proofs.AnyWord.{Found, sides-found}
use Rattle.geometry.proofs.Sliding.{slides-whole}

-- a side's reach never falls
reach-grows : (s t : Side) (m : Mark) (g a b : ℕ)
    → let r = leftmost_edge m (own_reach s a b) + (m.label_length + g) in own_reach t a b ≤ own_reach t (above_after s r a) (below_after s r b)
reach-grows above above m g a b = omega arith
reach-grows above below m g a b = omega arith
reach-grows below above m g a b = omega arith
reach-grows below below m g a b = omega arith

-- after a label the reach of its side is the label's
pub own-after : (s : Side) (r a b : ℕ) → own_reach s (above_after s r a) (below_after s r b) ≡ r
own-after above r a b = refl
own-after below r a b = refl

-- a label that ends, with the gap, where its side's reach is or before is apart from all leftmost labels behind it
apart-behind : (g : ℕ) (m : Mark) (s : Side) (e a b : ℕ) (ms : List Mark) (ss : List Side) → e + 1 * (m.label_length + g) ≤ own_reach s a b
    → ApartOnSide g 1 m s e ms ss (edges_from g a b ms ss)
unfolding edges_from
apart-behind g m s e a b [] ss h = tt
apart-behind g m s e a b (k ∷ ms) [] h = tt
apart-behind g m s e a b (k ∷ ms) (t ∷ ss) h = (
  behind,
  (let x : ℕ = leftmost_edge k (own_reach t a b) + (k.label_length + g) in
      apart-behind g m s e (above_after t x a) (below_after t x b) ms ss (omega (arith, reach-grows t s k g a b))),
)
  where
    behind : s ≡ t → EdgesApart g 1 m e k (leftmost_edge k (own_reach t a b))
    behind same = inl (let own : own_reach s a b ≡ own_reach t a b = ap (λ (u : Side). own_reach u a b) same in omega arith)

-- from any two reaches, leftmost edges of which none is beyond its mark are a placing
placing-from : (g a b : ℕ) (ms : List Mark) (ss : List Side) → length ss ≡ length ms → none_beyond ms (edges_from g a b ms ss) ≡ true
    → SlidingPlacing g 1 ms ss (edges_from g a b ms ss)
unfolding edges_from none_beyond
placing-from g a b [] [] long e = tt
placing-from g a b [] (s ∷ ss) long e = absurd (omega arith)
placing-from g a b (m ∷ ms) [] long e = absurd (omega arith)
placing-from g a b (m ∷ ms) (s ∷ ss) long e =
    let x : ℕ = leftmost_edge m (own_reach s a b) in
    let right : x ≤ m.place = leb-true x m.place (and-fst _ _ e) in (
      record { not_left = omega arith; not_right = omega arith },
      apart-behind g m s x _ _ ms ss (rw (own-after s (x + (m.label_length + g)) a b) (omega arith)),
      placing-from g (above_after s (x + (m.label_length + g)) a) (below_after s (x + (m.label_length + g)) b) ms ss (omega arith)
          (and-snd (leb x m.place) _ e),
    )

-- Leftmost edges of which none is beyond its mark are a placing.
pub leftmost-placing : (g : ℕ) (ms : List Mark) (ss : List Side) → length ss ≡ length ms → none_beyond ms (leftmost_edges g ms ss) ≡ true
    → SlidingPlacing g 1 ms ss (leftmost_edges g ms ss)
leftmost-placing g ms ss long e = placing-from g _ _ ms ss long e

-- so a strip whose test at whole dots is passed has a placing
pub whole-slides : (g : ℕ) (ms : List Mark) → slides_whole g ms ≡ true → Slides g 1 ms
unfolding slides_whole
whole-slides g ms e =
    let f : Found (λ ss. none_beyond ms (leftmost_edges g ms ss)) (length ms) = sides-found (length ms) (λ ss. none_beyond ms (leftmost_edges g ms ss)) e in
    record { sides = f.word; edges = leftmost_edges g ms f.word; placed = leftmost-placing g ms f.word f.long f.passes }

-- edges times n: apart, apart from all labels behind, and a placing
scaled-apart : (g n : ℕ) (m k : Mark) (e f : ℕ) → EdgesApart g 1 m e k f → EdgesApart g n m (n * e) k (n * f)
scaled-apart g n m k e f (inl h) = inl (omega (arith, mul-add n e (m.label_length + g), mul-le-mul_left {m = e + (m.label_length + g)} {n = f} n (omega arith)))
scaled-apart g n m k e f (inr h) = inr (omega (arith, mul-add n f (k.label_length + g), mul-le-mul_left {m = f + (k.label_length + g)} {n = e} n (omega arith)))

scaled-side : (g n : ℕ) (m : Mark) (s : Side) (e : ℕ) (ms : List Mark) (ss : List Side) (es : List ℕ) → ApartOnSide g 1 m s e ms ss es
    → ApartOnSide g n m s (n * e) ms ss (map (λ x. n * x) es)
scaled-side g n m s e [] ss es h = tt
scaled-side g n m s e (k ∷ ms) [] es h = tt
scaled-side g n m s e (k ∷ ms) (t ∷ ss) [] h = tt
scaled-side g n m s e (k ∷ ms) (t ∷ ss) (f ∷ es) h = (λ same. scaled-apart g n m k e f (h.0 same), scaled-side g n m s e ms ss es h.1)

pub scaled-placing : (g n : ℕ) (ms : List Mark) (ss : List Side) (es : List ℕ) → SlidingPlacing g 1 ms ss es
    → SlidingPlacing g n ms ss (map (λ x. n * x) es)
scaled-placing g n [] [] [] placed = tt
scaled-placing g n [] [] (e ∷ es) placed = absurd placed
scaled-placing g n [] (s ∷ ss) es placed = absurd placed
scaled-placing g n (m ∷ ms) [] es placed = absurd placed
scaled-placing g n (m ∷ ms) (s ∷ ss) [] placed = absurd placed
scaled-placing g n (m ∷ ms) (s ∷ ss) (e ∷ es) placed =
    let low = placed.0.not_left in
    let high = placed.0.not_right in (
      record { not_left = mul-le-mul_left n (omega arith); not_right = mul-le-mul_left n (omega arith) },
      scaled-side g n m s e ms ss es placed.1,
      scaled-placing g n ms ss es placed.2,
    )

-- A strip that slides at whole dots slides at every denominator.
pub slides-at-every : (g n : ℕ) (ms : List Mark) → Slides g 1 ms → Slides g n ms
slides-at-every g n ms w = record { sides = w.sides; edges = map (λ x. n * x) w.edges; placed = scaled-placing g n ms w.sides w.edges w.placed }

-- The theorem: for places that rise strictly, a sliding placing at any denominator exists iff one with whole leftmost edges does.
pub slides-iff-whole : (g n : ℕ) (ms : List Mark) → 1 ≤ n → Rising ms → Slides g n ms ↔ (slides_whole g ms ≡ true)
slides-iff-whole g n ms positive rise = (slides-whole g n ms positive rise, λ e. slides-at-every g n ms (whole-slides g ms e))

-- "slide 11" at every denominator, from the computed test
pub none-slides : (g : ℕ) (ms : List Mark) → Rising ms → slides_whole g ms ≡ false → (n : ℕ) → 1 ≤ n → Slides g n ms → ⊥
none-slides g ms rise e n positive w = clash (slides-whole g n ms positive rise w) e
