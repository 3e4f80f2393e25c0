-- A sliding placing at any denominator exists iff one with whole leftmost edges does: fractions of a dot never help.
-- Labels on one side keep the order of their marks, so each begins at or beyond the end of the one before it. By induction n times the
-- leftmost edges for the same sides are at most the edges of a placing at denominator n; so they lie where they may, too.
use mathlib.Core.Path.{◌≡◌, refl, ap}
use mathlib.Core.Bool.{true}
use mathlib.Core.Logic.{inl, inr}
use mathlib.Core.List.{List, [], ◌∷◌}
use Prim.Native.Nat.{ℕ, suc, ◌+◌, ◌-◌, ◌*◌, ◌≤◌, ◌<◌, max}
use native.Mathlib.Nat.{mul-add, mul-le-mul_left, mul-lt-mul_of_pos_left, le_of_mul-le-mul_left}
use native.Mathlib.Omega.{arith}
use native.Mathlib.Decide.{dec_le}
use borrow.Author.Tests.{le-leb}
use lib.ListN.{length}
use Rattle.geometry.specs.Dot.{empty_reach}
use Rattle.geometry.specs.Mark.{Mark}
use Rattle.geometry.specs.Position.{Side, above, below, own_reach, above_after, below_after}
use Rattle.geometry.specs.Sliding.{EdgeAllowed, EdgesApart, ApartOnSide, SlidingPlacing, Slides, leftmost_edge, edges_from, leftmost_edges}
use Rattle.geometry.specs.Sliding.{none_beyond, slides_whole}
use Rattle.geometry.specs.inner.Rising.{Rising}
use Rattle.geometry.proofs.Split.{both}
use Rattle.geometry.proofs.Rising.{rising-rest, rising-first}
use Rattle.geometry.proofs.AnyWord.{any-sides}

-- n times the greater of two numbers is within what both allow
max-scaled : (n s t e : ℕ) → n * s ≤ e → n * t ≤ e → n * max s t ≤ e
max-scaled n s t e h k =
    elim (dec_le s t) [ yes u ↦ (let q : max s t ≡ t = omega arith in rw q k) | no u ↦ (let q : max s t ≡ s = omega arith in rw q h) ]

-- the reach of side t after a label on side s that reaches to r
pub after-side : (s t : Side) (r a b : ℕ) (P : ℕ → Type 0) → (s ≡ t → P r) → P (own_reach t a b)
    → P (own_reach t (above_after s r a) (below_after s r b))
after-side above above r a b P f x = f refl
after-side above below r a b P f x = x
after-side below above r a b P f x = x
after-side below below r a b P f x = f refl

-- the marks lie beyond p, and their labels are short
abbrev ShortBeyond : ℕ → List Mark → Type 0
ShortBeyond p [] = Unit {0}
ShortBeyond p (k ∷ ms) = (p < k.place) × (k.label_length < k.place) × ShortBeyond p ms

-- rising marks whose first lies beyond p all do
rising-short : (p : ℕ) (m : Mark) (ms : List Mark) → p < m.place → Rising (m ∷ ms) → ShortBeyond p (m ∷ ms)
rising-short p m [] h r = (h, r, tt)
rising-short p m (k ∷ ms) h r = (h, r.0, rising-short p k ms (omega arith) r.2)

-- the marks behind the first lie beyond it
later : (m : Mark) (ms : List Mark) → Rising (m ∷ ms) → ShortBeyond m.place ms
later m [] r = tt
later m (k ∷ ms) r = rising-short m.place k ms r.1 r.2

-- Labels on one side keep the order of their marks.
in_order : (g n : ℕ) (m k : Mark) (e f : ℕ) → 1 ≤ n → m.place < k.place → k.label_length < k.place → e ≤ n * m.place
    → EdgeAllowed n k f → EdgesApart g n m e k f
    → e + n * (m.label_length + g) ≤ f
in_order g n m k e f pos rise short right allowed (inl h) = h
in_order g n m k e f pos rise short right allowed (inr h) =
    absurd
    (omega (
      arith,
      allowed.not_left,
      mul-add n (k.place - k.label_length) (k.label_length + g),
      mul-le-mul_left {m = k.place}
          {n = k.place - k.label_length + (k.label_length + g)} n (omega arith),
      mul-lt-mul_of_pos_left {k = n} rise pos,
    ))

-- each edge, on its side, is at or beyond n times that side's reach
abbrev PastReaches : ℕ → ℕ → ℕ → List Side → List ℕ → Type 0
PastReaches n a b [] es = Unit {0}
PastReaches n a b (s ∷ ss) [] = Unit {0}
PastReaches n a b (s ∷ ss) (e ∷ es) = (n * own_reach s a b ≤ e) × PastReaches n a b ss es

-- and still is behind a label that reaches to r
past-label : (g n : ℕ) (m : Mark) (s : Side) (e r a b : ℕ) (ms : List Mark) (ss : List Side) (es : List ℕ) → 1 ≤ n → e ≤ n * m.place
    → n * r ≤ e + n * (m.label_length + g)
    → ShortBeyond m.place ms → PastReaches n a b ss es → ApartOnSide g n m s e ms ss es → SlidingPlacing g n ms ss es
    → PastReaches n (above_after s r a) (below_after s r b) ss es
past-label g n m s e r a b [] [] [] pos right reach rise past apart placed = tt
past-label g n m s e r a b [] [] (f ∷ es) pos right reach rise past apart placed = absurd placed
past-label g n m s e r a b [] (t ∷ ss) es pos right reach rise past apart placed = absurd placed
past-label g n m s e r a b (k ∷ ms) [] es pos right reach rise past apart placed = absurd placed
past-label g n m s e r a b (k ∷ ms) (t ∷ ss) [] pos right reach rise past apart placed = absurd placed
past-label g n m s e r a b (k ∷ ms) (t ∷ ss) (f ∷ es) pos right reach rise past apart placed = (
  after-side s t r a b (λ x. n * x ≤ f)
      (λ same. let h : e + n * (m.label_length + g) ≤ f = in_order g n m k e f pos rise.0 rise.1 right placed.0 (apart.0 same) in omega arith)
      past.0,
  past-label g n m s e r a b ms ss es pos right reach rise.2 past.1 apart.1 placed.2,
)

-- n times the one list of edges is at most the other, edge by edge
abbrev pub NotRightOf : ℕ → List ℕ → List ℕ → Type 0
NotRightOf n [] es = Unit {0}
NotRightOf n (x ∷ xs) [] = ⊥
NotRightOf n (x ∷ xs) (e ∷ es) = (n * x ≤ e) × NotRightOf n xs es

-- from reaches that a placing keeps to, n times the leftmost edges are at most its edges
leftmost-from : (g n a b : ℕ) (ms : List Mark) (ss : List Side) (es : List ℕ) → 1 ≤ n → Rising ms → PastReaches n a b ss es
    → SlidingPlacing g n ms ss es
    → NotRightOf n (edges_from g a b ms ss) es
unfolding edges_from
leftmost-from g n a b [] [] [] pos rise past placed = tt
leftmost-from g n a b [] [] (f ∷ es) pos rise past placed = absurd placed
leftmost-from g n a b [] (t ∷ ss) es pos rise past placed = absurd placed
leftmost-from g n a b (m ∷ ms) [] es pos rise past placed = absurd placed
leftmost-from g n a b (m ∷ ms) (s ∷ ss) [] pos rise past placed = absurd placed
leftmost-from g n a b (m ∷ ms) (s ∷ ss) (e ∷ es) pos rise past placed =
    let x : ℕ = leftmost_edge m (own_reach s a b) in
    let first : n * x ≤ e = max-scaled n (own_reach s a b) (m.place - m.label_length) e past.0 placed.0.not_left in (
      first,
      leftmost-from g n (above_after s (x + (m.label_length + g)) a) (below_after s (x + (m.label_length + g)) b) ms ss es pos (rising-rest m ms rise)
          (past-label g n m s e (x + (m.label_length + g)) a b ms ss es pos placed.0.not_right (omega (arith, mul-add n x (m.label_length + g)))
          (later m ms rise) past.1 placed.1 placed.2)
          placed.2,
    )

-- at the start every allowed edge is beyond the empty reaches
past-empty : (g n : ℕ) (ms : List Mark) (ss : List Side) (es : List ℕ) → Rising ms → SlidingPlacing g n ms ss es
    → PastReaches n empty_reach empty_reach ss es
past-empty g n [] [] [] rise placed = tt
past-empty g n [] [] (f ∷ es) rise placed = absurd placed
past-empty g n [] (t ∷ ss) es rise placed = absurd placed
past-empty g n (m ∷ ms) [] es rise placed = absurd placed
past-empty g n (m ∷ ms) (s ∷ ss) [] rise placed = absurd placed
past-empty g n (m ∷ ms) (s ∷ ss) (e ∷ es) rise placed =
    let short : m.label_length < m.place = rising-first m ms rise in
    let h : n * 1 ≤ n * (m.place - m.label_length) = mul-le-mul_left n (omega arith) in
    let own : own_reach s empty_reach empty_reach ≡ empty_reach =
    elim s as (λ t. own_reach t empty_reach empty_reach ≡ empty_reach) [ above ↦ refl | below ↦ refl ] in
    (rw own (omega (arith, placed.0.not_left)), past-empty g n ms ss es (rising-rest m ms rise) placed.2)

-- The leftmost edges for the same sides, times n, are at most the edges of any placing at denominator n.
pub leftmost-edges-least : (g n : ℕ) (ms : List Mark) (ss : List Side) (es : List ℕ) → 1 ≤ n → Rising ms → SlidingPlacing g n ms ss es
    → NotRightOf n (leftmost_edges g ms ss) es
leftmost-edges-least g n ms ss es pos rise placed = leftmost-from g n _ _ ms ss es pos rise (past-empty g n ms ss es rise placed) placed

-- edges that are no further right than allowed edges are not beyond their marks
within : (g n : ℕ) (ms : List Mark) (ss : List Side) (es xs : List ℕ) → 1 ≤ n → SlidingPlacing g n ms ss es → NotRightOf n xs es
    → none_beyond ms xs ≡ true
unfolding none_beyond
within g n [] ss es xs pos placed least = refl
within g n (m ∷ ms) ss es [] pos placed least = refl
within g n (m ∷ ms) [] es (x ∷ xs) pos placed least = absurd placed
within g n (m ∷ ms) (s ∷ ss) [] (x ∷ xs) pos placed least = absurd placed
within g n (m ∷ ms) (s ∷ ss) (e ∷ es) (x ∷ xs) pos placed least =
    both _ _
    (le-leb x m.place (le_of_mul-le-mul_left {k = n} (omega (arith, placed.0.not_right)) pos))
    (within g n ms ss es xs pos placed.2 least.1)

-- a placing has a side for each mark
pub placed-length : (g n : ℕ) (ms : List Mark) (ss : List Side) (es : List ℕ) → SlidingPlacing g n ms ss es → length ss ≡ length ms
placed-length g n [] [] [] placed = refl
placed-length g n [] [] (e ∷ es) placed = absurd placed
placed-length g n [] (s ∷ ss) es placed = absurd placed
placed-length g n (m ∷ ms) [] es placed = absurd placed
placed-length g n (m ∷ ms) (s ∷ ss) [] placed = absurd placed
placed-length g n (m ∷ ms) (s ∷ ss) (e ∷ es) placed = ap suc (placed-length g n ms ss es placed.2)

-- A strip that slides at any denominator has whole leftmost edges that are all allowed.
pub slides-whole : (g n : ℕ) (ms : List Mark) → 1 ≤ n → Rising ms → Slides g n ms → slides_whole g ms ≡ true
unfolding slides_whole
slides-whole g n ms pos rise w =
    let found =
    any-sides (λ ss. none_beyond ms (leftmost_edges g ms ss)) w.sides
    (within g n ms w.sides w.edges _ pos w.placed (leftmost-edges-least g n ms w.sides w.edges pos rise w.placed)) in
    rw (placed-length g n ms w.sides w.edges w.placed) at found
