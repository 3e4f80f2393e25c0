-- "In the sliding model (1d-4S) a label lies above or below and its left edge may be anywhere from place − length to place."
-- "A placing at fractions of a dot is one whose left edges are whole numbers of nth parts of a dot, for any whole n from 1."
use Rattle.std.specs.Prelude.{ℕ, ◌+◌, ◌-◌, ◌*◌, ◌≤◌, max, ◌≡◌, ◌⊎◌, List, [], ◌∷◌, Bool, true, ◌&&◌, leb, length}
use Rattle.geometry.specs.Lists.{any_of, words_of}
use Rattle.geometry.specs.Dot.{empty_reach}
use Rattle.geometry.specs.Mark.{Mark}
use Rattle.geometry.specs.Position.{Side, above, below, own_reach, above_after, below_after}

-- the left edge e, in nth parts of a dot, is one that the label of m may have
pub record EdgeAllowed (n : ℕ) (m : Mark) (e : ℕ) : Type 0 where
  pub not_left : n * (m.place - m.label_length) ≤ e
  pub not_right : e ≤ n * m.place

-- two labels with left edges e and f, in nth parts, keep g dots apart: one ends where the other begins, or before
abbrev pub EdgesApart : ℕ → ℕ → Mark → ℕ → Mark → ℕ → Type 0
EdgesApart g n m e k f = (e + n * (m.label_length + g) ≤ f) ⊎ (f + n * (k.label_length + g) ≤ e)

-- the label of m on side s at edge e is apart from each of the labels of ms on side s
abbrev pub ApartOnSide : ℕ → ℕ → Mark → Side → ℕ → List Mark → List Side → List ℕ → Type 0
ApartOnSide g n m s e [] ss es = Unit {0}
ApartOnSide g n m s e (k ∷ ms) [] es = Unit {0}
ApartOnSide g n m s e (k ∷ ms) (t ∷ ss) [] = Unit {0}
ApartOnSide g n m s e (k ∷ ms) (t ∷ ss) (f ∷ es) = (s ≡ t → EdgesApart g n m e k f) × ApartOnSide g n m s e ms ss es

-- a sliding placing at denominator n: a side and an allowed edge for each mark, no two labels of one side overlapping
abbrev pub SlidingPlacing : ℕ → ℕ → List Mark → List Side → List ℕ → Type 0
SlidingPlacing g n [] [] [] = Unit {0}
SlidingPlacing g n [] [] (e ∷ es) = ⊥
SlidingPlacing g n [] (s ∷ ss) es = ⊥
SlidingPlacing g n (m ∷ ms) [] es = ⊥
SlidingPlacing g n (m ∷ ms) (s ∷ ss) [] = ⊥
SlidingPlacing g n (m ∷ ms) (s ∷ ss) (e ∷ es) = EdgeAllowed n m e × ApartOnSide g n m s e ms ss es × SlidingPlacing g n ms ss es

-- the strip has a sliding placing at denominator n
pub record Slides (g n : ℕ) (ms : List Mark) : Type 0 where
  pub sides : List Side
  pub edges : List ℕ
  pub placed : SlidingPlacing g n ms sides edges

-- a label as far left as it goes on a side whose labels, with the gap, reach to t
abbrev pub leftmost_edge : Mark → ℕ → ℕ
leftmost_edge m t = max t (m.place - m.label_length)

-- "Given the sides, every label is as far left as it goes, taking marks from left to right", from the reaches a and b
unfoldable pub edges_from : ℕ → ℕ → ℕ → List Mark → List Side → List ℕ
edges_from g a b [] ss = []
edges_from g a b (m ∷ ms) [] = []
edges_from g a b (m ∷ ms) (s ∷ ss) =
    let e = leftmost_edge m (own_reach s a b) in
    let r = e + (m.label_length + g) in
    e ∷ edges_from g (above_after s r a) (below_after s r b) ms ss

abbrev pub leftmost_edges : ℕ → List Mark → List Side → List ℕ
leftmost_edges g ms ss = edges_from g empty_reach empty_reach ms ss

-- no edge lies to the right of its mark
unfoldable pub none_beyond : List Mark → List ℕ → Bool
none_beyond [] es = true
none_beyond (m ∷ ms) [] = true
none_beyond (m ∷ ms) (e ∷ es) = leb e m.place && none_beyond ms es

-- some sides give leftmost edges that are all allowed; the sides are tried one by one. (1d-4S, decided)
unfoldable pub slides_whole : ℕ → List Mark → Bool
slides_whole g ms = any_of (λ ss. none_beyond ms (leftmost_edges g ms ss)) (words_of (above ∷ below ∷ []) (length ms))
