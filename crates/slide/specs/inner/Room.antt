-- What the rest of the strip can still take: given the reach of one side, the greatest reach of the other.
use Rattle.std.specs.Prelude.{ℕ, zero, suc, ◌+◌, ◌-◌, ◌≤◌, ◌<◌, max, List, [], ◌∷◌, Bool, true, cond, ◌&&◌, ◌||◌, leb, ltb}
use Rattle.geometry.specs.Dot.{dot}
use Rattle.geometry.specs.Mark.{Mark, most_place, most_length}
use Rattle.geometry.specs.Sliding.{leftmost_edge}
use Rattle.geometry.specs.inner.Outside.{no_bound}

-- the label of an accepted mark: a length in its range, dots enough to the left of the place, and a place in its range, so that there are
-- enough to the right for the label and the widest gap
pub record GoodLabel (m : Mark) : Type 0 where
  pub some : 1 ≤ m.label_length
  pub short : m.label_length ≤ most_length
  pub left : m.label_length < m.place
  pub right : m.place ≤ dot most_place

-- how far the label of m slides from its leftmost place on a side whose labels reach to t
abbrev pub slid_by : Mark → ℕ → ℕ
slid_by m t = t - (m.place - m.label_length)

-- the reach, with the gap, of a label that slid by d
abbrev pub reach_at : ℕ → Mark → ℕ → ℕ
reach_at g m d = m.place + d + g

-- the reach of a side that reached to t, after the label of m as far left as it goes
abbrev pub reach_past : ℕ → Mark → ℕ → ℕ
reach_past g m t = leftmost_edge m t + (m.label_length + g)

-- some sides let every label of ms lie as far left as it goes and not beyond its mark, from the reaches a and b
unfoldable pub slideable : ℕ → ℕ → ℕ → List Mark → Bool
slideable g a b [] = true
slideable g a b (m ∷ ms) =
    (leb a m.place && slideable g (reach_past g m a) b ms) || (leb b m.place && slideable g a (reach_past g m b) ms)

-- one more than the greatest d below n with t < f d, or 0
unfoldable pub furthest : (ℕ → ℕ) → ℕ → ℕ → ℕ
furthest f t zero = 0
furthest f t (suc d) = cond (ltb t (f d)) (suc d) (furthest f t d)

-- the cell of a reach t before the mark m, from the cells f of the label of m by how far it slid: with the label on the side of t
abbrev pub own_side_lem : Mark → ℕ → (ℕ → ℕ) → ℕ
own_side_lem m t f = cond (leb t m.place) (f (slid_by m t)) 0

-- and on the other side, where it may slide by less than the given number of dots
abbrev pub other_side_lem : Mark → ℕ → ℕ
other_side_lem m zero = 0
other_side_lem m (suc d) = m.place - m.label_length + suc d

abbrev pub room_before : Mark → ℕ → (ℕ → ℕ) → ℕ
room_before m t f = max (own_side_lem m t f) (other_side_lem m (furthest f t (suc m.label_length)))

-- the cell of a reach t of one side before the marks ms: 0 where no reach of the other side will do, else one more than the greatest
-- that will; no_bound where every reach does
unfoldable pub room : ℕ → ℕ → List Mark → ℕ
room g t [] = no_bound
room g t (m ∷ ms) = room_before m t (λ d. room g (reach_at g m d) ms)
