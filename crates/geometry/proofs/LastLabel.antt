-- After the last mark its own label is the rightmost on its side, so one of the two reaches is that label's right end.
-- A label that the walk puts on a side ends beyond every label before it there. So putting a label in front changes no reach of a side on
-- which a later label lies, and by induction from the last mark backwards the reach of its side stays that label's right end.
use mathlib.Core.Path.{◌≡◌, refl, ap}
use mathlib.Core.Bool.{true}
use mathlib.Core.Logic.{◌⊎◌, inl, inr, ⊎_elim}
use mathlib.Core.List.{List, [], ◌∷◌, map}
use Prim.Native.Nat.{ℕ, ◌+◌, ◌≤◌, ◌<◌, max, min}
use native.Mathlib.Omega.{arith}
use Rattle.geometry.specs.Dot.{empty_reach}
use Rattle.geometry.specs.Mark.{Mark}
use Rattle.geometry.specs.Position.{above, below, Direction, leftward, Position, unlabelled, at, mirror}
use Rattle.geometry.specs.Overlap.{right_end, all_labelled}
use Rattle.geometry.specs.Layout.{reach, Pair, pair_of}
use Rattle.geometry.specs.inner.Machine.{next_above, next_below, Go}
use Rattle.geometry.proofs.Split.{clash}
use Rattle.geometry.proofs.Rising.{Beyond}
use Rattle.geometry.proofs.Machine.{right-ge, mirror-go}
use Rattle.geometry.proofs.Reaches.{reach-after, mirror-reach}

-- the last mark and the direction of the last position
unfoldable pub last_mark : Mark → List Mark → Mark
last_mark m [] = m
last_mark m (n ∷ ms) = last_mark n ms

abbrev direction_of : Position → Direction
direction_of unlabelled = leftward
direction_of (at s d) = d

unfoldable pub last_direction : List Position → Direction
last_direction [] = leftward
last_direction (p ∷ []) = direction_of p
last_direction (p ∷ q ∷ ps) = last_direction (q ∷ ps)

-- the last mark lies where all marks do
last-beyond : (x : ℕ) (m : Mark) (ms : List Mark) → Beyond x (m ∷ ms) → x < (last_mark m ms).place
unfolding last_mark
last-beyond x m [] b = b.0
last-beyond x m (n ∷ ms) b = last-beyond x n ms b.1

-- a walk that puts a label below reaches at least as far as it did
reach-after-below : (g a b : ℕ) (ms : List Mark) (ps : List Position) → Go g a b ms ps → 1 < reach below ms ps → b ≤ reach below ms ps
reach-after-below g a b ms ps h k =
    let e : reach above ms (map mirror ps) ≡ reach below ms ps = mirror-reach above ms ps in
    rw e at (reach-after g b a ms (map mirror ps) (mirror-go g a b ms ps h) (rw e k))

-- a label in front does not change the reach of a side that later labels reach
front_above : (g a b : ℕ) (m : Mark) (p : Position) (ms : List Mark) (ps : List Position) (e : ℕ) → 1 < e → Go g a b (m ∷ ms) (p ∷ ps)
    → reach above ms ps ≡ e → reach above (m ∷ ms) (p ∷ ps) ≡ e
unfolding reach
front_above g a b m unlabelled ms ps e big h r = r
front_above g a b m (at above d) ms ps e big h r = omega (arith, reach-after g (right_end m d + g) b ms ps h.1 (omega arith))
front_above g a b m (at below d) ms ps e big h r = r

front_below : (g a b : ℕ) (m : Mark) (p : Position) (ms : List Mark) (ps : List Position) (e : ℕ) → 1 < e → Go g a b (m ∷ ms) (p ∷ ps)
    → reach below ms ps ≡ e → reach below (m ∷ ms) (p ∷ ps) ≡ e
unfolding reach
front_below g a b m unlabelled ms ps e big h r = r
front_below g a b m (at above d) ms ps e big h r = r
front_below g a b m (at below d) ms ps e big h r = omega (arith, reach-after-below g a (right_end m d + g) ms ps h.1 (omega arith))

-- the right end of the last label
abbrev pub last_end : Mark → List Mark → List Position → ℕ
last_end m ms ps = right_end (last_mark m ms) (last_direction ps)

-- it is one of the two reaches, where every mark is labelled
pub own-last : (g a b : ℕ) (m : Mark) (ms : List Mark) (ps : List Position) → Beyond empty_reach (m ∷ ms) → all_labelled ps ≡ true
    → Go g a b (m ∷ ms) ps
    → (reach above (m ∷ ms) ps ≡ last_end m ms ps) ⊎ (reach below (m ∷ ms) ps ≡ last_end m ms ps)
unfolding all_labelled reach last_mark last_direction
own-last g a b m ms [] big l h = absurd h
own-last g a b m ms (unlabelled ∷ ps) big l h = clash l refl
own-last g a b m [] (at above d ∷ []) big l h = inl (omega (arith, right-ge m d))
own-last g a b m [] (at below d ∷ []) big l h = inr (omega (arith, right-ge m d))
own-last g a b m [] (at s d ∷ p ∷ ps) big l h = absurd h.1
own-last g a b m (n ∷ ms) (at s d ∷ []) big l h = absurd h.1
own-last g a b m (n ∷ ms) (at s d ∷ q ∷ ps) big l h =
    let e : ℕ = last_end n ms (q ∷ ps) in
    let beyond : 1 < e = omega (arith, last-beyond 1 n ms big.1, right-ge (last_mark n ms) (last_direction (q ∷ ps))) in
    ⊎_elim (λ r. inl (front_above g a b m (at s d) (n ∷ ms) (q ∷ ps) e beyond h r))
    (λ r. inr (front_below g a b m (at s d) (n ∷ ms) (q ∷ ps) e beyond h r))
    (own-last g (next_above g a m (at s d)) (next_below g b m (at s d)) n ms (q ∷ ps) big.1 l h.1)

-- the pair of an end and of the other side's reach
abbrev pub pairing : ℕ → ℕ → Pair
pairing e o = record { larger = max e o; smaller = min e o }

-- a pair is known by its two reaches
pub pair_is : {p q : Pair} → p.larger ≡ q.larger → p.smaller ≡ q.smaller → p ≡ q
pair_is e f = λ i. record { larger = e i; smaller = f i }

-- the pair of a part layout is that of its last label's end and of the other side's reach
pub pair-of-last : (g a b : ℕ) (m : Mark) (ms : List Mark) (ps : List Position) → Beyond empty_reach (m ∷ ms) → all_labelled ps ≡ true
    → Go g a b (m ∷ ms) ps
    → (o : ℕ) × (pair_of (m ∷ ms) ps ≡ pairing (last_end m ms ps) o)
pair-of-last g a b m ms ps big l h =
    ⊎_elim (λ e. (reach below (m ∷ ms) ps, pair_is (ap (λ x. max x (reach below (m ∷ ms) ps)) e) (ap (λ x. min x (reach below (m ∷ ms) ps)) e)))
    (λ e. (reach above (m ∷ ms) ps, pair_is (omega arith) (omega arith)))
    (own-last g a b m ms ps big l h)
