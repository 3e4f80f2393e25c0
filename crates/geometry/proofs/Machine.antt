-- A choice is free exactly if the walk with two reaches goes through; only here do places have to rise strictly.
-- A label of an earlier mark cannot lie wholly to the right of a later one on its side, so of the two ways in which labels can be
-- apart only one is left, and of the earlier labels only the last one on the side matters.
use mathlib.Core.Path.{◌≡◌, refl}
use mathlib.Core.Bool.{Bool, true, false, not, ◌&&◌, and-false}
use mathlib.Core.Logic.{◌↔◌}
use mathlib.Core.List.{List, [], ◌∷◌, map}
use Prim.Native.Nat.{ℕ, ◌+◌, ◌≤◌, ◌<◌}
use native.Mathlib.Omega.{arith}
use lib.Dec.{ltb}
use borrow.Author.Tests.{le-leb, leb-true, le-ltb, lt-ltb, ltb-false}
use Rattle.geometry.specs.Dot.{empty_reach}
use Rattle.geometry.specs.Mark.{Mark}
use Rattle.geometry.specs.Position.{above, below, Direction, leftward, rightward, Position, unlabelled, at, mirror, own_reach}
use Rattle.geometry.specs.Overlap.{left_end, right_end, overlaps, apart, free}
use Rattle.geometry.specs.inner.Rising.{Rising}
use Rattle.geometry.specs.inner.Machine.{Room, room_for, next_above, next_below, Go}
use Rattle.geometry.proofs.Split.{both, and-fst, and-snd}
use Rattle.geometry.proofs.Rising.{Beyond, rising-rest, rising-first, rising-beyond}

-- a label covers its mark
pub left_le : (m : Mark) (d : Direction) → left_end m d ≤ m.place
left_le m leftward = omega arith
left_le m rightward = omega arith

pub right-ge : (m : Mark) (d : Direction) → m.place ≤ right_end m d
right-ge m leftward = omega arith
right-ge m rightward = omega arith

-- the test of room is the room of the walk
pub room-passes : (a b : ℕ) (m : Mark) (p : Position) → Room a b m p → room_for a b m p ≡ true
room-passes a b m unlabelled r = refl
room-passes a b m (at s d) r = le-leb (own_reach s a b) (left_end m d) r

pub passes-room : (a b : ℕ) (m : Mark) (p : Position) → room_for a b m p ≡ true → Room a b m p
passes-room a b m unlabelled e = tt
passes-room a b m (at s d) e = leb-true (own_reach s a b) (left_end m d) e

-- what fits after a label fits before it
narrower : (g a b : ℕ) (m n : Mark) (p q : Position) → m.place < n.place → Room a b m p
    → Room (next_above g a m p) (next_below g b m p) n q → Room a b n q
narrower g a b m n unlabelled q h r k = k
narrower g a b m n (at s d) unlabelled h r k = tt
narrower g a b m n (at above d) (at above e) h r k = omega (arith, left_le m d, right-ge m d)
narrower g a b m n (at above d) (at below e) h r k = k
narrower g a b m n (at below d) (at above e) h r k = k
narrower g a b m n (at below d) (at below e) h r k = omega (arith, left_le m d, right-ge m d)

-- and does not overlap it
clear : (g a b : ℕ) (m n : Mark) (p q : Position) → Room (next_above g a m p) (next_below g b m p) n q → overlaps g m p n q ≡ false
clear g a b m n unlabelled q k = refl
clear g a b m n (at s d) unlabelled k = refl
clear g a b m n (at above d) (at above e) k =
    rw (le-ltb (left_end n e) (right_end m d + g) k) (and-false (ltb (left_end m d) _))
clear g a b m n (at above d) (at below e) k = refl
clear g a b m n (at below d) (at above e) k = refl
clear g a b m n (at below d) (at below e) k =
    rw (le-ltb (left_end n e) (right_end m d + g) k) (and-false (ltb (left_end m d) _))

-- a later label on the same side that does not overlap begins where the earlier one ends, or beyond
after : (g : ℕ) (m n : Mark) (d e : Direction) {beyond : ℕ} → left_end m d < beyond
    → (ltb (left_end m d) beyond && ltb (left_end n e) (right_end m d + g)) ≡ false → right_end m d + g ≤ left_end n e
after g m n d e {beyond} h t = ltb-false _ _ (rw (lt-ltb (left_end m d) beyond h) at t)

-- so what fits before a label and does not overlap it fits after it
wider : (g a b : ℕ) (m n : Mark) (p q : Position) → m.place < n.place → Room a b n q → overlaps g m p n q ≡ false
    → Room (next_above g a m p) (next_below g b m p) n q
wider g a b m n unlabelled q h k t = k
wider g a b m n (at s d) unlabelled h k t = tt
wider g a b m n (at above d) (at above e) h k t = after g m n d e (omega (arith, left_le m d, right-ge n e)) t
wider g a b m n (at above d) (at below e) h k t = k
wider g a b m n (at below d) (at above e) h k t = k
wider g a b m n (at below d) (at below e) h k t = after g m n d e (omega (arith, left_le m d, right-ge n e)) t

-- every label of a choice fits beside the same two reaches
abbrev pub AllRoom : ℕ → ℕ → List Mark → List Position → Type 0
AllRoom a b [] ps = Unit {0}
AllRoom a b (m ∷ ms) [] = Unit {0}
AllRoom a b (m ∷ ms) (p ∷ ps) = Room a b m p × AllRoom a b ms ps

not-false-true : (t : Bool) → t ≡ false → not t ≡ true
not-false-true t e = rw e refl

not-true-false : (t : Bool) → not t ≡ true → t ≡ false
not-true-false t e = borrow.Author.Tests.not-true t e

-- labels that fit after a label are apart from it, and fit before it too
all-before : (g a b : ℕ) (m : Mark) (p : Position) (ms : List Mark) (ps : List Position) → Beyond m.place ms → Room a b m p
    → AllRoom (next_above g a m p) (next_below g b m p) ms ps → (apart g m p ms ps ≡ true) × AllRoom a b ms ps
unfolding apart
all-before g a b m p [] ps h r k = (refl, tt)
all-before g a b m p (n ∷ ms) [] h r k = (refl, tt)
all-before g a b m p (n ∷ ms) (q ∷ ps) h r k =
    let rest = all-before g a b m p ms ps h.1 r k.1 in (
      both (not (overlaps g m p n q)) (apart g m p ms ps) (not-false-true _ (clear g a b m n p q k.0)) rest.0,
      (narrower g a b m n p q h.0 r k.0, rest.1),
    )

-- and the other way round: labels that fit before it and are apart from it fit after it
all_after : (g a b : ℕ) (m : Mark) (p : Position) (ms : List Mark) (ps : List Position) → Beyond m.place ms
    → apart g m p ms ps ≡ true → AllRoom a b ms ps → AllRoom (next_above g a m p) (next_below g b m p) ms ps
unfolding apart
all_after g a b m p [] ps h t k = tt
all_after g a b m p (n ∷ ms) [] h t k = tt
all_after g a b m p (n ∷ ms) (q ∷ ps) h t k = (
  wider g a b m n p q h.0 k.0 (not-true-false _ (and-fst (not (overlaps g m p n q)) (apart g m p ms ps) t)),
  all_after g a b m p ms ps h.1 (and-snd (not (overlaps g m p n q)) (apart g m p ms ps) t) k.1,
)

-- a walk that goes through is free, and its labels all fit beside the reaches it began with
pub go-free : (g a b : ℕ) (ms : List Mark) (ps : List Position) → Rising ms → Go g a b ms ps
    → (free g ms ps ≡ true) × AllRoom a b ms ps
unfolding free
go-free g a b [] [] r h = (refl, tt)
go-free g a b [] (p ∷ ps) r h = absurd h
go-free g a b (m ∷ ms) [] r h = absurd h
go-free g a b (m ∷ ms) (p ∷ ps) r h =
    let rest = go-free g (next_above g a m p) (next_below g b m p) ms ps (rising-rest m ms r) h.1 in
    let here = all-before g a b m p ms ps (rising-beyond m ms r) h.0 rest.1 in
    (both (apart g m p ms ps) (free g ms ps) here.0 rest.0, (h.0, here.1))

-- and a free choice whose labels all fit beside them goes through
pub free-go : (g a b : ℕ) (ms : List Mark) (ps : List Position) → Rising ms → free g ms ps ≡ true → AllRoom a b ms ps
    → Go g a b ms ps
unfolding free
free-go g a b [] [] r t k = tt
free-go g a b [] (p ∷ ps) r t k = absurd (mathlib.Core.Bool.false≢true t)
free-go g a b (m ∷ ms) [] r t k = absurd (mathlib.Core.Bool.false≢true t)
free-go g a b (m ∷ ms) (p ∷ ps) r t k = (
  k.0,
  free-go g (next_above g a m p) (next_below g b m p) ms ps (rising-rest m ms r) (and-snd (apart g m p ms ps) (free g ms ps) t)
      (all_after g a b m p ms ps (rising-beyond m ms r) (and-fst (apart g m p ms ps) (free g ms ps) t) k.1),
)

-- beside two sides without labels everything fits
all_room : (ms : List Mark) (ps : List Position) → Rising ms → AllRoom empty_reach empty_reach ms ps
all_room [] ps r = tt
all_room (m ∷ ms) [] r = tt
all_room (m ∷ ms) (p ∷ ps) r = (here p, all_room ms ps (rising-rest m ms r))
  where
    here : (p : Position) → Room empty_reach empty_reach m p
    here unlabelled = tt
    here (at above leftward) = omega (arith, rising-first m ms r)
    here (at above rightward) = omega (arith, rising-first m ms r)
    here (at below leftward) = omega (arith, rising-first m ms r)
    here (at below rightward) = omega (arith, rising-first m ms r)

-- a choice is free exactly if the walk accepts it
pub free-iff-go : (g : ℕ) (ms : List Mark) (ps : List Position) → Rising ms → (free g ms ps ≡ true) ↔ Go g empty_reach empty_reach ms ps
free-iff-go g ms ps r = (λ t. free-go g empty_reach empty_reach ms ps r t (all_room ms ps r), λ h. (go-free g empty_reach empty_reach ms ps r h).0)

-- smaller reaches never hurt
room-less : (a b a' b' : ℕ) (m : Mark) (p : Position) → a' ≤ a → b' ≤ b → Room a b m p → Room a' b' m p
room-less a b a' b' m unlabelled h k r = tt
room-less a b a' b' m (at above d) h k r = omega arith
room-less a b a' b' m (at below d) h k r = omega arith

above-less : (g a a' : ℕ) (m : Mark) (p : Position) → a' ≤ a → next_above g a' m p ≤ next_above g a m p
above-less g a a' m unlabelled h = h
above-less g a a' m (at above d) h = omega arith
above-less g a a' m (at below d) h = h

below_less : (g b b' : ℕ) (m : Mark) (p : Position) → b' ≤ b → next_below g b' m p ≤ next_below g b m p
below_less g b b' m unlabelled h = h
below_less g b b' m (at above d) h = h
below_less g b b' m (at below d) h = omega arith

-- so a walk that goes through from two reaches goes through from smaller ones
pub smaller-reaches-go : (g a b a' b' : ℕ) (ms : List Mark) (ps : List Position) → a' ≤ a → b' ≤ b → Go g a b ms ps → Go g a' b' ms ps
smaller-reaches-go g a b a' b' [] [] h k r = tt
smaller-reaches-go g a b a' b' [] (p ∷ ps) h k r = r
smaller-reaches-go g a b a' b' (m ∷ ms) [] h k r = r
smaller-reaches-go g a b a' b' (m ∷ ms) (p ∷ ps) h k r = (
  room-less a b a' b' m p h k r.0,
  smaller-reaches-go g (next_above g a m p) (next_below g b m p) (next_above g a' m p) (next_below g b' m p) ms ps
      (above-less g a a' m p h) (below_less g b b' m p k) r.1,
)

-- exchanging above and below in the reaches and in the choice changes nothing
pub mirror-go : (g a b : ℕ) (ms : List Mark) (ps : List Position) → Go g a b ms ps → Go g b a ms (map mirror ps)
mirror-go g a b [] [] h = tt
mirror-go g a b [] (p ∷ ps) h = h
mirror-go g a b (m ∷ ms) [] h = h
mirror-go g a b (m ∷ ms) (unlabelled ∷ ps) h = (tt, mirror-go g a b ms ps h.1)
mirror-go g a b (m ∷ ms) (at above d ∷ ps) h = (h.0, mirror-go g (right_end m d + g) b ms ps h.1)
mirror-go g a b (m ∷ ms) (at below d ∷ ps) h = (h.0, mirror-go g a (right_end m d + g) ms ps h.1)
