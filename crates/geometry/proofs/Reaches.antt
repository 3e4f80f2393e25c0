-- The two reaches of a part layout, by right ends, are those that the walk holds after it, but for the gap: the walk holds the right end
-- plus the gap for a side with labels, and what it began with for one without. By induction, since of the labels on a side the last ends
-- furthest right. So a walk can be split after any mark, and smaller reaches by right ends are smaller ones for the walk.
use mathlib.Core.Path.{◌≡◌, refl, ◌∙◌, ap}
use mathlib.Core.Bool.{Bool, cond}
use mathlib.Core.Logic.{⊎_elim}
use mathlib.Core.List.{List, [], ◌∷◌, ◌++◌, map}
use Prim.Native.Nat.{ℕ, ◌+◌, ◌≤◌, ◌<◌, max}
use native.Mathlib.Omega.{arith}
use lib.Dec.{leb}
use lib.ListN.{length}
use Rattle.geometry.specs.Dot.{empty_reach}
use Rattle.geometry.specs.Mark.{Mark}
use Rattle.geometry.specs.Position.{Side, above, below, Direction, Position, unlabelled, at, mirror, opposite}
use Rattle.geometry.specs.Overlap.{right_end}
use Rattle.geometry.specs.Layout.{reach}
use Rattle.geometry.specs.inner.Machine.{next_above, next_below, Go}
use Rattle.geometry.proofs.Split.{by-leb, lt-or-ge}
use Rattle.geometry.proofs.Rising.{Beyond}
use Rattle.geometry.proofs.Machine.{left_le, right-ge, mirror-go}

-- the reach above at the end of a walk; the one below is that of the mirror image
unfoldable pub end_above : ℕ → ℕ → List Mark → List Position → ℕ
end_above g a [] ps = a
end_above g a (m ∷ ms) [] = a
end_above g a (m ∷ ms) (p ∷ ps) = end_above g (next_above g a m p) ms ps

unfoldable pub end_below : ℕ → ℕ → List Mark → List Position → ℕ
end_below g b [] ps = b
end_below g b (m ∷ ms) [] = b
end_below g b (m ∷ ms) (p ∷ ps) = end_below g (next_below g b m p) ms ps

-- a walk over two parts is a walk over the first and one over the second from where the first ended
pub go-split : (g a b : ℕ) (ms ns : List Mark) (ps qs : List Position) → length ps ≡ length ms → Go g a b (ms ++ ns) (ps ++ qs)
    → Go g a b ms ps × Go g (end_above g a ms ps) (end_below g b ms ps) ns qs
unfolding end_above end_below
go-split g a b [] ns [] qs e h = (tt, h)
go-split g a b [] ns (p ∷ ps) qs e h = absurd (omega arith)
go-split g a b (m ∷ ms) ns [] qs e h = absurd (omega arith)
go-split g a b (m ∷ ms) ns (p ∷ ps) qs e h =
    let r = go-split g (next_above g a m p) (next_below g b m p) ms ns ps qs (omega arith) h.1 in ((h.0, r.0), r.1)

-- and the two together are one walk
pub go-join : (g a b : ℕ) (ms ns : List Mark) (ps qs : List Position) → Go g a b ms ps
    → Go g (end_above g a ms ps) (end_below g b ms ps) ns qs → Go g a b (ms ++ ns) (ps ++ qs)
unfolding end_above end_below
go-join g a b [] ns [] qs h k = k
go-join g a b [] ns (p ∷ ps) qs h k = absurd h
go-join g a b (m ∷ ms) ns [] qs h k = absurd h
go-join g a b (m ∷ ms) ns (p ∷ ps) qs h k = (h.0, go-join g (next_above g a m p) (next_below g b m p) ms ns ps qs h.1 k)

-- the mirror image has its reaches exchanged
pub mirror-reach : (s : Side) (ms : List Mark) (ps : List Position) → reach s ms (map mirror ps) ≡ reach (opposite s) ms ps
unfolding reach
mirror-reach s [] ps = refl
mirror-reach s (m ∷ ms) [] = refl
mirror-reach s (m ∷ ms) (unlabelled ∷ ps) = mirror-reach s ms ps
mirror-reach above (m ∷ ms) (at above d ∷ ps) = mirror-reach above ms ps
mirror-reach above (m ∷ ms) (at below d ∷ ps) = ap (max (right_end m d)) (mirror-reach above ms ps)
mirror-reach below (m ∷ ms) (at above d ∷ ps) = ap (max (right_end m d)) (mirror-reach below ms ps)
mirror-reach below (m ∷ ms) (at below d ∷ ps) = mirror-reach below ms ps

-- and so are those that the walk holds
mirror-end : (g b : ℕ) (ms : List Mark) (ps : List Position) → end_below g b ms ps ≡ end_above g b ms (map mirror ps)
unfolding end_above end_below
mirror-end g b [] ps = refl
mirror-end g b (m ∷ ms) [] = refl
mirror-end g b (m ∷ ms) (unlabelled ∷ ps) = mirror-end g b ms ps
mirror-end g b (m ∷ ms) (at above d ∷ ps) = mirror-end g b ms ps
mirror-end g b (m ∷ ms) (at below d ∷ ps) = mirror-end g (right_end m d + g) ms ps

-- a walk that puts a label above reaches at least as far as it did
pub reach-after : (g a b : ℕ) (ms : List Mark) (ps : List Position) → Go g a b ms ps → 1 < reach above ms ps → a ≤ reach above ms ps
unfolding reach
reach-after g a b [] ps h k = absurd (omega arith)
reach-after g a b (m ∷ ms) [] h k = absurd h
reach-after g a b (m ∷ ms) (unlabelled ∷ ps) h k = reach-after g a b ms ps h.1 k
reach-after g a b (m ∷ ms) (at above d ∷ ps) h k = omega (arith, h.0, left_le m d, right-ge m d)
reach-after g a b (m ∷ ms) (at below d ∷ ps) h k = reach-after g a (right_end m d + g) ms ps h.1 k

-- what the walk holds for a side that reaches to r: r plus the gap, or what it held where the side has no label
abbrev pub effective : ℕ → ℕ → ℕ → ℕ
effective g a r = cond (leb r empty_reach) a (r + g)

-- a label in front: its end counts where no later label lies above
above_step : (g a b : ℕ) (m : Mark) (d : Direction) (ms : List Mark) (ps : List Position) (x : ℕ) → 1 < m.place
    → Go g (right_end m d + g) b ms ps → x ≡ effective g (right_end m d + g) (reach above ms ps)
    → x ≡ effective g a (max (right_end m d) (reach above ms ps))
above_step g a b m d ms ps x big h e =
    by-leb (max (right_end m d) (reach above ms ps)) 1 (λ t. x ≡ cond t a (max (right_end m d) (reach above ms ps) + g))
    (λ k. absurd (omega (arith, right-ge m d)))
    (λ k. ⊎_elim
    (λ (l : 1 < reach above ms ps). e
    ∙ ap (λ (t : Bool). cond t (right_end m d + g) (reach above ms ps + g)) (borrow.Author.Tests.lt-leb _ _ l)
    ∙ omega (arith, reach-after g (right_end m d + g) b ms ps h l))
    (λ (l : reach above ms ps ≤ 1).
    e ∙ ap (λ (t : Bool). cond t (right_end m d + g) (reach above ms ps + g)) (borrow.Author.Tests.le-leb _ _ l) ∙ omega (arith, right-ge m d))
    (lt-or-ge 1 (reach above ms ps)))

-- so the walk ends with the effective reaches of the part layout
pub end-above : (g a b : ℕ) (ms : List Mark) (ps : List Position) → Beyond empty_reach ms → Go g a b ms ps
    → end_above g a ms ps ≡ effective g a (reach above ms ps)
unfolding end_above reach
end-above g a b [] ps big h = refl
end-above g a b (m ∷ ms) [] big h = absurd h
end-above g a b (m ∷ ms) (unlabelled ∷ ps) big h = end-above g a b ms ps big.1 h.1
end-above g a b (m ∷ ms) (at above d ∷ ps) big h =
    above_step g a b m d ms ps _ big.0 h.1 (end-above g (right_end m d + g) b ms ps big.1 h.1)
end-above g a b (m ∷ ms) (at below d ∷ ps) big h = end-above g a (right_end m d + g) ms ps big.1 h.1

pub end_below_lem : (g a b : ℕ) (ms : List Mark) (ps : List Position) → Beyond empty_reach ms → Go g a b ms ps
    → end_below g b ms ps ≡ effective g b (reach below ms ps)
end_below_lem g a b ms ps big h =
    mirror-end g b ms ps ∙ end-above g b a ms (map mirror ps) big (mirror-go g a b ms ps h) ∙ ap (effective g b) (mirror-reach above ms ps)

-- a smaller reach by right ends is a smaller one for the walk
pub effective-less : (g r r' : ℕ) → r' ≤ r → effective g empty_reach r' ≤ effective g empty_reach r
effective-less g r r' h =
    by-leb r' empty_reach (λ t. cond t empty_reach (r' + g) ≤ effective g empty_reach r)
    (λ k. by-leb r empty_reach (λ t. empty_reach ≤ cond t empty_reach (r + g)) (λ _. omega arith) (λ l. omega arith))
    (λ k. by-leb r empty_reach (λ t. r' + g ≤ cond t empty_reach (r + g)) (λ l. absurd (omega arith)) (λ l. omega arith))
