-- The walk from the left finds sides whose leftmost edges are all allowed, wherever there are some: it takes above if the label can lie
-- there and the rest still goes, by the exact cell, and else the rest goes with the label below.
use mathlib.Core.Path.{◌≡◌, refl, sym, ◌∙◌, ap}
use mathlib.Core.Bool.{true, or_self}
use mathlib.Core.Logic.{⊎_elim}
use mathlib.Core.List.{List, [], ◌∷◌}
use Prim.Native.Nat.{ℕ, suc, ◌≤◌, ◌<◌}
use native.Mathlib.Omega.{arith}
use borrow.Author.Tests.{leb-true, le-leb}
use lib.Dec.{leb, ltb}
use lib.ListN.{length}
use Rattle.geometry.specs.Dot.{empty_reach}
use Rattle.geometry.specs.Mark.{Mark}
use Rattle.geometry.specs.Position.{Side, above, below, own_reach, above_after, below_after}
use Rattle.geometry.specs.Sliding.{leftmost_edge, edges_from, none_beyond}
use Rattle.geometry.specs.inner.Outside.{no_bound}
use Rattle.geometry.proofs.Split.{by_bool, both, and-fst, and-snd, or_cases, clash}
use Rattle.slide.specs.inner.Room.{reach_at, reach_past, slideable, room}
use Rattle.slide.specs.inner.Walk.{takes_above, side_if, side_before, sides_from}
use Rattle.slide.proofs.Slideable.{exchanged}
use Rattle.slide.proofs.ExactCells.{Inside, cells_of, room-exact, own-side-exact}

-- the label of m on side s lies where it may, and the rest can still be placed
abbrev pub Goes : ℕ → ℕ → ℕ → Mark → List Mark → Side → Type 0
Goes g a b m ms s =
    (own_reach s a b ≤ m.place)
    × (slideable g (above_after s (reach_past g m (own_reach s a b)) a) (below_after s (reach_past g m (own_reach s a b)) b) ms ≡ true)

-- the side that the walk takes is one with which the rest goes
pub walk-goes : (g a b : ℕ) (m : Mark) (ms : List Mark) → Inside g (m ∷ ms) → b < no_bound → slideable g a b (m ∷ ms) ≡ true
    → Goes g a b m ms (side_before g a b m ms)
unfolding slideable
walk-goes g a b m ms inside small e =
    let is = own-side-exact g a b m ms inside small in
    by_bool (takes_above a b m (cells_of g m ms)) (λ t. Goes g a b m ms (side_if t))
    (λ yes-above. let h = sym is ∙ yes-above in (leb-true a m.place (and-fst _ _ h), and-snd (leb a m.place) _ h))
    (λ no_above.
    ⊎_elim
    (λ l. clash l (sym is ∙ no_above))
    (λ r. (leb-true b m.place (and-fst _ _ r), and-snd (leb b m.place) _ r))
    (or_cases _ _ e))

-- the reach below stays small
pub below-small : (g : ℕ) (s : Side) (m : Mark) (ms : List Mark) (a b : ℕ) → Inside g (m ∷ ms) → own_reach s a b ≤ m.place → b < no_bound
    → below_after s (reach_past g m (own_reach s a b)) b < no_bound
below-small g above m ms a b inside h small = small
below-small g below m ms a b inside h small = omega (arith, inside.0)

-- so no edge of the walk is beyond its mark
pub walk-allowed : (g a b : ℕ) (ms : List Mark) → Inside g ms → b < no_bound → slideable g a b ms ≡ true
    → none_beyond ms (edges_from g a b ms (sides_from g a b ms)) ≡ true
unfolding none_beyond edges_from sides_from
walk-allowed g a b [] inside small e = refl
walk-allowed g a b (m ∷ ms) inside small e =
    let s : Side = side_before g a b m ms in
    let goes : Goes g a b m ms s = walk-goes g a b m ms inside small e in
    let r : ℕ = reach_past g m (own_reach s a b) in
    both _ _
    (le-leb (leftmost_edge m (own_reach s a b)) m.place (omega (arith, goes.0)))
    (walk-allowed g (above_after s r a) (below_after s r b) ms inside.1 (below-small g s m ms a b inside goes.0 small) goes.1)

-- a side for each mark
pub walk-length : (g a b : ℕ) (ms : List Mark) → length (sides_from g a b ms) ≡ length ms
unfolding sides_from
walk-length g a b [] = refl
walk-length g a b (m ∷ ms) =
    let s : Side = side_before g a b m ms in
    let r : ℕ = reach_past g m (own_reach s a b) in
    ap suc (walk-length g (above_after s r a) (below_after s r b) ms)

-- at the start both sides are empty, so the first mark's first cell decides
pub first_cell : (g : ℕ) (m : Mark) (ms : List Mark) → Inside g (m ∷ ms)
    → slideable g empty_reach empty_reach (m ∷ ms) ≡ ltb empty_reach (room g (reach_at g m 0) ms)
unfolding slideable
first_cell g m ms inside =
    let r : reach_past g m empty_reach ≡ reach_at g m 0 = omega (arith, inside.0.left) in
    let cell = room-exact g ms inside.1 (reach_at g m 0) empty_reach (omega (arith, inside.0)) (omega arith) in
    rw (le-leb empty_reach m.place (omega (arith, inside.0.left)), r, exchanged g empty_reach (reach_at g m 0) ms, ← cell) (or_self _)
