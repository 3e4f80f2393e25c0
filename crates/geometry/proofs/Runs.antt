-- A run of a strip that fits, fits, since fewer labels are left to overlap. Marks dropped from the end take their labels with them, and each
-- label that is left is apart from fewer; marks dropped from the front take theirs, and what is said of the others is said without them. So
-- the positions of the marks that are left place them, and their sides and edges do, at every denominator. Nothing is asked of the places.
use mathlib.Core.Path.{◌≡◌, refl}
use mathlib.Core.Bool.{true, not}
use mathlib.Core.List.{List, [], ◌∷◌}
use Prim.Native.Nat.{ℕ, zero, suc}
use lib.IntN.{ℤ}
use lib.ListN.{take, drop}
use Rattle.geometry.specs.Mark.{Mark}
use Rattle.geometry.specs.Strip.{marks_of_lists}
use Rattle.geometry.specs.Position.{Side, Position, labelled}
use Rattle.geometry.specs.Overlap.{overlaps, apart, free, all_labelled}
use Rattle.geometry.specs.Placing.{IsPlacing}
use Rattle.geometry.specs.Sliding.{ApartOnSide, SlidingPlacing, Slides}
use Rattle.geometry.proofs.Split.{both, and-fst, and-snd, clash}

-- every entry of the first k and of the others is a label
labelled-take : (k : ℕ) (ps : List Position) → all_labelled ps ≡ true → all_labelled (take k ps) ≡ true
unfolding all_labelled
labelled-take zero ps e = refl
labelled-take (suc k) [] e = refl
labelled-take (suc k) (p ∷ ps) e =
    both (labelled p) (all_labelled (take k ps)) (and-fst (labelled p) (all_labelled ps) e) (labelled-take k ps (and-snd (labelled p) (all_labelled ps) e))

pub labelled-drop : (k : ℕ) (ps : List Position) → all_labelled ps ≡ true → all_labelled (drop k ps) ≡ true
unfolding all_labelled
labelled-drop zero ps e = e
labelled-drop (suc k) [] e = refl
labelled-drop (suc k) (p ∷ ps) e = labelled-drop k ps (and-snd (labelled p) (all_labelled ps) e)

module _ (g : ℕ) where
  -- four positions
  apart-take : (m : Mark) (p : Position) (k : ℕ) (ns : List Mark) (qs : List Position) → apart g m p ns qs ≡ true
      → apart g m p (take k ns) (take k qs) ≡ true
  unfolding apart
  apart-take m p zero ns qs e = refl
  apart-take m p (suc k) [] qs e = refl
  apart-take m p (suc k) (n ∷ ns) [] e = refl
  apart-take m p (suc k) (n ∷ ns) (q ∷ qs) e =
      let here = not (overlaps g m p n q) in
      let rest = apart g m p ns qs in
      both here _ (and-fst here rest e) (apart-take m p k ns qs (and-snd here rest e))

  free-take : (k : ℕ) (ms : List Mark) (ps : List Position) → free g ms ps ≡ true → free g (take k ms) (take k ps) ≡ true
  unfolding free
  free-take zero ms ps e = refl
  free-take (suc k) [] [] e = refl
  free-take (suc k) [] (p ∷ ps) e = e
  free-take (suc k) (m ∷ ms) [] e = e
  free-take (suc k) (m ∷ ms) (p ∷ ps) e =
      let here = apart g m p ms ps in
      let rest = free g ms ps in
      both _ _ (apart-take m p k ms ps (and-fst here rest e)) (free-take k ms ps (and-snd here rest e))

  free-drop : (k : ℕ) (ms : List Mark) (ps : List Position) → free g ms ps ≡ true → free g (drop k ms) (drop k ps) ≡ true
  unfolding free
  free-drop zero ms ps e = e
  free-drop (suc k) [] [] e = refl
  free-drop (suc k) [] (p ∷ ps) e = clash e refl
  free-drop (suc k) (m ∷ ms) [] e = clash e refl
  free-drop (suc k) (m ∷ ms) (p ∷ ps) e = free-drop k ms ps (and-snd (apart g m p ms ps) (free g ms ps) e)

  pub placing-take : (k : ℕ) (ms : List Mark) (ps : List Position) → IsPlacing g ms ps → IsPlacing g (take k ms) (take k ps)
  placing-take k ms ps placed =
      record { is_free = free-take k ms ps placed.is_free; labels-all = labelled-take k ps placed.labels-all }

  -- the first j marks, less the first i, are placed where they are
  pub run-placed : (i j : ℕ) (ms : List Mark) (ps : List Position) → IsPlacing g ms ps
      → IsPlacing g (drop i (take j ms)) (drop i (take j ps))
  run-placed i j ms ps placed =
      let first = placing-take j ms ps placed in
      record { is_free = free-drop i (take j ms) (take j ps) first.is_free; labels-all = labelled-drop i (take j ps) first.labels-all }

  -- sliding
  side-take : (n : ℕ) (m : Mark) (s : Side) (e k : ℕ) (ms : List Mark) (ss : List Side) (es : List ℕ) → ApartOnSide g n m s e ms ss es
      → ApartOnSide g n m s e (take k ms) (take k ss) (take k es)
  side-take n m s e zero ms ss es h = tt
  side-take n m s e (suc k) [] ss es h = tt
  side-take n m s e (suc k) (x ∷ ms) [] es h = tt
  side-take n m s e (suc k) (x ∷ ms) (t ∷ ss) [] h = tt
  side-take n m s e (suc k) (x ∷ ms) (t ∷ ss) (f ∷ es) h = (h.0, side-take n m s e k ms ss es h.1)

  sliding-take : (n k : ℕ) (ms : List Mark) (ss : List Side) (es : List ℕ) → SlidingPlacing g n ms ss es
      → SlidingPlacing g n (take k ms) (take k ss) (take k es)
  sliding-take n zero ms ss es h = tt
  sliding-take n (suc k) [] [] [] h = tt
  sliding-take n (suc k) [] [] (e ∷ es) h = h
  sliding-take n (suc k) [] (s ∷ ss) es h = absurd h
  sliding-take n (suc k) (m ∷ ms) [] es h = absurd h
  sliding-take n (suc k) (m ∷ ms) (s ∷ ss) [] h = h
  sliding-take n (suc k) (m ∷ ms) (s ∷ ss) (e ∷ es) h = (h.0, side-take n m s e k ms ss es h.1, sliding-take n k ms ss es h.2)

  sliding-drop : (n k : ℕ) (ms : List Mark) (ss : List Side) (es : List ℕ) → SlidingPlacing g n ms ss es
      → SlidingPlacing g n (drop k ms) (drop k ss) (drop k es)
  sliding-drop n zero ms ss es h = h
  sliding-drop n (suc k) [] [] [] h = tt
  sliding-drop n (suc k) [] [] (e ∷ es) h = absurd h
  sliding-drop n (suc k) [] (s ∷ ss) es h = absurd h
  sliding-drop n (suc k) (m ∷ ms) [] es h = absurd h
  sliding-drop n (suc k) (m ∷ ms) (s ∷ ss) [] h = absurd h
  sliding-drop n (suc k) (m ∷ ms) (s ∷ ss) (e ∷ es) h = sliding-drop n k ms ss es h.2

  -- and slide as they do
  pub run-slides : (n i j : ℕ) (ms : List Mark) → Slides g n ms → Slides g n (drop i (take j ms))
  run-slides n i j ms w =
      record {
        sides = drop i (take j w.sides);
        edges = drop i (take j w.edges);
        placed = sliding-drop n i (take j ms) (take j w.sides) (take j w.edges) (sliding-take n j ms w.sides w.edges w.placed);
      }

-- the marks of three lists that lose as many entries
listed-take : (k : ℕ) (zs : List ℤ) (ls ws : List ℕ) → marks_of_lists (take k zs) (take k ls) (take k ws) ≡ take k (marks_of_lists zs ls ws)
unfolding marks_of_lists
listed-take zero zs ls ws = refl
listed-take (suc k) [] ls ws = refl
listed-take (suc k) (z ∷ zs) [] ws = refl
listed-take (suc k) (z ∷ zs) (l ∷ ls) [] = refl
listed-take (suc k) (z ∷ zs) (l ∷ ls) (w ∷ ws) = rw (listed-take k zs ls ws) refl

no-lengths : (zs : List ℤ) (ws : List ℕ) → marks_of_lists zs [] ws ≡ []
unfolding marks_of_lists
no-lengths [] ws = refl
no-lengths (z ∷ zs) ws = refl

no-weights : (zs : List ℤ) (ls : List ℕ) → marks_of_lists zs ls [] ≡ []
unfolding marks_of_lists
no-weights [] ls = refl
no-weights (z ∷ zs) [] = refl
no-weights (z ∷ zs) (l ∷ ls) = refl

listed-drop : (k : ℕ) (zs : List ℤ) (ls ws : List ℕ) → marks_of_lists (drop k zs) (drop k ls) (drop k ws) ≡ drop k (marks_of_lists zs ls ws)
unfolding marks_of_lists
listed-drop zero zs ls ws = refl
listed-drop (suc k) [] ls ws = refl
listed-drop (suc k) (z ∷ zs) [] ws = no-lengths (drop k zs) (drop (suc k) ws)
listed-drop (suc k) (z ∷ zs) (l ∷ ls) [] = no-weights (drop k zs) (drop k ls)
listed-drop (suc k) (z ∷ zs) (l ∷ ls) (w ∷ ws) = listed-drop k zs ls ws

pub run-listed : (i j : ℕ) (zs : List ℤ) (ls ws : List ℕ)
    → marks_of_lists (drop i (take j zs)) (drop i (take j ls)) (drop i (take j ws)) ≡ drop i (take j (marks_of_lists zs ls ws))
run-listed i j zs ls ws = rw (listed-drop i (take j zs) (take j ls) (take j ws), listed-take j zs ls ws) refl
