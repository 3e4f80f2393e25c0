-- The weights change no answer of the slide pass: its definitions read places and lengths alone, so a strip's marks and the same marks at
-- weight 1 have the same leftmost edges, and the one strip slides if the other does.
use mathlib.Core.Path.{◌≡◌, refl, ◌∙◌, ap}
use mathlib.Core.Bool.{Bool, ◌&&◌}
use mathlib.Core.List.{List, [], ◌∷◌, map}
use Prim.Native.Nat.{ℕ}
use native.Mathlib.Omega.{arith}
use lib.Dec.{leb}
use lib.IntN.{ℤ}
use lib.ListN.{length}
use Rattle.geometry.specs.Dot.{dot, empty_reach}
use Rattle.geometry.specs.Mark.{Mark}
use Rattle.geometry.specs.Strip.{Strip, marks_of_lists, marks_of}
use Rattle.geometry.specs.Position.{Side, own_reach, above_after, below_after}
use Rattle.geometry.specs.Sliding.{leftmost_edge, edges_from, leftmost_edges, none_beyond, slides_whole}
use Rattle.slide.specs.inner.Plain.{plain_mark, plain_marks}
use Rattle.slide.specs.inner.Room.{reach_past, slideable}
use Rattle.slide.specs.inner.Walk.{fits_plain}
use Rattle.slide.proofs.AnySides.{slideable-whole}

-- a mark at weight 1
abbrev unweighted : Mark → Mark
unweighted m = plain_mark m.place m.label_length

-- the marks of a strip at weight 1, and what is read of them
unweighted-lists : (zs : List ℤ) (ls ws : List ℕ) → length zs ≡ length ls → length zs ≡ length ws
    → map unweighted (marks_of_lists zs ls ws) ≡ plain_marks zs ls
unfolding plain_marks marks_of_lists
unweighted-lists [] ls ws e h = refl
unweighted-lists (z ∷ zs) [] ws e h = absurd (omega arith)
unweighted-lists (z ∷ zs) (l ∷ ls) [] e h = absurd (omega arith)
unweighted-lists (z ∷ zs) (l ∷ ls) (w ∷ ws) e h =
    ap (λ (ms : List Mark). plain_mark (dot z) l ∷ ms) (unweighted-lists zs ls ws (omega arith) (omega arith))

-- each definition of the pass gives the same on marks at weight 1
edges-unweighted : (g a b : ℕ) (ms : List Mark) (ss : List Side) → edges_from g a b (map unweighted ms) ss ≡ edges_from g a b ms ss
unfolding edges_from
edges-unweighted g a b [] ss = refl
edges-unweighted g a b (m ∷ ms) [] = refl
edges-unweighted g a b (m ∷ ms) (s ∷ ss) =
    let r : ℕ = reach_past g m (own_reach s a b) in
    ap (λ (es : List ℕ). leftmost_edge m (own_reach s a b) ∷ es) (edges-unweighted g (above_after s r a) (below_after s r b) ms ss)

beyond-unweighted : (ms : List Mark) (es : List ℕ) → none_beyond (map unweighted ms) es ≡ none_beyond ms es
unfolding none_beyond
beyond-unweighted [] es = refl
beyond-unweighted (m ∷ ms) [] = refl
beyond-unweighted (m ∷ ms) (e ∷ es) = ap (λ (t : Bool). leb e m.place && t) (beyond-unweighted ms es)

slideable-unweighted : (g a b : ℕ) (ms : List Mark) → slideable g a b (map unweighted ms) ≡ slideable g a b ms
unfolding slideable
slideable-unweighted g a b [] = refl
slideable-unweighted g a b (m ∷ ms) =
    rw (slideable-unweighted g (reach_past g m a) b ms, slideable-unweighted g a (reach_past g m b) ms) refl

module _ (s : Strip) (same-lengths : length s.places ≡ length s.lengths) (same-weights : length s.places ≡ length s.weights) where
  -- for a strip: the same leftmost edges, allowed or not alike, and the same verdict
  plain-marks : map unweighted (marks_of s) ≡ plain_marks s.places s.lengths
  plain-marks = unweighted-lists s.places s.lengths s.weights same-lengths same-weights

  pub plain-edges : (g : ℕ) (ss : List Side) → leftmost_edges g (plain_marks s.places s.lengths) ss ≡ leftmost_edges g (marks_of s) ss
  plain-edges g ss = rw (← plain-marks) (edges-unweighted g empty_reach empty_reach (marks_of s) ss)

  pub plain-beyond : (es : List ℕ) → none_beyond (plain_marks s.places s.lengths) es ≡ none_beyond (marks_of s) es
  plain-beyond es = rw (← plain-marks) (beyond-unweighted (marks_of s) es)

  pub plain_fits : (g : ℕ) → fits_plain s.places s.lengths g ≡ slides_whole g (marks_of s)
  plain_fits g = rw (← plain-marks) (slideable-unweighted g empty_reach empty_reach (marks_of s)) ∙ slideable-whole g (marks_of s)
