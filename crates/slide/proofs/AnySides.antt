-- What the rest of the strip can take is whether some sides will do, all of them tried one by one: those with the first label above
-- go on from the reach that it leaves above, those with it below from the reach that it leaves below.
use mathlib.Core.Path.{◌≡◌, refl, sym, ◌∙◌, ap₂}
use mathlib.Core.Bool.{Bool, true, false, ◌&&◌, ◌||◌, or-false}
use mathlib.Core.List.{List, [], ◌∷◌}
use Prim.Native.Nat.{ℕ}
use native.Mathlib.Omega.{arith}
use borrow.Author.Tests.{le-leb, lt-leb}
use lib.Dec.{leb}
use lib.ListN.{length}
use Rattle.geometry.specs.Dot.{empty_reach}
use Rattle.geometry.specs.Lists.{any_of, words_of}
use Rattle.geometry.specs.Mark.{Mark}
use Rattle.geometry.specs.Position.{Side, above, below, own_reach, above_after, below_after}
use Rattle.geometry.specs.Sliding.{leftmost_edge, edges_from, none_beyond, slides_whole}
use Rattle.geometry.proofs.AnyWord.{both_sides, any-prefixed}
use Rattle.geometry.proofs.Split.{by-leb}
use Rattle.slide.specs.inner.Room.{reach_past, slideable}

-- a leftmost edge is beyond its mark exactly if the reach is
edge-allowed : (m : Mark) (t : ℕ) → leb (leftmost_edge m t) m.place ≡ leb t m.place
edge-allowed m t =
    by-leb t m.place (λ c. leb (leftmost_edge m t) m.place ≡ c)
    (λ h. le-leb (leftmost_edge m t) m.place (omega arith)) (λ h. lt-leb (leftmost_edge m t) m.place (omega arith))

-- a test that does not look at the element
any-and : {A : Type 0} (t : Bool) (p : A → Bool) (xs : List A) → any_of (λ x. t && p x) xs ≡ (t && any_of p xs)
unfolding any_of
any-and true p xs = refl
any-and false p [] = refl
any-and false p (x ∷ xs) = any-and false p xs

-- these sides will do, from the reaches a and b
abbrev will_do : ℕ → ℕ → ℕ → List Mark → List Side → Bool
will_do g a b ms ss = none_beyond ms (edges_from g a b ms ss)

-- with the first label on side s
first_on : (g a b : ℕ) (m : Mark) (ms : List Mark) (s : Side) (words : List (List Side))
    → any_of (λ ss. will_do g a b (m ∷ ms) (s ∷ ss)) words
    ≡ (leb (own_reach s a b) m.place
    && any_of (will_do g (above_after s (reach_past g m (own_reach s a b)) a) (below_after s (reach_past g m (own_reach s a b)) b) ms) words)
unfolding edges_from none_beyond
first_on g a b m ms s words = any-and (leb (leftmost_edge m (own_reach s a b)) m.place) _ words ∙ rw (edge-allowed m (own_reach s a b)) refl

-- The theorem, from any two reaches.
some-sides : (g a b : ℕ) (ms : List Mark) → slideable g a b ms ≡ any_of (will_do g a b ms) (words_of both_sides (length ms))
unfolding slideable any_of words_of none_beyond
some-sides g a b [] = refl
some-sides g a b (m ∷ ms) =
    let words : List (List Side) = words_of both_sides (length ms) in
    rw (some-sides g (reach_past g m a) b ms, some-sides g a (reach_past g m b) ms)
    (sym
    (any-prefixed (will_do g a b (m ∷ ms)) both_sides words
    ∙ ap₂ ◌||◌ (first_on g a b m ms above words) (or-false _ ∙ first_on g a b m ms below words)))

-- and from two sides without labels
pub slideable-whole : (g : ℕ) (ms : List Mark) → slideable g empty_reach empty_reach ms ≡ slides_whole g ms
unfolding slides_whole
slideable-whole g ms = some-sides g empty_reach empty_reach ms
