-- What the rest of the strip can take does not depend on which side is which, and smaller reaches never hurt: a label as far left as
-- it goes on a side that reaches less far ends no further right, so whatever came after it still can.
use mathlib.Core.Path.{◌≡◌, refl}
use mathlib.Core.Bool.{true, ◌&&◌, or_comm}
use mathlib.Core.Logic.{⊎_elim}
use mathlib.Core.List.{List, [], ◌∷◌}
use Prim.Native.Nat.{ℕ, ◌≤◌}
use native.Mathlib.Omega.{arith}
use borrow.Author.Tests.{leb-true, le-leb}
use lib.Dec.{leb}
use Rattle.geometry.specs.Mark.{Mark}
use Rattle.geometry.proofs.Split.{both, and-fst, and-snd, or_cases, or_left, or_right}
use Rattle.slide.specs.inner.Room.{reach_past, slideable}

-- above and below may be exchanged
pub exchanged : (g a b : ℕ) (ms : List Mark) → slideable g a b ms ≡ slideable g b a ms
unfolding slideable
exchanged g a b [] = refl
exchanged g a b (m ∷ ms) =
    rw (exchanged g (reach_past g m a) b ms, exchanged g a (reach_past g m b) ms)
    (or_comm (leb a m.place && slideable g b (reach_past g m a) ms) (leb b m.place && slideable g (reach_past g m b) a ms))

-- a smaller reach never hurts
pub smaller-reach : (g a c b : ℕ) (ms : List Mark) → c ≤ a → slideable g a b ms ≡ true → slideable g c b ms ≡ true
unfolding slideable
smaller-reach g a c b [] h e = refl
smaller-reach g a c b (m ∷ ms) h e =
    ⊎_elim
    (λ own.
    let fits : a ≤ m.place = leb-true a m.place (and-fst (leb a m.place) _ own) in
    let rest = smaller-reach g (reach_past g m a) (reach_past g m c) b ms (omega arith) (and-snd (leb a m.place) _ own) in
    or_left _ _ (both _ _ (le-leb c m.place (omega arith)) rest))
    (λ other.
    let rest = smaller-reach g a c (reach_past g m b) ms h (and-snd (leb b m.place) _ other) in
    or_right (leb c m.place && slideable g (reach_past g m c) b ms) _ (both _ _ (and-fst (leb b m.place) _ other) rest))
    (or_cases _ _ e)
