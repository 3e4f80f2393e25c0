-- Shorter labels keep every free choice free. At one position the span of a shorter label lies within that of a longer one of the same
-- mark: its left end is not further left and its right end not further right. So two short labels that overlap do so when they are longer
-- too, and a choice without overlap for long labels has none for short ones. Nothing is asked of the places.
use mathlib.Core.Path.{◌≡◌, refl}
use mathlib.Core.Bool.{Bool, true, false, not, ◌&&◌, false≢true}
use mathlib.Core.List.{List, [], ◌∷◌}
use mathlib.Core.Option.{some}
use Prim.Native.Nat.{ℕ, ◌+◌, ◌≤◌}
use native.Mathlib.Omega.{arith}
use lib.Dec.{ltb}
use borrow.Author.Tests.{lt-ltb, ltb-true}
use Rattle.geometry.specs.Mark.{Mark}
use Rattle.geometry.specs.Position.{Direction, leftward, rightward, Position, unlabelled, at, same_side}
use Rattle.geometry.specs.Overlap.{left_end, right_end, overlaps, apart, free}
use Rattle.geometry.specs.Placing.{first_placing}
use Rattle.geometry.proofs.Split.{both, and-fst, and-snd}
use Rattle.geometry.proofs.Whole.{placing-found, found-placing}

-- the same place, and a label that is not longer
pub record Shorter (short long : Mark) : Type 0 where
  pub same_place : short.place ≡ long.place
  pub no_longer : short.label_length ≤ long.label_length

pub shorter-itself : (m : Mark) → Shorter m m
shorter-itself m = record { same_place = refl; no_longer = omega arith }

-- the same of all marks of two strips
abbrev pub AllShorter : List Mark → List Mark → Type 0
AllShorter [] [] = Unit {0}
AllShorter [] (n ∷ ns) = ⊥
AllShorter (m ∷ ms) [] = ⊥
AllShorter (m ∷ ms) (n ∷ ns) = Shorter m n × AllShorter ms ns

left-within : (short long : Mark) → Shorter short long → (d : Direction) → left_end long d ≤ left_end short d
left-within short long h leftward = omega (arith, h.same_place, h.no_longer)
left-within short long h rightward = omega (arith, h.same_place)

right-within : (short long : Mark) → Shorter short long → (d : Direction) → right_end short d ≤ right_end long d
right-within short long h leftward = omega (arith, h.same_place)
right-within short long h rightward = omega (arith, h.same_place, h.no_longer)

-- a test of less holds with a smaller number before it and a greater one behind
less-too : (a b c d : ℕ) → c ≤ a → b ≤ d → ltb a b ≡ true → ltb c d ≡ true
less-too a b c d h k t = let less = ltb-true a b t in lt-ltb c d (omega arith)

module _ (g : ℕ) where
  -- short labels that overlap do so when they are longer
  longer-overlap : (m m' n n' : Mark) → Shorter m m' → Shorter n n' → (p q : Position) → overlaps g m p n q ≡ true
      → overlaps g m' p n' q ≡ true
  longer-overlap m m' n n' h k unlabelled q t = t
  longer-overlap m m' n n' h k (at s d) unlabelled t = t
  longer-overlap m m' n n' h k (at s d) (at u e) t =
      let one = ltb (left_end m d) (right_end n e + g) in
      let other = ltb (left_end n e) (right_end m d + g) in
      let spans = and-snd (same_side s u) (one && other) t in
      both (same_side s u) _ (and-fst (same_side s u) (one && other) t)
      (both _ _
      (less-too _ _ _ _ (left-within m m' h d) (omega (arith, right-within n n' k e)) (and-fst one other spans))
      (less-too _ _ _ _ (left-within n n' k e) (omega (arith, right-within m m' h d)) (and-snd one other spans)))

  -- the other way round, as the test of a choice has it
  contrapositive : (s t : Bool) → (s ≡ true → t ≡ true) → not t ≡ true → not s ≡ true
  contrapositive false t f e = refl
  contrapositive true true f e = e
  contrapositive true false f e = absurd (false≢true (f refl))

  apart-shorter : (m m' : Mark) (p : Position) → Shorter m m' → (ns ns' : List Mark) → AllShorter ns ns' → (qs : List Position)
      → apart g m' p ns' qs ≡ true → apart g m p ns qs ≡ true
  unfolding apart
  apart-shorter m m' p h [] [] k qs t = refl
  apart-shorter m m' p h [] (n' ∷ ns') k qs t = absurd k
  apart-shorter m m' p h (n ∷ ns) [] k qs t = absurd k
  apart-shorter m m' p h (n ∷ ns) (n' ∷ ns') k [] t = refl
  apart-shorter m m' p h (n ∷ ns) (n' ∷ ns') k (q ∷ qs) t =
      let here = not (overlaps g m' p n' q) in
      let rest = apart g m' p ns' qs in
      both _ _
      (contrapositive _ _ (longer-overlap m m' n n' h k.0 p q) (and-fst here rest t))
      (apart-shorter m m' p h ns ns' k.1 qs (and-snd here rest t))

  -- so every choice that was free stays free
  pub free-shorter : (ms ms' : List Mark) → AllShorter ms ms' → (ps : List Position) → free g ms' ps ≡ true → free g ms ps ≡ true
  unfolding free
  free-shorter [] [] h [] t = refl
  free-shorter [] [] h (p ∷ ps) t = t
  free-shorter [] (m' ∷ ms') h ps t = absurd h
  free-shorter (m ∷ ms) [] h ps t = absurd h
  free-shorter (m ∷ ms) (m' ∷ ms') h [] t = t
  free-shorter (m ∷ ms) (m' ∷ ms') h (p ∷ ps) t =
      let here = apart g m' p ms' ps in
      let rest = free g ms' ps in
      both _ _ (apart-shorter m m' p h.0 ms ms' h.1 ps (and-fst here rest t)) (free-shorter ms ms' h.1 ps (and-snd here rest t))

  -- and a strip that fits does so with shorter labels
  pub placing-shorter : (ms ms' : List Mark) → AllShorter ms ms' → (ps : List Position) → first_placing g ms' ≡ some ps
      → (qs : List Position) × (first_placing g ms ≡ some qs)
  placing-shorter ms ms' h ps found =
      let placing = found-placing g ms' ps found in
      placing-found g ms ps (free-shorter ms ms' h ps placing.is_free) placing.labels-all
