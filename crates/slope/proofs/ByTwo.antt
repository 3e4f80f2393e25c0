-- A choice is a placing exactly if no square overlaps that of one of the next two marks. Of a placing this is a part. For the other direction go
-- from the last mark to the first: behind a mark all squares are free of each other, and its own is free of those of the next two; so it is free
-- of each square behind these, since of four marks of which the first and the last overlap one of the other five pairs does.
use mathlib.Core.Path.{◌≡◌, refl}
use mathlib.Core.Bool.{true, false, not}
use mathlib.Core.List.{List, [], ◌∷◌}
use Prim.Native.Nat.{ℕ, zero, suc}
use lib.ListN.{take}
use borrow.Author.Tests.{not-true}
use Rattle.geometry.proofs.Split.{by_bool, both, and-fst, and-snd, same_answer, clash}
use Rattle.slope.specs.Track.{Point}
use Rattle.slope.specs.Square.{Quadrant, overlap}
use Rattle.slope.specs.Placing.{apart, free}
use Rattle.slope.specs.Enough.{Rise, Rising, free_near}
use Rattle.slope.proofs.Rises.{rising-rest, Beyond, rising-beyond}
use Rattle.slope.proofs.Locality.{overlap-nearer}

module _ (side : ℕ) where
  -- what is apart from all squares behind it is apart from the first so many of them
  apart-take : (a : Point) (p : Quadrant) (n : ℕ) (bs : List Point) (qs : List Quadrant)
      → apart side a p bs qs ≡ true → apart side a p (take n bs) qs ≡ true
  unfolding apart
  apart-take a p zero bs qs h = refl
  apart-take a p (suc n) [] qs h = refl
  apart-take a p (suc n) (b ∷ bs) [] h = refl
  apart-take a p (suc n) (b ∷ bs) (q ∷ qs) h =
      both _ _ (and-fst (not (overlap side a p b q)) _ h) (apart-take a p n bs qs (and-snd (not (overlap side a p b q)) _ h))

  -- a, b and c with squares that are free of each other: what lies beyond c, and is free of b and c, is free of a
  module _ (a b c : Point) (p q r : Quadrant) (a-b : Rise a b) (b-c : Rise b c)
      (ab : overlap side a p b q ≡ false) (ac : overlap side a p c r ≡ false) (bc : overlap side b q c r ≡ false) where
    apart-of-nearer : (ds : List Point) (ts : List Quadrant) → Beyond c ds → apart side b q ds ts ≡ true → apart side c r ds ts ≡ true
        → apart side a p ds ts ≡ true
    unfolding apart
    apart-of-nearer [] ts beyond b-free c-free = refl
    apart-of-nearer (d ∷ ds) [] beyond b-free c-free = refl
    apart-of-nearer (d ∷ ds) (t ∷ ts) beyond b-free c-free =
        let bd = not-true _ (and-fst (not (overlap side b q d t)) _ b-free) in
        let cd = not-true _ (and-fst (not (overlap side c r d t)) _ c-free) in
        both _ _
        (by_bool (overlap side a p d t) (λ s. not s ≡ true)
        (λ ad. clash (overlap-nearer side a b c d p q r t a-b b-c beyond.0 ad ab ac bc bd) cd) (λ _. refl))
        (apart-of-nearer ds ts beyond.1 (and-snd (not (overlap side b q d t)) _ b-free) (and-snd (not (overlap side c r d t)) _ c-free))

  -- from the next two marks to all
  apart-of-two : (a : Point) (p : Quadrant) (bs : List Point) (qs : List Quadrant) → Rising (a ∷ bs) → free side bs qs ≡ true
      → apart side a p (take 2 bs) qs ≡ true → apart side a p bs qs ≡ true
  unfolding apart free
  apart-of-two a p [] qs rise rest two = refl
  apart-of-two a p (b ∷ bs) [] rise rest two = refl
  apart-of-two a p (b ∷ []) (q ∷ qs) rise rest two = two
  apart-of-two a p (b ∷ c ∷ ds) (q ∷ []) rise rest two = both _ _ (and-fst (not (overlap side a p b q)) _ two) refl
  apart-of-two a p (b ∷ c ∷ ds) (q ∷ r ∷ ts) rise rest two =
      let next = and-snd (not (overlap side a p b q)) _ two in
      let b-free = and-fst (apart side b q (c ∷ ds) (r ∷ ts)) _ rest in
      let c-free = and-fst (apart side c r ds ts) _ (and-snd (apart side b q (c ∷ ds) (r ∷ ts)) _ rest) in
      both _ _ (and-fst (not (overlap side a p b q)) _ two)
      (both _ _ (and-fst (not (overlap side a p c r)) _ next)
      (apart-of-nearer a b c p q r rise.0 rise.1.0 (not-true _ (and-fst (not (overlap side a p b q)) _ two))
      (not-true _ (and-fst (not (overlap side a p c r)) _ next)) (not-true _ (and-fst (not (overlap side b q c r)) _ b-free))
      ds ts (rising-beyond c ds rise.1.1) (and-snd (not (overlap side b q c r)) _ b-free) c-free))

  pub free-near : (ps : List Point) (qs : List Quadrant) → free side ps qs ≡ true → free_near side ps qs ≡ true
  unfolding free free_near
  free-near [] [] h = refl
  free-near [] (q ∷ qs) h = h
  free-near (a ∷ bs) [] h = h
  free-near (a ∷ bs) (q ∷ qs) h =
      both _ _ (apart-take a q 2 bs qs (and-fst (apart side a q bs qs) _ h)) (free-near bs qs (and-snd (apart side a q bs qs) _ h))

  pub near-free : (ps : List Point) (qs : List Quadrant) → Rising ps → free_near side ps qs ≡ true → free side ps qs ≡ true
  unfolding free free_near
  near-free [] [] rise h = refl
  near-free [] (q ∷ qs) rise h = h
  near-free (a ∷ bs) [] rise h = h
  near-free (a ∷ bs) (q ∷ qs) rise h =
      let rest = near-free bs qs (rising-rest a bs rise) (and-snd (apart side a q (take 2 bs) qs) _ h) in
      both _ _ (apart-of-two a q bs qs rise rest (and-fst (apart side a q (take 2 bs) qs) _ h)) rest

  pub by-two : (ps : List Point) (qs : List Quadrant) → Rising ps → free_near side ps qs ≡ free side ps qs
  by-two ps qs rise = same_answer _ _ (near-free ps qs rise) (free-near ps qs)
