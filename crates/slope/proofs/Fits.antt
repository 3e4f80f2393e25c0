-- The table decides whether a track fits. A placing has room at each mark, from the last to the first: its next two squares are clear of its own,
-- and behind them there is room for the next. So where no quadrant of the first mark leaves room, there is no placing.
use mathlib.Core.Path.{◌≡◌, refl, ap}
use mathlib.Core.Bool.{Bool, true, false, not, ◌&&◌, ◌||◌}
use mathlib.Core.List.{List, [], ◌∷◌}
use mathlib.Core.Logic.{inl, inr}
use Prim.Native.Nat.{ℕ}
use lib.ListN.{length, get_or, take}
use Rattle.geometry.specs.Lists.{any_of, words_of}
use Rattle.geometry.proofs.Split.{by_bool, both, and-fst, and-snd, clash}
use Rattle.geometry.proofs.Words.{Member, Spelled, word-listed}
use Rattle.geometry.proofs.Kept.{any-of-member}
use Rattle.slope.specs.Track.{Point}
use Rattle.slope.specs.Square.{Quadrant, AboveRight, AboveLeft, BelowLeft, BelowRight, every_quadrant, overlap}
use Rattle.slope.specs.Placing.{apart, free, fits, NoPlacing}
use Rattle.slope.specs.Enough.{free_near}
use Rattle.slope.specs.inner.Rest.{clear, room, start}
use Rattle.slope.proofs.ByTwo.{free-near}

-- every quadrant is one of the four
listed : (q : Quadrant) → Member q every_quadrant
listed AboveRight = inl refl
listed AboveLeft = inr (inl refl)
listed BelowLeft = inr (inr (inl refl))
listed BelowRight = inr (inr (inr (inl refl)))

spelled : (qs : List Quadrant) → Spelled every_quadrant qs
spelled [] = tt
spelled (q ∷ qs) = (listed q, spelled qs)

-- the first of a list; of an empty one any quadrant will do
abbrev head : List Quadrant → Quadrant
head qs = get_or qs 0 AboveRight

module _ (side : ℕ) where
  -- a placing has one quadrant for each mark
  free-length : (ps : List Point) (qs : List Quadrant) → free side ps qs ≡ true → length qs ≡ length ps
  unfolding free
  free-length [] [] h = refl
  free-length [] (q ∷ qs) h = absurd (mathlib.Core.Bool.false≢true h)
  free-length (a ∷ ps) [] h = absurd (mathlib.Core.Bool.false≢true h)
  free-length (a ∷ ps) (q ∷ qs) h = ap Prim.Native.Nat.suc (free-length ps qs (and-snd (apart side a q ps qs) _ h))

  pub placed-fits : (ps : List Point) (qs : List Quadrant) → free side ps qs ≡ true → fits side ps ≡ true
  unfolding fits
  placed-fits ps qs h =
      any-of-member (free side ps) (words_of every_quadrant (length ps)) qs
      (rw (← free-length ps qs h) (word-listed every_quadrant qs (spelled qs))) h

  -- what passes nowhere passes at none of a list
  none-of : {A : Type 0} (p : A → Bool) → ((x : A) → p x ≡ true → ⊥) → (xs : List A) → any_of p xs ≡ false
  unfolding any_of
  none-of p no-one [] = refl
  none-of p no-one (x ∷ xs) = by_bool (p x) (λ t. (t || any_of p xs) ≡ false) (λ h. absurd (no-one x h)) (λ _. none-of p no-one xs)

  pub none-fits : (ps : List Point) → NoPlacing side ps → fits side ps ≡ false
  unfolding fits
  none-fits ps none = none-of (free side ps) none (words_of every_quadrant (length ps))

  -- the square of the second mark behind a is clear of that of a
  clear-second : (a b : Point) (ps : List Point) (p q : Quadrant) (qs : List Quadrant) → apart side a p (take 1 ps) qs ≡ true
      → free_near side (b ∷ ps) (q ∷ qs) ≡ true → clear side (a ∷ b ∷ ps) ps p (head qs) ≡ true
  unfolding apart free_near
  clear-second a b [] p q qs second near = refl
  clear-second a b (c ∷ ps) p q [] second near = absurd (mathlib.Core.Bool.false≢true (and-snd (apart side b q (take 2 (c ∷ ps)) []) _ near))
  clear-second a b (c ∷ ps) p q (r ∷ qs) second near = and-fst (not (overlap side a p c r)) _ second

  -- a placing, as far as each mark and the next two go, leaves room behind its first two squares
  near-room : (a : Point) (ps : List Point) (p : Quadrant) (qs : List Quadrant) → free_near side (a ∷ ps) (p ∷ qs) ≡ true
      → room side (a ∷ ps) p (head qs) ≡ true
  unfolding free_near apart room
  near-room a [] p qs h = any-of-member _ every_quadrant AboveRight (listed AboveRight) refl
  near-room a (b ∷ ps) p [] h = absurd (mathlib.Core.Bool.false≢true (and-snd (apart side a p (take 2 (b ∷ ps)) []) _ h))
  near-room a (b ∷ ps) p (q ∷ qs) h =
      let front = and-fst (apart side a p (take 2 (b ∷ ps)) (q ∷ qs)) _ h in
      let near = and-snd (apart side a p (take 2 (b ∷ ps)) (q ∷ qs)) _ h in
      both _ _ (and-fst (not (overlap side a p b q)) _ front)
      (any-of-member _ every_quadrant (head qs) (listed (head qs))
      (both _ _ (near-room b ps q qs near) (clear-second a b ps p q qs (and-snd (not (overlap side a p b q)) _ front) near)))

  some-start : (ps : List Point) (qs : List Quadrant) → free side ps qs ≡ true → any_of (start side ps) every_quadrant ≡ true
  unfolding free room
  some-start [] qs h = any-of-member _ every_quadrant AboveRight (listed AboveRight) (any-of-member _ every_quadrant AboveRight (listed AboveRight) refl)
  some-start (a ∷ ps) [] h = absurd (mathlib.Core.Bool.false≢true h)
  some-start (a ∷ ps) (q ∷ qs) h =
      any-of-member _ every_quadrant q (listed q)
      (any-of-member _ every_quadrant (head qs) (listed (head qs)) (near-room a ps q qs (free-near side (a ∷ ps) (q ∷ qs) h)))

  pub no-start : (ps : List Point) → any_of (start side ps) every_quadrant ≡ false → NoPlacing side ps
  no-start ps none qs h = clash (some-start ps qs h) none
