-- The reach of a name is the right end of the label that it names, with the gap.
-- The name of a label of mark k is 2k + 2 or 2k + 3: half of it less 1 is k again, and its parity is the direction. So the reaches of the
-- two names after mark k is placed are the reaches that the walk holds.
use mathlib.Core.Path.{◌≡◌, refl, sym, ◌∙◌, ap}
use mathlib.Core.List.{List}
use Prim.Native.Nat.{ℕ, ◌+◌, ◌-◌, ◌/◌, ◌%◌, ◌≤◌, ◌<◌}
use native.Mathlib.Omega.{arith}
use lib.IntN.{pos}
use lib.ListN.{get_or}
use borrow.Author.Tests.{lt-ltb, le-ltb, eq-eqb, ne_eqb}
use Rattle.geometry.specs.Dot.{dot, empty_reach}
use Rattle.geometry.specs.Strip.{Strip}
use Rattle.geometry.specs.Position.{above, below, Direction, leftward, rightward, Position, unlabelled, at}
use Rattle.geometry.specs.Overlap.{right_end}
use Rattle.geometry.specs.inner.At.{mark_at}
use Rattle.geometry.specs.inner.Machine.{next_above, next_below}
use Rattle.best.specs.inner.Names.{name_of, last_after, reach_at}

-- the reach of a name, by the two tests that the program makes
module _ (g : ℕ) (s : Strip) (name : ℕ) where
  -- the place of the mark that the name is of
  abbrev place : ℕ
  place = dot (get_or s.places (name / 2 - 1) (pos 0))

  pub reach-of-none : name < 2 → empty_reach ≡ reach_at g s name
  unfolding reach_at
  reach-of-none h = rw (lt-ltb name 2 h) refl

  pub reach-of-left : 2 ≤ name → name % 2 ≡ 0 → place + g ≡ reach_at g s name
  unfolding reach_at
  reach-of-left h e = rw (le-ltb name 2 h, eq-eqb (name % 2) 0 e) refl

  pub reach-of-right : 2 ≤ name → (name % 2 ≡ 0 → ⊥) → place + get_or s.lengths (name / 2 - 1) 0 + g ≡ reach_at g s name
  unfolding reach_at
  reach-of-right h e = rw (le-ltb name 2 h, ne_eqb (name % 2) 0 e) refl

-- the name of a mark's label leads back to the mark
named-mark : (k : ℕ) (d : Direction) → name_of k d / 2 - 1 ≡ k
named-mark k leftward = omega arith
named-mark k rightward = omega arith

module _ (g : ℕ) (s : Strip) (k : ℕ) where
  -- the reach of the name of a label is its right end with the gap
  reach-named : (d : Direction) → reach_at g s (name_of k d) ≡ right_end (mark_at s k) d + g
  reach-named leftward =
      sym (reach-of-left g s (name_of k leftward) (omega arith) (omega arith))
      ∙ ap (λ i. dot (get_or s.places i (pos 0)) + g) (named-mark k leftward)
  reach-named rightward =
      sym (reach-of-right g s (name_of k rightward) (omega arith) (omega arith))
      ∙ ap (λ i. dot (get_or s.places i (pos 0)) + get_or s.lengths i 0 + g) (named-mark k rightward)

  -- the reaches of the names after a label are the reaches after it
  pub above-named : (x : ℕ) (p : Position) → reach_at g s (last_after above k p x) ≡ next_above g (reach_at g s x) (mark_at s k) p
  above-named x unlabelled = refl
  above-named x (at above d) = reach-named d
  above-named x (at below d) = refl

  pub below-named : (y : ℕ) (p : Position) → reach_at g s (last_after below k p y) ≡ next_below g (reach_at g s y) (mark_at s k) p
  below-named y unlabelled = refl
  below-named y (at above d) = refl
  below-named y (at below d) = reach-named d

-- the list has the reaches of the first n names
abbrev pub ReachesBelow : ℕ → Strip → List ℕ → ℕ → Type 0
ReachesBelow g s reaches n = (name : ℕ) → name < n → get_or reaches name 0 ≡ reach_at g s name
