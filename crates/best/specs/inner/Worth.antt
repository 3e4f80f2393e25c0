-- What the rest of a strip can still earn beside two reaches, and the choice that earns it, by recursion.
use Rattle.std.specs.Prelude.{List, [], ◌∷◌, cond, ◌&&◌, ℕ, ◌+◌, eqb}
use Rattle.std.proofs.Math.Option.{Option, none, some}
use Rattle.geometry.specs.Dot.{empty_reach}
use Rattle.geometry.specs.Lists.{first_of, greatest_of}
use Rattle.geometry.specs.Mark.{Mark}
use Rattle.geometry.specs.Strip.{Strip, marks_of}
use Rattle.geometry.specs.Position.{Position, unlabelled, labelled, ranked, every_position}
use Rattle.geometry.specs.inner.Machine.{room_for, next_above, next_below}

-- what a mark of weight w earns at a position
abbrev pub earned_by : ℕ → Position → ℕ
earned_by w p = cond (labelled p) w 0

-- the greatest sum of the marks ms beside the reaches a and b
unfoldable pub worth : ℕ → ℕ → ℕ → List Mark → ℕ
worth g a b [] = 0
worth g a b (m ∷ ms) =
    greatest_of (room_for a b m) (λ p. earned_by m.weight p + worth g (next_above g a m p) (next_below g b m p) ms) every_position

-- a mark that no label suits gets none
abbrev pub or_unlabelled : Option Position → Position
or_unlabelled none = unlabelled
or_unlabelled (some p) = p

-- the first of 2, 3, 1, 4 that has room beside a and b and earns all of t, where `rest p` is what the marks after it earn
abbrev pub picked : ℕ → ℕ → Mark → (Position → ℕ) → ℕ → Position
picked a b m rest t = or_unlabelled (first_of (λ p. room_for a b m p && eqb (earned_by m.weight p + rest p) t) ranked)

abbrev pub picked_from : ℕ → ℕ → ℕ → Mark → List Mark → Position
picked_from g a b m ms = picked a b m (λ p. worth g (next_above g a m p) (next_below g b m p) ms) (worth g a b (m ∷ ms))

-- the choice of the walk from the left
unfoldable pub best_from : ℕ → ℕ → ℕ → List Mark → List Position
best_from g a b [] = []
best_from g a b (m ∷ ms) =
    let p = picked_from g a b m ms in
    p ∷ best_from g (next_above g a m p) (next_below g b m p) ms

-- both for a whole strip, beside two sides without labels
abbrev pub whole_worth : ℕ → Strip → ℕ
whole_worth g s = worth g empty_reach empty_reach (marks_of s)

abbrev pub whole_choice : ℕ → Strip → List Position
whole_choice g s = best_from g empty_reach empty_reach (marks_of s)
