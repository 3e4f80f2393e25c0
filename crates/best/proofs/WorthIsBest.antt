-- `worth` is the best sum, and the choice of the walk attains it.
-- No choice that goes through earns more than `worth`, since at each mark `worth` is the greatest over all positions that have room. The
-- walk takes the first label that attains the greatest, and if none does then leaving the mark out attains it: so its choice goes
-- through and earns `worth`. A choice goes through beside two sides without labels exactly if it is overlap-free.
use mathlib.Core.Path.{◌≡◌, refl, ◌∙◌, ap}
use mathlib.Core.Bool.{Bool, true, false, ◌&&◌}
use mathlib.Core.List.{List, [], ◌∷◌}
use mathlib.Core.Logic.{inl, inr}
use mathlib.Core.Option.{Option, none, some}
use Prim.Native.Nat.{ℕ, suc, ◌+◌, ◌≤◌}
use native.Mathlib.Omega.{arith}
use lib.Dec.{eqb}
use lib.ListN.{length}
use borrow.Author.Tests.{eqb-true, eq-eqb}
use Rattle.geometry.specs.Dot.{empty_reach}
use Rattle.geometry.specs.Lists.{first_of}
use Rattle.geometry.specs.Mark.{Mark}
use Rattle.geometry.specs.Position.{Position, unlabelled, at, ranked, every_position}
use Rattle.geometry.specs.Overlap.{free}
use Rattle.geometry.specs.Placing.{sum_of, best_sum}
use Rattle.geometry.specs.inner.Rising.{Rising}
use Rattle.geometry.specs.inner.Machine.{Room, room_for, next_above, next_below, Go}
use Rattle.geometry.proofs.Split.{both, and-fst, and-snd, clash}
use Rattle.geometry.proofs.Words.{Member, none_passes, found-passes, greatest-bounds, greatest-attained}
use Rattle.geometry.proofs.Machine.{room-passes, passes-room, free-iff-go}
use Rattle.geometry.proofs.Best.{position-listed, best-bounds, best-attained}
use Rattle.best.specs.inner.Worth.{earned_by, worth, or_unlabelled, picked_from, best_from}

-- a sum, mark by mark
sum_first : (m : Mark) (ms : List Mark) (p : Position) (ps : List Position)
    → sum_of (m ∷ ms) (p ∷ ps) ≡ earned_by m.weight p + sum_of ms ps
unfolding sum_of
sum_first m ms unlabelled ps = omega arith
sum_first m ms (at s d) ps = refl

-- what m at p earns together with the marks after it
abbrev total : ℕ → ℕ → ℕ → Mark → List Mark → Position → ℕ
total g a b m ms p = earned_by m.weight p + worth g (next_above g a m p) (next_below g b m p) ms

-- no choice that goes through earns more than `worth`
worth-bounds : (g a b : ℕ) (ms : List Mark) (ps : List Position) → Go g a b ms ps → sum_of ms ps ≤ worth g a b ms
unfolding worth sum_of
worth-bounds g a b [] [] h = omega arith
worth-bounds g a b [] (p ∷ ps) h = absurd h
worth-bounds g a b (m ∷ ms) [] h = absurd h
worth-bounds g a b (m ∷ ms) (p ∷ ps) h =
    let rest = worth-bounds g (next_above g a m p) (next_below g b m p) ms ps h.1 in
    let room = room-passes a b m p h.0 in
    let most = greatest-bounds (room_for a b m) (total g a b m ms) every_position p (position-listed p) room in
    rw (sum_first m ms p ps) (omega arith)

module _ (g a b : ℕ) (m : Mark) (ms : List Mark) where
  -- the test that the walk makes of a label: it has room, and with the marks after it earns the greatest sum
  abbrev test : Position → Bool
  test p = room_for a b m p && eqb (total g a b m ms p) (worth g a b (m ∷ ms))

  -- a position does so
  abbrev Attains : Position → Type 0
  Attains p = Room a b m p × (total g a b m ms p ≡ worth g a b (m ∷ ms))

  -- a label that attains the greatest passes the test; so if none passes, leaving the mark out attains it
  by-element : (p : Position) → room_for a b m p ≡ true → total g a b m ms p ≡ worth g a b (m ∷ ms)
      → ((q : Position) → Member q ranked → test q ≡ false) → Attains unlabelled
  by-element unlabelled r e no_label = (tt, e)
  by-element (at s d) r e no_label =
      clash (both (room_for a b m (at s d)) _ r (eq-eqb _ _ e)) (no_label (at s d) (later (position-listed (at s d))))
    where
      later : Member (at s d) every_position → Member (at s d) ranked
      later (inl e) = absurd (let z : ◌≡◌ {A = ℕ} 0 1 = cc in omega arith)
      later (inr h) = h

  -- by what the search through 2, 3, 1, 4 finds
  by-found : (o : Option Position) → first_of test ranked ≡ o → Attains (or_unlabelled o)
  unfolding worth
  by-found none e =
      let top = greatest-attained (room_for a b m) (total g a b m ms) every_position unlabelled (inl refl) refl in
      by-element top.element top.passes top.worth (none_passes test ranked e)
  by-found (some p) e =
      let t = (found-passes test ranked p e).1 in
      (passes-room a b m p (and-fst (room_for a b m p) _ t), eqb-true _ _ (and-snd (room_for a b m p) _ t))

  -- the position that the walk takes attains the greatest
  pub picked-attains : Attains (picked_from g a b m ms)
  picked-attains = by-found (first_of test ranked) refl

-- the choice of the walk goes through, earns `worth`, and has a position for each mark
best-goes : (g a b : ℕ) (ms : List Mark) → Go g a b ms (best_from g a b ms)
unfolding best_from
best-goes g a b [] = tt
best-goes g a b (m ∷ ms) =
    let p = picked_from g a b m ms in
    ((picked-attains g a b m ms).0, best-goes g (next_above g a m p) (next_below g b m p) ms)

pub best-earns : (g a b : ℕ) (ms : List Mark) → sum_of ms (best_from g a b ms) ≡ worth g a b ms
unfolding best_from
best-earns g a b [] = unfold sum_of worth in refl
best-earns g a b (m ∷ ms) =
    let p = picked_from g a b m ms in
    sum_first m ms p (best_from g (next_above g a m p) (next_below g b m p) ms)
    ∙ ap (λ k. earned_by m.weight p + k) (best-earns g (next_above g a m p) (next_below g b m p) ms)
    ∙ (picked-attains g a b m ms).1

pub best-length : (g a b : ℕ) (ms : List Mark) → length (best_from g a b ms) ≡ length ms
unfolding best_from
best-length g a b [] = refl
best-length g a b (m ∷ ms) =
    let p = picked_from g a b m ms in
    ap suc (best-length g (next_above g a m p) (next_below g b m p) ms)

-- so it is overlap-free, and `worth` beside two sides without labels is the best sum
module _ (g : ℕ) (ms : List Mark) (r : Rising ms) where
  pub best-free : free g ms (best_from g empty_reach empty_reach ms) ≡ true
  best-free = (free-iff-go g ms (best_from g empty_reach empty_reach ms) r).1 (best-goes g empty_reach empty_reach ms)

  pub worth-best : worth g empty_reach empty_reach ms ≡ best_sum g ms
  worth-best =
      let other = best-attained g ms in
      omega (
        arith,
        best-earns g empty_reach empty_reach ms,
        best-bounds g ms (best_from g empty_reach empty_reach ms) best-free,
        other.is-best,
        worth-bounds g empty_reach empty_reach ms other.choice ((free-iff-go g ms other.choice r).0 other.is_free),
      )
