-- A strip cut at one of its marks. Its marks are those before the one, the one, and those behind it; without the mark they are the same
-- but for it, and where it weighs something else they are the same but for its weight.
use mathlib.Core.Path.{◌≡◌, refl, ap, ap₂}
use mathlib.Core.List.{List, [], ◌∷◌, ◌++◌}
use Prim.Native.Nat.{ℕ, zero, suc, ◌<◌}
use native.Mathlib.Omega.{arith}
use lib.IntN.{ℤ}
use lib.ListN.{length, get_or, set}
use Rattle.std.specs.Prelude.{remove}
use Rattle.geometry.specs.Mark.{Mark, with_weight}
use Rattle.geometry.specs.Strip.{strip, marks_of_lists}
use Rattle.geometry.specs.inner.At.{mark_at}

-- the marks of three lists, cut at an index
pub record Cut (zs : List ℤ) (ls ws : List ℕ) (i : ℕ) : Type 0 where
  pub before : List Mark
  pub after : List Mark
  pub whole : marks_of_lists zs ls ws ≡ before ++ mark_at (strip zs ls ws) i ∷ after
  pub less : marks_of_lists (remove zs i) (remove ls i) (remove ws i) ≡ before ++ after
  pub reweighed : (w : ℕ) → marks_of_lists zs ls (set ws i w) ≡ before ++ with_weight w (mark_at (strip zs ls ws) i) ∷ after

-- with one mark more in front
cut-later : (zs : List ℤ) (ls ws : List ℕ) (i : ℕ) (z : ℤ) (l w : ℕ) → Cut zs ls ws i → Cut (z ∷ zs) (l ∷ ls) (w ∷ ws) (suc i)
unfolding marks_of_lists
cut-later zs ls ws i z l w c =
    let first = mark_at (strip (z ∷ zs) (l ∷ ls) (w ∷ ws)) 0 in
    let behind : List Mark → List Mark = λ ms. first ∷ ms in
    record {
      before = first ∷ c.before;
      after = c.after;
      whole = ap behind c.whole;
      less = ap behind c.less;
      reweighed = λ v. ap behind (c.reweighed v);
    }

pub cut : (zs : List ℤ) (ls ws : List ℕ) (i : ℕ) → length zs ≡ length ls → length zs ≡ length ws → i < length zs → Cut zs ls ws i
unfolding marks_of_lists
cut [] ls ws i e f h = absurd (omega arith)
cut (z ∷ zs) [] ws i e f h = absurd (omega arith)
cut (z ∷ zs) (l ∷ ls) [] i e f h = absurd (omega arith)
cut (z ∷ zs) (l ∷ ls) (w ∷ ws) zero e f h =
    record { before = []; after = marks_of_lists zs ls ws; whole = refl; less = refl; reweighed = λ v. refl }
cut (z ∷ zs) (l ∷ ls) (w ∷ ws) (suc i) e f h = cut-later zs ls ws i z l w (cut zs ls ws i (omega arith) (omega arith) (omega arith))

-- a list of weights that is another but for the one at an index
pub weights-but-one : (ws vs : List ℕ) (i : ℕ) → length ws ≡ length vs → i < length ws → remove vs i ≡ remove ws i
    → vs ≡ set ws i (get_or vs i 0)
weights-but-one [] vs i e h same = absurd (omega arith)
weights-but-one (w ∷ ws) [] i e h same = absurd (omega arith)
weights-but-one (w ∷ ws) (v ∷ vs) zero e h same = ap (λ (us : List ℕ). v ∷ us) same
weights-but-one (w ∷ ws) (v ∷ vs) (suc i) e h same =
    let first : v ≡ w = cc in
    let behind : remove vs i ≡ remove ws i = cc in
    ap₂ (λ (u : ℕ) (us : List ℕ). u ∷ us) first (weights-but-one ws vs i (omega arith) (omega arith) behind)
