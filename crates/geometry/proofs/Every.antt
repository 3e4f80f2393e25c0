-- A test of a whole list is decided by a walk through it, one element after the other: at every point the whole list passes exactly if the
-- elements so far passed together and what is left of the list passes. An element more moves one test from the second part to the first,
-- and at the end nothing is left.
use mathlib.Core.Path.{◌≡◌, refl, ◌∙◌, ap}
use mathlib.Core.Bool.{Bool, true, false, ◌&&◌}
use mathlib.Core.List.{List, [], ◌∷◌}
use Prim.Native.Nat.{ℕ, zero, suc, ◌+◌, ◌-◌, ◌<◌, ◌≤◌}
use native.Mathlib.Numerals.{add-one}
use native.Mathlib.Omega.{arith}
use lib.IntN.{ℤ}
use lib.Signed.{lt_z}
use lib.ListN.{length, get_or, take, drop}
use lib.Seq.{drop-cons, drop-length}
use Rattle.std.specs.List.{list_all}
use Rattle.geometry.specs.Mark.{rising}
use Rattle.geometry.proofs.Split.{both, and-fst, and-snd}

pub and-moves : (good here rest : Bool) → (good && (here && rest)) ≡ ((good && here) && rest)
and-moves true here rest = refl
and-moves false here rest = refl

and-ends : (good : Bool) → (good && true) ≡ good
and-ends true = refl
and-ends false = refl

-- the elements before i pass together exactly if `good` says so; one element more
pub every-next : {A : Type 0} (p : A → Bool) (xs : List A) (d : A) (i : ℕ) (good : Bool) → list_all p xs ≡ (good && list_all p (drop i xs))
    → i < length xs → list_all p xs ≡ ((good && p (get_or xs i d)) && list_all p (drop (i + 1) xs))
every-next p xs d i good so_far h = so_far ∙ rw (add-one, drop-cons xs i d h) (and-moves good (p (get_or xs i d)) (list_all p (drop (suc i) xs)))

-- what is left begins with two neighbours
module _ (zs : List ℤ) (d : ℤ) (i : ℕ) (good : Bool) (so_far : rising zs ≡ (good && rising (drop i zs))) where
  next-two : i + 1 < length zs → drop i zs ≡ get_or zs i d ∷ get_or zs (i + 1) d ∷ drop (suc (i + 1)) zs
  next-two h = drop-cons zs i d (omega arith) ∙ ap (λ (l : List ℤ). get_or zs i d ∷ l) (rw (← add-one i) (drop-cons zs (i + 1) d h))

  pub rising-next : i + 1 < length zs → rising zs ≡ ((good && lt_z (get_or zs i d) (get_or zs (i + 1) d)) && rising (drop (i + 1) zs))
  unfolding rising
  rising-next h =
      so_far ∙ rw (next-two h, drop-cons zs (i + 1) d h)
      (and-moves good (lt_z (get_or zs i d) (get_or zs (i + 1) d)) (rising (get_or zs (i + 1) d ∷ drop (suc (i + 1)) zs)))

  -- at most one place is left
  pub rising-ends : i + 1 ≡ length zs → rising zs ≡ good
  unfolding rising
  rising-ends h = so_far ∙ rw (drop-cons zs i d (omega arith), ← add-one i, h, drop-length zs) (and-ends good)

rising_none : (zs : List ℤ) → length zs ≡ 0 → rising zs ≡ true
unfolding rising
rising_none [] e = refl
rising_none (z ∷ zs) e = absurd (omega arith)

none-left : {good : Bool} (n : ℕ) → true ≡ (good && rising (drop {A = ℤ} n [])) → true ≡ good
unfolding rising
none-left zero e = e ∙ and-ends _
none-left (suc n) e = e ∙ and-ends _

-- where no place is left behind place i - 1, or there is none at all
pub rising-all : (zs : List ℤ) (d : ℤ) (i : ℕ) (good : Bool) → rising zs ≡ (good && rising (drop (i - 1) zs))
    → 1 ≤ i → (1 ≤ length zs → i ≤ length zs)
    → length zs ≤ i → rising zs ≡ good
unfolding rising
rising-all [] d i good so_far some within h = none-left (i - 1) so_far
rising-all (z ∷ zs) d i good so_far some within h = rising-ends (z ∷ zs) d (i - 1) good so_far (omega (arith, within))

-- places without the first rise too
pub rising-tail : (z : ℤ) (zs : List ℤ) → rising (z ∷ zs) ≡ true → rising zs ≡ true
unfolding rising
rising-tail z [] e = refl
rising-tail z (y ∷ zs) e = and-snd (lt_z z y) (rising (y ∷ zs)) e

-- what every element of a list passes, every element of a part passes
module _ {A : Type 0} (p : A → Bool) where
  pub every_take : (n : ℕ) (xs : List A) → list_all p xs ≡ true → list_all p (take n xs) ≡ true
  every_take zero xs e = refl
  every_take (suc n) [] e = refl
  every_take (suc n) (x ∷ xs) e = both (p x) (list_all p (take n xs)) (and-fst (p x) (list_all p xs) e) (every_take n xs (and-snd (p x) (list_all p xs) e))

  pub every_drop : (n : ℕ) (xs : List A) → list_all p xs ≡ true → list_all p (drop n xs) ≡ true
  every_drop zero xs e = e
  every_drop (suc n) [] e = refl
  every_drop (suc n) (x ∷ xs) e = every_drop n xs (and-snd (p x) (list_all p xs) e)
