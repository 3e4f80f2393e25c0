-- Why two part layouts are enough. After mark k the pair of reaches is {e, o}: e is one of the two right ends that its label can
-- have, and of two pairs with the same e the one with the smaller o beats the other, or they are equal.
use mathlib.Core.Path.{◌≡◌, refl, sym, ◌∙◌, ap, ap₂}
use mathlib.Core.Bool.{Bool, true, false, not, cond}
use mathlib.Core.Logic.{inl, inr, ⊎_elim}
use mathlib.Core.List.{List, [], ◌∷◌, map}
use Prim.Native.Nat.{ℕ, suc, ◌+◌, ◌≤◌, ◌<◌, max, min}
use native.Mathlib.Omega.{arith}
use native.Mathlib.Decide.{dec_le}
use lib.Dec.{leb, ltb, eqb}
use lib.ListN.{length}
use borrow.Author.Tests.{le-leb, lt-ltb, eq-eqb}
use Rattle.geometry.specs.Dot.{empty_reach}
use Rattle.geometry.specs.Lists.{any_of, keep, words_of}
use Rattle.geometry.specs.Mark.{Mark}
use Rattle.geometry.specs.Position.{Direction, leftward, rightward, Position, ranked}
use Rattle.geometry.specs.Overlap.{free}
use Rattle.geometry.specs.Placing.{IsPlacing}
use Rattle.geometry.specs.Layout.{part_layouts, Pair, pair_of, beats, unbeaten, same_pair, distinct, unbeaten_count}
use Rattle.geometry.specs.inner.Rising.{Rising}
use Rattle.geometry.proofs.Split.{both, by_bool, clash, lt-or-ge, or_left, or_right}
use Rattle.geometry.proofs.Rising.{Beyond}
use Rattle.geometry.proofs.Machine.{free-iff-go}
use Rattle.geometry.proofs.Words.{Member, word-spelled}
use Rattle.geometry.proofs.Kept.{kept-passes, every-passes, any-of-member}
use Rattle.geometry.proofs.LastLabel.{last_mark, last_direction, last_end, pairing, pair-of-last}
use Rattle.geometry.proofs.Whole.{spelled-labelled}

-- the part layouts are the placings of the marks, in the sense of the pairwise definition
pub listed-layout : (g : ℕ) (ms : List Mark) (ps : List Position) → Member ps (part_layouts g ms) → IsPlacing g ms ps
unfolding part_layouts
listed-layout g ms ps m =
    let r = kept-passes (free g ms) (words_of ranked (length ms)) ps m in
    record { is_free = r.1; labels-all = spelled-labelled ps (word-spelled ranked (length ms) ps r.0) }

-- of two pairs with one end in common, the one with the smaller other reach beats the other
smaller-beats : (e o o' : ℕ) → o < o' → beats (pairing e o) (pairing e o') ≡ true
smaller-beats e o o' h =
    both (leb (max e o) (max e o')) _ (le-leb (max e o) (max e o') (omega arith))
    (both (leb (min e o) (min e o')) _ (le-leb (min e o) (min e o') (omega arith))
    (elim (dec_le e o) [
      | yes k ↦ or_left (ltb (max e o) (max e o')) (ltb (min e o) (min e o')) (lt-ltb (max e o) (max e o') (omega arith))
      | no k ↦ or_right (ltb (max e o) (max e o')) (ltb (min e o) (min e o')) (lt-ltb (min e o) (min e o') (omega arith))
    ]))

-- neither beats the other: they are one pair
neither-beats : (e o o' : ℕ) → beats (pairing e o) (pairing e o') ≡ false → beats (pairing e o') (pairing e o) ≡ false → o ≡ o'
neither-beats e o o' f f' =
    ⊎_elim (λ (h : o < o'). clash (smaller-beats e o o' h) f)
    (λ (h : o' ≤ o). ⊎_elim (λ (k : o' < o). clash (smaller-beats e o' o k) f') (λ (k : o ≤ o'). omega arith) (lt-or-ge o' o))
    (lt-or-ge o o')

-- an unbeaten part layout is beaten by none
not-beaten : (g : ℕ) (ms : List Mark) (ps qs : List Position) → unbeaten g ms ps ≡ true → Member qs (part_layouts g ms)
    → beats (pair_of ms qs) (pair_of ms ps) ≡ false
unfolding unbeaten
not-beaten g ms ps qs u m = borrow.Author.Tests.not-true _ (every-passes (λ rs. not (beats (pair_of ms rs) (pair_of ms ps))) (part_layouts g ms) qs u m)

module _ (g : ℕ) (m : Mark) (ms : List Mark) (rise : Rising (m ∷ ms)) (big : Beyond empty_reach (m ∷ ms)) where
  -- two unbeaten part layouts that end alike have the same pair
  one-pair : (ps qs : List Position) → Member ps (keep (unbeaten g (m ∷ ms)) (part_layouts g (m ∷ ms)))
      → Member qs (keep (unbeaten g (m ∷ ms)) (part_layouts g (m ∷ ms)))
      → last_direction ps ≡ last_direction qs → pair_of (m ∷ ms) ps ≡ pair_of (m ∷ ms) qs
  one-pair ps qs mp mq same =
      let kp = kept-passes (unbeaten g (m ∷ ms)) (part_layouts g (m ∷ ms)) ps mp in
      let kq = kept-passes (unbeaten g (m ∷ ms)) (part_layouts g (m ∷ ms)) qs mq in
      let lp = listed-layout g (m ∷ ms) ps kp.0 in
      let lq = listed-layout g (m ∷ ms) qs kq.0 in
      let xp = pair-of-last g empty_reach empty_reach m ms ps big lp.labels-all ((free-iff-go g (m ∷ ms) ps rise).0 lp.is_free) in
      let xq = pair-of-last g empty_reach empty_reach m ms qs big lq.labels-all ((free-iff-go g (m ∷ ms) qs rise).0 lq.is_free) in
      let yq : pair_of (m ∷ ms) qs ≡ pairing (last_end m ms ps) xq.0 =
      xq.1 ∙ ap (λ d. pairing (Rattle.geometry.specs.Overlap.right_end (last_mark m ms) d) xq.0) (sym same) in
      let f : beats (pairing (last_end m ms ps) xp.0) (pairing (last_end m ms ps) xq.0) ≡ false =
      sym (ap₂ beats xp.1 yq) ∙ not-beaten g (m ∷ ms) qs ps kq.1 kp.0 in
      let f' : beats (pairing (last_end m ms ps) xq.0) (pairing (last_end m ms ps) xp.0) ≡ false =
      sym (ap₂ beats yq xp.1) ∙ not-beaten g (m ∷ ms) ps qs kp.1 kq.0 in
      xp.1 ∙ ap (pairing (last_end m ms ps)) (neither-beats (last_end m ms ps) xp.0 xq.0 f f') ∙ sym yq

-- Of a list in which elements of one kind have one pair, and there are two kinds, at most two pairs are different.
abbrev same_direction : Direction → Direction → Bool
same_direction leftward leftward = true
same_direction leftward rightward = false
same_direction rightward leftward = false
same_direction rightward rightward = true

-- two directions that the test calls one are one
same-direction : (d e : Direction) → same_direction d e ≡ true → d ≡ e
same-direction leftward leftward t = refl
same-direction leftward rightward t = clash t refl
same-direction rightward leftward t = clash t refl
same-direction rightward rightward t = refl

module _ {A : Type 0} (f : A → Pair) (kind : A → Direction) where
  -- 1 if there is an element of kind d, else 0
  unfoldable has : Direction → List A → ℕ
  has d [] = 0
  has d (x ∷ xs) = cond (same_direction d (kind x)) 1 (has d xs)

  -- it is at most 1, and an element in front does not make it less
  has-le : (d : Direction) (xs : List A) → has d xs ≤ 1
  unfolding has
  has-le d [] = omega arith
  has-le d (x ∷ xs) = by_bool (same_direction d (kind x)) (λ t. cond t 1 (has d xs) ≤ 1) (λ _. omega arith) (λ _. has-le d xs)

  has_more : (d : Direction) (x : A) (xs : List A) → has d xs ≤ has d (x ∷ xs)
  unfolding has
  has_more d x xs = by_bool (same_direction d (kind x)) (λ t. has d xs ≤ cond t 1 (has d xs)) (λ _. has-le d xs) (λ _. omega arith)

  -- without an element of its kind
  none_has : (d : Direction) (xs : List A) → ((y : A) → Member y xs → d ≡ kind y → ⊥) → has d xs ≡ 0
  unfolding has
  none_has d [] no_one = refl
  none_has d (x ∷ xs) no_one =
      by_bool (same_direction d (kind x)) (λ t. cond t 1 (has d xs) ≡ 0) (λ e. absurd (no_one x (inl refl) (same-direction d (kind x) e)))
      (λ _. none_has d xs (λ y m. no_one y (inr m)))

  -- the first element of its kind makes it 1
  first-has : (d : Direction) (x : A) (xs : List A) → d ≡ kind x → has d xs ≡ 0 → has d xs + 1 ≤ has d (x ∷ xs)
  unfolding has
  first-has leftward x xs e z = rw (sym e) (omega arith)
  first-has rightward x xs e z = rw (sym e) (omega arith)

  -- so a new kind makes the sum of both one more
  new-kind : (d : Direction) (x : A) (xs : List A) → d ≡ kind x → has d xs ≡ 0
      → suc (has leftward xs + has rightward xs) ≤ has leftward (x ∷ xs) + has rightward (x ∷ xs)
  new-kind leftward x xs e z = omega (arith, first-has leftward x xs e z, has_more rightward x xs)
  new-kind rightward x xs e z = omega (arith, first-has rightward x xs e z, has_more leftward x xs)

  -- equal pairs pass the test, and the pair of a listed element is listed
  same_test : (x y : A) → f x ≡ f y → same_pair (f x) (f y) ≡ true
  same_test x y e =
      rw e
      (both (eqb (f y).larger (f y).larger) (eqb (f y).smaller (f y).smaller) (eq-eqb (f y).larger (f y).larger refl)
      (eq-eqb (f y).smaller (f y).smaller refl))

  listed-pair : (xs : List A) (y : A) → Member y xs → Member (f y) (map f xs)
  listed-pair (x ∷ xs) y (inl e) = inl (ap f e)
  listed-pair (x ∷ xs) y (inr m) = inr (listed-pair xs y m)
  listed-pair [] y x' = elim x' [ ]

  -- if elements of one kind have one pair, there are no more pairs than kinds
  few-pairs : (xs : List A) → ((x y : A) → Member x xs → Member y xs → kind x ≡ kind y → f x ≡ f y)
      → length (distinct (map f xs)) ≤ has leftward xs + has rightward xs
  unfolding distinct
  few-pairs [] h = omega arith
  few-pairs (x ∷ xs) h =
      let rest : length (distinct (map f xs)) ≤ has leftward xs + has rightward xs = few-pairs xs (λ y z m n. h y z (inr m) (inr n)) in
      by_bool (any_of (same_pair (f x)) (map f xs))
      (λ t. length (cond t (distinct (map f xs)) (f x ∷ distinct (map f xs))) ≤ has leftward (x ∷ xs) + has rightward (x ∷ xs))
      (λ _. omega (arith, has_more leftward x xs, has_more rightward x xs))
      (λ e. omega (
        arith,
        new-kind (kind x) x xs refl
            (none_has (kind x) xs
            (λ y m k. clash (any-of-member (same_pair (f x)) (map f xs) (f y) (listed-pair xs y m) (same_test x y (h x y (inl refl) (inr m) k))) e)),
      ))

-- At most two different pairs are unbeaten.
pub two-unbeaten : (g : ℕ) (m : Mark) (ms : List Mark) → Rising (m ∷ ms) → Beyond empty_reach (m ∷ ms) → unbeaten_count g (m ∷ ms) ≤ 2
unfolding unbeaten_count
two-unbeaten g m ms rise big =
    let xs : List (List Position) = keep (unbeaten g (m ∷ ms)) (part_layouts g (m ∷ ms)) in
    omega (
      arith,
      few-pairs (pair_of (m ∷ ms)) last_direction xs (one-pair g m ms rise big),
      has-le (pair_of (m ∷ ms)) last_direction leftward xs,
      has-le
          (pair_of (m ∷ ms)) last_direction rightward xs,
    )
