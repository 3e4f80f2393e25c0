-- The placing that `first_placing` finds is the first: no placing comes before it, comparing from mark 1 on by rank. What `first_of` gives
-- stands at or before any other element that passes; and of two words of the enumeration the one that stands at or before the other
-- does not come after it: they begin with one letter and the rests stand so, or the letter of the first has the lower rank.
use mathlib.Core.Path.{◌≡◌, refl, sym, ◌∙◌, ap}
use mathlib.Core.Bool.{Bool, true, cond}
use mathlib.Core.List.{List, [], ◌∷◌, ◌++◌, map}
use mathlib.Core.Logic.{◌⊎◌, inl, inr, ⊎_elim}
use mathlib.Core.Option.{some}
use Prim.Native.Nat.{ℕ, zero, suc, ◌<◌}
use native.Mathlib.Omega.{arith}
use lib.ListN.{length}
use Rattle.geometry.specs.Lists.{first_of, prefixed, words_of}
use Rattle.geometry.specs.Mark.{Mark}
use Rattle.geometry.specs.Position.{Position, ranked}
use Rattle.geometry.specs.Overlap.{free}
use Rattle.geometry.specs.Placing.{IsPlacing, first_placing, rank, NotAfter}
use Rattle.geometry.proofs.Split.{by_bool, clash}
use Rattle.geometry.proofs.Words.{Member, prefix-of, prefixed-parts, member-either, word-listed}
use Rattle.geometry.proofs.Best.{free-length}
use Rattle.geometry.proofs.Whole.{labelled-spelled}

-- c stands in the list, and x at the same place or behind it
abbrev AtOrBefore : {A : Type 0} → A → A → List A → Type 0
AtOrBefore c x [] = ⊥
AtOrBefore c x (y ∷ ys) = ((c ≡ y) × Member x (y ∷ ys)) ⊎ AtOrBefore c x ys

-- what `first_of` gives stands at or before any element that passes
first-before : {A : Type 0} (p : A → Bool) (xs : List A) (c x : A) → first_of p xs ≡ some c → Member x xs → p x ≡ true → AtOrBefore c x xs
unfolding first_of
first-before p (y ∷ xs) c x e m passes =
    by_bool (p y) (λ t. p y ≡ t → cond t (some y) (first_of p xs) ≡ some c → AtOrBefore c x (y ∷ xs))
    (λ _ q h. let k : c ≡ y = cc in inl (k, m))
    (λ _ q h. inr (⊎_elim (λ k. clash passes (ap p k ∙ q)) (λ k. first-before p xs c x h k passes) m))
    refl
    e
first-before {A = A} p [] c x e m passes = elim m [ ]

-- two elements of a list in two parts: both in the first, one in each, or both in the second
before-append : {A : Type 0} (c x : A) (xs ys : List A) → AtOrBefore c x (xs ++ ys)
    → AtOrBefore c x xs ⊎ ((Member c xs × Member x ys) ⊎ AtOrBefore c x ys)
before-append c x [] ys b = inr (inr b)
before-append c x (y ∷ xs) ys (inl b) =
    ⊎_elim (λ (k : Member x (y ∷ xs)). inl (inl (b.0, k))) (λ k. inr (inl (inl b.0, k))) (member-either x (y ∷ xs) ys b.1)
before-append c x (y ∷ xs) ys (inr b) =
    ⊎_elim (λ k. inl (inr k)) (⊎_elim (λ k. inr (inl (inr k.0, k.1))) (λ k. inr (inr k))) (before-append c x xs ys b)

-- two words that begin with one letter
pub record SameFirst (a : Position) (words : List (List Position)) (c x : List Position) : Type 0 where
  pub c-rest : List Position
  pub x-rest : List Position
  pub c-is : c ≡ a ∷ c-rest
  pub x-is : x ≡ a ∷ x-rest
  pub in_order : AtOrBefore c-rest x-rest words

-- two words with one letter put in front of each stand in the order of the rests
same_first : (a : Position) (c x : List Position) (words : List (List Position)) → AtOrBefore c x (map (λ w. a ∷ w) words) → SameFirst a words c x
same_first a c x (v ∷ words) (inl b) =
    let r = prefix-of a x (v ∷ words) b.1 in
    record { c-rest = v; x-rest = r.0; c-is = b.0; x-is = r.1; in_order = inl (refl, r.2) }
same_first a c x (v ∷ words) (inr b) =
    let r = same_first a c x words b in
    record { c-rest = r.c-rest; x-rest = r.x-rest; c-is = r.c-is; x-is = r.x-is; in_order = inr r.in_order }
same_first a c x [] x'' = elim x'' [ ]

-- each letter has a lower rank than those behind it
abbrev BelowAll : Position → List Position → Type 0
BelowAll a letters = (b : Position) → Member b letters → rank a < rank b

-- and so on through the list of letters
abbrev RanksRise : List Position → Type 0
RanksRise [] = Unit {0}
RanksRise (a ∷ letters) = BelowAll a letters × RanksRise letters

-- the order of two words does not depend on how they are written
same-order : {c x d y : List Position} → c ≡ d → x ≡ y → NotAfter d y → NotAfter c x
same-order e f h = rw (e, f) h

module _ (words : List (List Position)) (sorted : (c x : List Position) → AtOrBefore c x words → NotAfter c x) where
  -- if words are sorted, so are all words with a letter of rising rank in front of each
  prefixed-sorted : (letters : List Position) → RanksRise letters → (c x : List Position) → AtOrBefore c x (prefixed letters words) → NotAfter c x
  unfolding prefixed
  prefixed-sorted (a ∷ letters) rise c x b =
      ⊎_elim
      (λ k. let r = same_first a c x words k in same-order r.c-is r.x-is (inr (refl, sorted r.c-rest r.x-rest r.in_order)))
      (⊎_elim
      (λ k.
      let r = prefix-of a c words k.0 in
      let t = prefixed-parts x letters words k.1 in
      same-order r.1 t.is (inl (rise.0 t.letter t.letter-in)))
      (prefixed-sorted letters rise.1 c x))
      (before-append c x (map (λ w. a ∷ w) words) (prefixed letters words) b)
  prefixed-sorted [] rise c x b = elim b [ ]

-- 2, 3, 1, 4 is the order by rank
ranks-rise : RanksRise ranked
ranks-rise = (
  λ b m. ⊎_elim (λ e. rw e (omega arith)) (⊎_elim (λ e. rw e (omega arith)) (⊎_elim (λ e. rw e (omega arith)) (λ k. absurd k))) m,
  (
    λ b m. ⊎_elim (λ e. rw e (omega arith)) (⊎_elim (λ e. rw e (omega arith)) (λ k. absurd k)) m,
    (λ b m. ⊎_elim (λ e. rw e (omega arith)) (λ k. absurd k) m, (λ b m. absurd m, tt)),
  ),
)

-- the enumeration is sorted
words-sorted : (n : ℕ) (c x : List Position) → AtOrBefore c x (words_of ranked n) → NotAfter c x
unfolding words_of
words-sorted zero c x (inl b) = ⊎_elim (λ (e : x ≡ []). rw (b.0, e) tt) (λ k. absurd k) b.1
words-sorted (suc n) c x b = prefixed-sorted (words_of ranked n) (words-sorted n) ranked ranks-rise c x b
words-sorted zero c x (inr x4) = elim x4 [ ]

-- "Of all placings it is the first"
pub found-is-first : (g : ℕ) (ms : List Mark) (ps qs : List Position) → first_placing g ms ≡ some ps → IsPlacing g ms qs → NotAfter ps qs
unfolding first_placing
found-is-first g ms ps qs e placing =
    let listed : Member qs (words_of ranked (length ms)) =
    rw (sym (free-length g ms qs placing.is_free)) (word-listed ranked qs (labelled-spelled qs placing.labels-all)) in
    words-sorted (length ms) ps qs (first-before (free g ms) (words_of ranked (length ms)) ps qs e listed placing.is_free)
