-- The enumerations of the definitions hold what they should: `words_of letters n` has exactly the lists of n letters,
-- `first_of` gives an element that passes where there is one, and `greatest_of` is the greatest value.
use mathlib.Core.Path.{◌≡◌, refl, sym, ◌∙◌, ap}
use mathlib.Core.Bool.{Bool, true, false, cond}
use mathlib.Core.List.{List, [], ◌∷◌, ◌++◌, map}
use mathlib.Core.Logic.{◌⊎◌, inl, inr, ⊎_elim}
use mathlib.Core.Option.{none, some}
use Prim.Native.Nat.{ℕ, zero, suc, ◌≤◌, ◌<◌, max}
use native.Mathlib.Omega.{arith}
use lib.ListN.{length, get_or}
use Rattle.geometry.specs.Lists.{first_of, greatest_of, prefixed, words_of}
use Rattle.geometry.specs.inner.Each.{Each}
use Rattle.geometry.proofs.Split.{by_bool, clash, lt-or-ge}

-- x is an element of the list
abbrev pub Member : {A : Type 0} → A → List A → Type 0
Member x [] = ⊥
Member x (y ∷ ys) = (x ≡ y) ⊎ Member x ys

-- each element of a word is one of the letters
abbrev pub Spelled : {A : Type 0} → List A → List A → Type 0
Spelled letters w = Each (λ a. Member a letters) w

-- the element at an index is one of the list
pub member-at : {A : Type 0} (d : A) (xs : List A) (i : ℕ) → i < length xs → Member (get_or xs i d) xs
member-at d [] i h = absurd (omega arith)
member-at d (x ∷ xs) zero h = inl refl
member-at d (x ∷ xs) (suc i) h = inr (member-at d xs i (omega arith))

-- an element of two lists together is one of the first or of the second
member-left : {A : Type 0} (x : A) (xs ys : List A) → Member x xs → Member x (xs ++ ys)
member-left x (y ∷ xs) ys (inl e) = inl e
member-left x (y ∷ xs) ys (inr m) = inr (member-left x xs ys m)
member-left {A = A} x [] ys x'' = elim x'' [ ]

pub member_right : {A : Type 0} (x : A) (xs ys : List A) → Member x ys → Member x (xs ++ ys)
member_right x [] ys m = m
member_right x (y ∷ xs) ys m = inr (member_right x xs ys m)

pub member-either : {A : Type 0} (x : A) (xs ys : List A) → Member x (xs ++ ys) → Member x xs ⊎ Member x ys
member-either x [] ys m = inr m
member-either x (y ∷ xs) ys (inl e) = inl (inl e)
member-either x (y ∷ xs) ys (inr m) = ⊎_elim (λ k. inl (inr k)) inr (member-either x xs ys m)

module _ {A : Type 0} where
  -- a letter in front of each word
  member-prefix : (a : A) (w : List A) (words : List (List A)) → Member w words → Member (a ∷ w) (map (λ v. a ∷ v) words)
  member-prefix a w (v ∷ words) (inl e) = inl (ap (λ (u : List A). a ∷ u) e)
  member-prefix a w (v ∷ words) (inr m) = inr (member-prefix a w words m)
  member-prefix a w [] x' = elim x' [ ]

  -- a word that begins with a
  pub prefix-of : (a : A) (v : List A) (words : List (List A)) → Member v (map (λ u. a ∷ u) words) → (w : List A) × (v ≡ a ∷ w) × Member w words
  prefix-of a v (u ∷ words) (inl e) = (u, e, inl refl)
  prefix-of a v (u ∷ words) (inr m) = let r = prefix-of a v words m in (r.0, r.1, inr r.2)
  prefix-of a v [] x' = elim x' [ ]

  -- each letter in front of each word
  member-prefixed : (a : A) (w : List A) (letters : List A) (words : List (List A)) → Member a letters → Member w words
      → Member (a ∷ w) (prefixed letters words)
  unfolding prefixed
  member-prefixed a w (b ∷ letters) words (inl e) m =
      rw e (member-left (b ∷ w) (map (λ v. b ∷ v) words) (prefixed letters words) (member-prefix b w words m))
  member-prefixed a w (b ∷ letters) words (inr k) m =
      member_right (a ∷ w) (map (λ v. b ∷ v) words) (prefixed letters words) (member-prefixed a w letters words k m)
  member-prefixed a w [] words x'' m = elim x'' [ ]

  -- a letter and a word that a longer word is made of
  pub record Parts (letters : List A) (words : List (List A)) (v : List A) : Type 0 where
    pub letter : A
    pub rest : List A
    pub is : v ≡ letter ∷ rest
    pub letter-in : Member letter letters
    pub rest_in : Member rest words

  -- and every longer word is made of the two
  pub prefixed-parts : (v : List A) (letters : List A) (words : List (List A)) → Member v (prefixed letters words) → Parts letters words v
  unfolding prefixed
  prefixed-parts v (b ∷ letters) words m =
      ⊎_elim
      (λ k. let r = prefix-of b v words k in record { letter = b; rest = r.0; is = r.1; letter-in = inl refl; rest_in = r.2 })
      (λ k. let r = prefixed-parts v letters words k in record
      { letter = r.letter; rest = r.rest; is = r.is; letter-in = inr r.letter-in; rest_in = r.rest_in })
      (member-either v (map (λ u. b ∷ u) words) (prefixed letters words) m)
  prefixed-parts v [] words m = elim m [ ]

  -- every list of n letters is among the words
  pub word-listed : (letters w : List A) → Spelled letters w → Member w (words_of letters (length w))
  unfolding words_of
  word-listed letters [] s = inl refl
  word-listed letters (a ∷ w) s = member-prefixed a w letters _ s.0 (word-listed letters w s.1)

  -- and every word has letters only
  pub word-spelled : (letters : List A) (n : ℕ) (w : List A) → Member w (words_of letters n) → Spelled letters w
  unfolding words_of
  word-spelled letters zero w (inl e) = rw e tt
  word-spelled letters (suc n) w m =
      let r = prefixed-parts w letters _ m in
      rw r.is (r.letter-in, word-spelled letters n r.rest r.rest_in)
  word-spelled letters zero w (inr x'') = elim x'' [ ]

-- something is not nothing
pub never-none : {A : Type 0} {X : Type 0} (x : A) → some x ≡ none → X
never-none x e = let z : ◌≡◌ {A = ℕ} 0 1 = cc in absurd (omega arith)

module _ {A : Type 0} (p : A → Bool) where
  -- `first_of` gives nothing exactly if no element passes
  pub none_passes : (xs : List A) → first_of p xs ≡ none → (x : A) → Member x xs → p x ≡ false
  unfolding first_of
  none_passes (y ∷ xs) e x (inl k) =
      rw k (by_bool (p y) (λ t. cond t (some y) (first_of p xs) ≡ none → t ≡ false) (λ _ h. never-none y h) (λ _ h. refl) e)
  none_passes (y ∷ xs) e x (inr m) =
      by_bool (p y) (λ t. cond t (some y) (first_of p xs) ≡ none → p x ≡ false) (λ _ h. never-none y h) (λ _ h. none_passes xs h x m) e
  none_passes [] e x x4 = elim x4 [ ]

  -- what it gives is an element that passes
  pub found-passes : (xs : List A) (x : A) → first_of p xs ≡ some x → Member x xs × (p x ≡ true)
  unfolding first_of
  found-passes [] x e = never-none x (sym e)
  found-passes (y ∷ xs) x e =
      by_bool (p y) (λ t. p y ≡ t → cond t (some y) (first_of p xs) ≡ some x → Member x (y ∷ xs) × (p x ≡ true))
      (λ _ q h. let k : x ≡ y = cc in (inl k, ap p k ∙ q))
      (λ _ q h. let r = found-passes xs x h in (inr r.0, r.1))
      refl
      e

  -- and if some element passes it gives one
  pub one_found : (xs : List A) (x : A) → Member x xs → p x ≡ true → (y : A) × (first_of p xs ≡ some y)
  unfolding first_of
  one_found (y ∷ xs) x m q =
      by_bool (p y) (λ t. p y ≡ t → (z : A) × (cond t (some y) (first_of p xs) ≡ some z))
      (λ _ _. (y, refl))
      (λ _ n. ⊎_elim (λ k. clash q (ap p k ∙ n)) (λ k. one_found xs x k q) m)
      refl
  one_found [] x m q = elim m [ ]

  -- no element that passes has a greater value than `greatest_of`
  pub greatest-bounds : (f : A → ℕ) (xs : List A) (x : A) → Member x xs → p x ≡ true → f x ≤ greatest_of p f xs
  unfolding greatest_of
  greatest-bounds f (y ∷ xs) x (inl k) q = rw (k, rw k at q) (omega arith)
  greatest-bounds f (y ∷ xs) x (inr m) q = let h = greatest-bounds f xs x m q in omega arith
  greatest-bounds f [] x x4 q = elim x4 [ ]

  -- an element that passes and has the value v
  pub record Attained (f : A → ℕ) (xs : List A) (v : ℕ) : Type 0 where
    pub element : A
    pub listed : Member element xs
    pub passes : p element ≡ true
    pub worth : f element ≡ v

  -- it stands in a longer list too
  attained-later : (f : A → ℕ) (xs : List A) (y : A) (v : ℕ) → Attained f xs v → Attained f (y ∷ xs) v
  attained-later f xs y v a = record { element = a.element; listed = inr a.listed; passes = a.passes; worth = a.worth }

  -- the greatest value is attained, or it is 0
  attained-or-zero : (f : A → ℕ) (xs : List A) → (greatest_of p f xs ≡ 0) ⊎ Attained f xs (greatest_of p f xs)
  unfolding greatest_of
  attained-or-zero f [] = inl refl
  attained-or-zero f (y ∷ xs) =
      by_bool (p y)
      (λ t. p y ≡ t → (max (cond t (f y) 0) (greatest_of p f xs) ≡ 0) ⊎ Attained f (y ∷ xs) (max (cond t (f y) 0) (greatest_of p f xs)))
      (λ _ q.
      ⊎_elim
      (λ h. ⊎_elim
      (λ z. inr (record { element = y; listed = inl refl; passes = q; worth = omega arith }))
      (λ a. inr (attained-later f xs y _ (record { element = a.element; listed = a.listed; passes = a.passes; worth = a.worth ∙ omega arith })))
      (attained-or-zero f xs))
      (λ h. inr (record { element = y; listed = inl refl; passes = q; worth = omega arith }))
      (lt-or-ge (f y) (greatest_of p f xs)))
      (λ _ q.
      ⊎_elim
      (λ z. inl (omega arith))
      (λ a. inr (attained-later f xs y _ (record { element = a.element; listed = a.listed; passes = a.passes; worth = a.worth ∙ omega arith })))
      (attained-or-zero f xs))
      refl

  -- some element that passes has it, if any passes
  pub greatest-attained : (f : A → ℕ) (xs : List A) (x : A) → Member x xs → p x ≡ true → Attained f xs (greatest_of p f xs)
  greatest-attained f xs x m q =
      ⊎_elim
      (λ z. let h = greatest-bounds f xs x m q in record { element = x; listed = m; passes = q; worth = omega arith })
      (λ a. a)
      (attained-or-zero f xs)
