-- What `keep`, `every` and `any_of` say of a list they say of its elements: an element is kept exactly if it is listed and passes the test;
-- if every element passes, so does each one listed, and if not, some listed element fails; an element that is listed and passes is one
-- that passes among them. Each is an induction on the list with a case split on the test of its first element.
use mathlib.Core.Path.{◌≡◌, refl, sym, ◌∙◌, ap}
use mathlib.Core.Bool.{Bool, true, false, cond, ◌&&◌}
use mathlib.Core.Logic.{inl, inr, ⊎_elim}
use mathlib.Core.List.{List, [], ◌∷◌}
use Rattle.geometry.specs.Lists.{any_of, keep}
use Rattle.std.specs.List.{list_all}
use Rattle.geometry.proofs.Split.{by_bool, and-fst, and-snd, clash, or_left, or_right}
use Rattle.geometry.proofs.Words.{Member}

module _ {A : Type 0} (p : A → Bool) where
  -- an element is kept exactly if it is listed and passes
  pub kept-passes : (xs : List A) (x : A) → Member x (keep p xs) → Member x xs × (p x ≡ true)
  unfolding keep
  kept-passes [] x = λ m. absurd m
  kept-passes (y ∷ xs) x =
      by_bool (p y) (λ t. Member x (cond t (y ∷ keep p xs) (keep p xs)) → Member x (y ∷ xs) × (p x ≡ true))
      (λ e. ⊎_elim (λ q. (inl q, ap p q ∙ e)) (λ m. let r = kept-passes xs x m in (inr r.0, r.1)))
      (λ e m. let r = kept-passes xs x m in (inr r.0, r.1))

  -- if every element passes, so does one that is listed
  pub every-passes : (xs : List A) (x : A) → list_all p xs ≡ true → Member x xs → p x ≡ true
  every-passes (y ∷ xs) x e (inl q) = ap p q ∙ and-fst (p y) (list_all p xs) e
  every-passes (y ∷ xs) x e (inr m) = every-passes xs x (and-snd (p y) (list_all p xs) e) m
  every-passes [] x e x4 = elim x4 [ ]

  -- a listed element that fails
  pub record Failing (xs : List A) : Type 0 where
    pub element : A
    pub listed : Member element xs
    pub fails : p element ≡ false

  -- there is one if not every element passes
  pub one-fails : (xs : List A) → list_all p xs ≡ false → Failing xs
  one-fails [] = λ e. clash refl e
  one-fails (y ∷ xs) =
      by_bool (p y) (λ t. (t && list_all p xs) ≡ false → Failing (y ∷ xs))
      (λ _ e. let r = one-fails xs e in record { element = r.element; listed = inr r.listed; fails = r.fails })
      (λ q e. record { element = y; listed = inl refl; fails = q })

  -- if a listed element passes, some element does
  pub any-of-member : (xs : List A) (x : A) → Member x xs → p x ≡ true → any_of p xs ≡ true
  unfolding any_of
  any-of-member (y ∷ xs) x (inl q) e = or_left (p y) (any_of p xs) (sym (ap p q) ∙ e)
  any-of-member (y ∷ xs) x (inr m) e = or_right (p y) (any_of p xs) (any-of-member xs x m e)
  any-of-member [] x x4 e = elim x4 [ ]
