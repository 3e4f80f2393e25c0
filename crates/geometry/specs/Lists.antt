-- Words about lists that the definitions of document 01 are written with.
use Rattle.std.specs.Prelude.{ℕ, zero, suc, ◌+◌, max, List, [], ◌∷◌, ◌++◌, map, Bool, false, cond, ◌||◌}
use Rattle.std.proofs.Math.Option.{Option, none, some}

-- some element passes it
unfoldable pub any_of {ℓ} : {A : Type ℓ} → (A → Bool) → List A → Bool
any_of p [] = false
any_of p (x ∷ xs) = p x || any_of p xs

-- the elements that pass it
unfoldable pub keep {ℓ} : {A : Type ℓ} → (A → Bool) → List A → List A
keep p [] = []
keep p (x ∷ xs) = cond (p x) (x ∷ keep p xs) (keep p xs)

-- the first element that passes it
unfoldable pub first_of {ℓ} : {A : Type ℓ} → (A → Bool) → List A → Option A
first_of p [] = none
first_of p (x ∷ xs) = cond (p x) (some x) (first_of p xs)

-- the greatest value of f over the elements that pass p, 0 if none does
unfoldable pub greatest_of {ℓ} : {A : Type ℓ} → (A → Bool) → (A → ℕ) → List A → ℕ
greatest_of p f [] = 0
greatest_of p f (x ∷ xs) = max (cond (p x) (f x) 0) (greatest_of p f xs)

unfoldable pub sum_list : List ℕ → ℕ
sum_list [] = 0
sum_list (x ∷ xs) = x + sum_list xs

-- each letter in front of each word
unfoldable pub prefixed {ℓ} : {A : Type ℓ} → List A → List (List A) → List (List A)
prefixed [] words = []
prefixed (a ∷ letters) words = map (λ w. a ∷ w) words ++ prefixed letters words

-- all lists of n letters; the first letters of the list come first, compared from the front
unfoldable pub words_of {ℓ} : {A : Type ℓ} → List A → ℕ → List (List A)
words_of letters zero = [] ∷ []
words_of letters (suc n) = prefixed letters (words_of letters n)
