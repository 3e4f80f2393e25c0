-- "Some word passes a test" over all words of a length is decided letter by letter: a word is its first letter and the rest, so some
-- word passes exactly if, for some letter, some shorter word passes behind it. So a list of sides that passes is found, and what is found
-- is one.
use mathlib.Core.Path.{◌≡◌, refl, sym, ◌∙◌, ap}
use mathlib.Core.Bool.{Bool, true, false, ◌||◌}
use mathlib.Core.Logic.{⊎_elim}
use mathlib.Core.List.{List, [], ◌∷◌, ◌++◌, map}
use Prim.Native.Nat.{ℕ, zero, suc}
use lib.ListN.{length}
use Rattle.geometry.specs.Lists.{any_of, prefixed, words_of}
use Rattle.geometry.specs.Position.{Side, above, below}
use Rattle.geometry.proofs.Split.{or_cases, or_left, or_right}

or_assoc : (s t u : Bool) → ((s || t) || u) ≡ (s || (t || u))
or_assoc true t u = refl
or_assoc false t u = refl

-- some element of two lists passes if one of the first or of the second does
pub any_append : {A : Type 0} (p : A → Bool) (xs ys : List A) → any_of p (xs ++ ys) ≡ (any_of p xs || any_of p ys)
unfolding any_of
any_append p [] ys = refl
any_append p (x ∷ xs) ys = ap (λ (t : Bool). p x || t) (any_append p xs ys) ∙ sym (or_assoc (p x) (any_of p xs) (any_of p ys))

-- some value of a function passes if it does at some element
pub any-map : {A B : Type 0} (p : B → Bool) (f : A → B) (xs : List A) → any_of p (map f xs) ≡ any_of (λ x. p (f x)) xs
unfolding any_of
any-map p f [] = refl
any-map p f (x ∷ xs) = ap (λ (t : Bool). p (f x) || t) (any-map p f xs)

-- some word passes if, behind some letter, some shorter word does
pub any-prefixed : {A : Type 0} (p : List A → Bool) (letters : List A) (words : List (List A))
    → any_of p (prefixed letters words) ≡ any_of (λ a. any_of (λ w. p (a ∷ w)) words) letters
unfolding any_of prefixed
any-prefixed p [] words = refl
any-prefixed p (a ∷ letters) words =
    any_append p (map (λ w. a ∷ w) words) (prefixed letters words) ∙ rw (any-map p (λ w. a ∷ w) words, any-prefixed p letters words) refl

-- the letters: the two sides
abbrev pub both_sides : List Side
both_sides = above ∷ below ∷ []

-- a list of sides that passes is found among all lists of its length
pub any-sides : (p : List Side → Bool) (ss : List Side) → p ss ≡ true → any_of p (words_of both_sides (length ss)) ≡ true
unfolding any_of words_of
any-sides p [] e = or_left (p []) false e
any-sides p (above ∷ ss) e =
    any-prefixed p both_sides (words_of both_sides (length ss))
    ∙ or_left (any_of (λ w. p (above ∷ w)) (words_of both_sides (length ss))) _ (any-sides (λ w. p (above ∷ w)) ss e)
any-sides p (below ∷ ss) e =
    any-prefixed p both_sides (words_of both_sides (length ss))
    ∙ or_right (any_of (λ w. p (above ∷ w)) (words_of both_sides (length ss))) _
    (or_left (any_of (λ w. p (below ∷ w)) (words_of both_sides (length ss))) false (any-sides (λ w. p (below ∷ w)) ss e))

-- a list of n sides that passes
pub record Found (p : List Side → Bool) (n : ℕ) : Type 0 where
  pub word : List Side
  pub long : length word ≡ n
  pub passes : p word ≡ true

-- what is found among them is a list of that length that passes
pub sides-found : (n : ℕ) (p : List Side → Bool) → any_of p (words_of both_sides n) ≡ true → Found p n
unfolding any_of words_of
sides-found zero p e =
    record { word = []; long = refl; passes = ⊎_elim (λ h. h) (λ h. absurd (mathlib.Core.Bool.false≢true h)) (or_cases (p []) false e) }
sides-found (suc n) p e =
    ⊎_elim
    (λ h. let f : Found (λ w. p (above ∷ w)) n = sides-found n (λ w. p (above ∷ w)) h in record
    { word = above ∷ f.word; long = ap suc f.long; passes = f.passes })
    (λ k. ⊎_elim
    (λ h. let f : Found (λ w. p (below ∷ w)) n = sides-found n (λ w. p (below ∷ w)) h in record
    { word = below ∷ f.word; long = ap suc f.long; passes = f.passes })
    (λ h. absurd (mathlib.Core.Bool.false≢true h))
    (or_cases (any_of (λ w. p (below ∷ w)) (words_of both_sides n)) false k))
    (or_cases _ _ (sym (any-prefixed p both_sides (words_of both_sides n)) ∙ e))
