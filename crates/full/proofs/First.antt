-- The first placing by enumeration is the one that the walk takes. Where places rise, a choice is free exactly if the walk over it goes
-- through. The first word that goes through begins with the first letter behind which some word goes on, and goes on with the first
-- such word; that some word goes on is what `can` says, and the letter is what `pick` takes.
use mathlib.Core.Path.{◌≡◌, refl, sym, ◌∙◌, ap, ap₂}
use mathlib.Core.Bool.{Bool, true, false, cond, ◌&&◌, ◌||◌}
use mathlib.Core.List.{List, [], ◌∷◌, ◌++◌, map}
use mathlib.Core.Option.{Option, none, some}
use Prim.Native.Nat.{ℕ}
use lib.ListN.{length}
use Rattle.geometry.specs.Lists.{first_of, prefixed, words_of}
use Rattle.geometry.specs.Dot.{empty_reach}
use Rattle.geometry.specs.Mark.{Mark}
use Rattle.geometry.specs.Position.{Position, at, above, below, leftward, rightward, ranked}
use Rattle.geometry.specs.Overlap.{free}
use Rattle.geometry.specs.Placing.{first_placing}
use Rattle.geometry.specs.inner.Rising.{Rising}
use Rattle.geometry.specs.inner.Machine.{room_for, next_above, next_below, Go}
use Rattle.geometry.proofs.Split.{both, and-fst, and-snd, clash}
use Rattle.geometry.proofs.Machine.{room-passes, passes-room, free-iff-go}
use Rattle.full.specs.inner.Rest.{can, leaves, first_passed_lem, steps, walk}

-- the walk over a given choice, as a test
unfoldable goes : ℕ → ℕ → ℕ → List Mark → List Position → Bool
goes g a b [] [] = true
goes g a b [] (p ∷ ps) = false
goes g a b (m ∷ ms) [] = false
goes g a b (m ∷ ms) (p ∷ ps) = room_for a b m p && goes g (next_above g a m p) (next_below g b m p) ms ps

-- the test says what the walk says
goes-go : (g a b : ℕ) (ms : List Mark) (ps : List Position) → goes g a b ms ps ≡ true → Go g a b ms ps
unfolding goes
goes-go g a b [] [] e = tt
goes-go g a b [] (p ∷ ps) e = clash e refl
goes-go g a b (m ∷ ms) [] e = clash e refl
goes-go g a b (m ∷ ms) (p ∷ ps) e =
    let rest = goes g (next_above g a m p) (next_below g b m p) ms ps in (
      passes-room a b m p (and-fst (room_for a b m p) rest e),
      goes-go g (next_above g a m p) (next_below g b m p) ms ps (and-snd (room_for a b m p) rest e),
    )

go-goes : (g a b : ℕ) (ms : List Mark) (ps : List Position) → Go g a b ms ps → goes g a b ms ps ≡ true
unfolding goes
go-goes g a b [] [] h = refl
go-goes g a b [] (p ∷ ps) h = absurd h
go-goes g a b (m ∷ ms) [] h = absurd h
go-goes g a b (m ∷ ms) (p ∷ ps) h =
    both (room_for a b m p) (goes g (next_above g a m p) (next_below g b m p) ms ps) (room-passes a b m p h.0)
    (go-goes g (next_above g a m p) (next_below g b m p) ms ps h.1)

-- two tests are equal if each is passed where the other is
same_bool : (s t : Bool) → (s ≡ true → t ≡ true) → (t ≡ true → s ≡ true) → s ≡ t
same_bool true t f h = sym (f refl)
same_bool false true f h = h refl
same_bool false false f h = refl

-- in a rising strip a choice is free exactly if it passes the walk's test
free-goes : (g : ℕ) (ms : List Mark) → Rising ms → (ps : List Position) → free g ms ps ≡ goes g empty_reach empty_reach ms ps
free-goes g ms r ps =
    same_bool (free g ms ps) (goes g empty_reach empty_reach ms ps)
    (λ e. go-goes g empty_reach empty_reach ms ps ((free-iff-go g ms ps r).0 e))
    (λ e. (free-iff-go g ms ps r).1 (goes-go g empty_reach empty_reach ms ps e))

-- the first of a list, by parts: of the first part if it has one, else of the second
abbrev or_else : {A : Type 0} → Option A → Option A → Option A
or_else none o = o
or_else (some x) o = some x

-- what a function makes of what was found
abbrev mapped : {A B : Type 0} → (A → B) → Option A → Option B
mapped f none = none
mapped f (some x) = some (f x)

module _ {A : Type 0} where
  -- equal tests find the same
  first-same : (p q : A → Bool) → ((x : A) → p x ≡ q x) → (xs : List A) → first_of p xs ≡ first_of q xs
  unfolding first_of
  first-same p q e [] = refl
  first-same p q e (x ∷ xs) = ap₂ (λ (t : Bool) (o : Option A). cond t (some x) o) (e x) (first-same p q e xs)

  -- the first of two lists put together
  or-else-cond : (t : Bool) (x : A) (o o' : Option A) → cond t (some x) (or_else o o') ≡ or_else (cond t (some x) o) o'
  or-else-cond true x o o' = refl
  or-else-cond false x o o' = refl

  first-append : (p : A → Bool) (xs ys : List A) → first_of p (xs ++ ys) ≡ or_else (first_of p xs) (first_of p ys)
  unfolding first_of
  first-append p [] ys = refl
  first-append p (x ∷ xs) ys = ap (cond (p x) (some x)) (first-append p xs ys) ∙ or-else-cond (p x) x (first_of p xs) (first_of p ys)

  -- a test that nothing passes finds nothing
  first-never : (xs : List A) → first_of (λ (x : A). false) xs ≡ none
  unfolding first_of
  first-never [] = refl
  first-never (x ∷ xs) = first-never xs

-- the first of a list that a function was applied to
map-cond : {A B : Type 0} (f : A → B) (t : Bool) (x : A) (o : Option A) → cond t (some (f x)) (mapped f o) ≡ mapped f (cond t (some x) o)
map-cond f true x o = refl
map-cond f false x o = refl

first-map : {A B : Type 0} (p : B → Bool) (f : A → B) (xs : List A) → first_of p (map f xs) ≡ mapped f (first_of (λ x. p (f x)) xs)
unfolding first_of
first-map p f [] = refl
first-map p f (x ∷ xs) = ap (cond (p (f x)) (some (f x))) (first-map p f xs) ∙ map-cond f (p (f x)) x (first_of (λ x. p (f x)) xs)

-- a word behind a letter, if a test is passed
abbrev word_if : Bool → Position → List Position → Option (List Position)
word_if t p w = cond t (some (p ∷ w)) none

-- the first of four letters whose tests are known, each with the word behind it
first-of-four : (two three one four : Bool) (word : Position → List Position)
    → or_else (word_if two (at above leftward) (word (at above leftward)))
    (or_else (word_if three (at below leftward) (word (at below leftward)))
    (or_else (word_if one (at above rightward) (word (at above rightward)))
    (or_else (word_if four (at below rightward) (word (at below rightward))) none)))
    ≡ word_if (two || (three || (one || four))) (first_passed_lem two three one) (word (first_passed_lem two three one))
first-of-four true three one four word = refl
first-of-four false true one four word = refl
first-of-four false false true four word = refl
first-of-four false false false true word = refl
first-of-four false false false false word = refl

-- what the recursion finds
abbrev found : ℕ → ℕ → ℕ → List Mark → Option (List Position)
found g a b ms = cond (can g a b ms) (some (walk g a b ms)) none

-- what one letter in front gives, when the answer behind it is known
module _ (g a b : ℕ) (m : Mark) (ms : List Mark)
    (ih : (a' b' : ℕ) → first_of (goes g a' b' ms) (words_of ranked (length ms)) ≡ found g a' b' ms) where
  -- the words of the marks behind, those with a letter in front, and the one that the walk takes behind a letter
  abbrev words : List (List Position)
  words = words_of ranked (length ms)

  abbrev behind_letter : Position → List (List Position)
  behind_letter p = map (λ v. p ∷ v) words

  abbrev word_behind : Position → List Position
  word_behind p = walk g (next_above g a m p) (next_below g b m p) ms

  -- a letter in front of what may have been found
  prefix-cond : (t : Bool) (p : Position) (w : List Position) → mapped (λ v. p ∷ v) (cond t (some w) none) ≡ word_if t p w
  prefix-cond true p w = refl
  prefix-cond false p w = refl

  -- the letter has to fit, and then the first word behind it counts
  behind : (t : Bool) (p : Position) (q : List Position → Bool) (u : Bool) (w : List Position) → first_of q words ≡ cond u (some w) none
      → mapped (λ v. p ∷ v) (first_of (λ v. t && q v) words) ≡ word_if (t && u) p w
  behind true p q u w e = ap (mapped (λ v. p ∷ v)) e ∙ prefix-cond u p w
  behind false p q u w e = ap (mapped (λ v. p ∷ v)) (first-never words)

  -- so the first word with a letter in front is the letter and the walk behind it, if the letter leaves the rest possible
  one-letter : (p : Position) → first_of (goes g a b (m ∷ ms)) (behind_letter p) ≡ word_if (leaves g a b m ms p) p (word_behind p)
  unfolding goes
  one-letter p =
      let a' = next_above g a m p in
      let b' = next_below g b m p in
      first-map (goes g a b (m ∷ ms)) (λ v. p ∷ v) words
      ∙ behind (room_for a b m p) p (goes g a' b' ms) (can g a' b' ms) (word_behind p) (ih a' b')

  -- the words behind one letter, and then the others
  letter-first : (p : Position) (others : List (List Position)) (o : Option (List Position)) → first_of (goes g a b (m ∷ ms)) others ≡ o
      → first_of (goes g a b (m ∷ ms)) (behind_letter p ++ others) ≡ or_else (word_if (leaves g a b m ms p) p (word_behind p)) o
  letter-first p others o e = first-append (goes g a b (m ∷ ms)) (behind_letter p) others ∙ ap₂ or_else (one-letter p) e

  -- and the first of all four letters is the one that the walk picks
  four-letters : first_of (goes g a b (m ∷ ms)) (prefixed ranked words) ≡ found g a b (m ∷ ms)
  unfolding prefixed first_of can steps
  four-letters =
      let leaving = leaves g a b m ms in
      letter-first (at above leftward) _ _
      (letter-first (at below leftward) _ _
      (letter-first (at above rightward) _ _
      (letter-first (at below rightward) [] none refl)))
      ∙ first-of-four (leaving (at above leftward)) (leaving (at below leftward)) (leaving (at above rightward)) (leaving (at below rightward)) word_behind

-- so the first word that goes through is the walk's, by induction on the marks
first_walk : (g : ℕ) (ms : List Mark) (a b : ℕ) → first_of (goes g a b ms) (words_of ranked (length ms)) ≡ found g a b ms
unfolding words_of first_of goes can steps
first_walk g [] a b = refl
first_walk g (m ∷ ms) a b = four-letters g a b m ms (first_walk g ms)

-- First by enumeration = first by recursion = the walk.
pub first-placing-is : (g : ℕ) (ms : List Mark) → Rising ms
    → first_placing g ms ≡ cond (can g empty_reach empty_reach ms) (some (walk g empty_reach empty_reach ms)) none
unfolding first_placing
first-placing-is g ms r =
    first-same (free g ms) (goes g empty_reach empty_reach ms) (free-goes g ms r) (words_of ranked (length ms)) ∙ first_walk g ms empty_reach empty_reach
