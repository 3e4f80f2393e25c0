-- What sets of quadrants hold, bit by bit. A bit of `&` is the lesser of two bits and one of `|` the greater, as the digit of `&&` is the lesser
-- of two digits and that of `||` the greater: so what two sets hold both or either, and whether a set holds one of some quadrants.
use mathlib.Core.Path.{◌≡◌, refl, ap, ◌∙◌}
use mathlib.Core.Bool.{Bool, true, ◌&&◌, ◌||◌}
use mathlib.Core.List.{List, [], ◌∷◌, map}
use Prim.Native.Nat.{ℕ, ◌+◌, ◌/◌, ◌%◌, ◌^◌, ◌<◌, min, max}
use native.Mathlib.Omega.{arith}
use Rattle.std.specs.Int.{bit_at}
use Rattle.std.proofs.Common.{rules, bit_and, bit_or}
use Rattle.std.proofs.lemmas.Nat.{shr-shr}
use Rattle.std.proofs.lemmas.Nat.Bits.{bit_at_and, bit_at_or}
use Rattle.geometry.specs.Lists.{any_of}
use Rattle.slope.specs.Square.{Quadrant, AboveRight, AboveLeft, BelowLeft, BelowRight}
use Rattle.slope.specs.inner.Sets.{index, digit, Quadrants, Pairs, Triples}

-- what holds of each quadrant by itself
pub by-quadrant {ℓ} : (P : Quadrant → Type ℓ) → P AboveRight → P AboveLeft → P BelowLeft → P BelowRight → (q : Quadrant) → P q
by-quadrant P one two three four AboveRight = one
by-quadrant P one two three four AboveLeft = two
by-quadrant P one two three four BelowLeft = three
by-quadrant P one two three four BelowRight = four

pub index-below : (q : Quadrant) → index q < 4
index-below = search rules

digit-and : (s t : Bool) → min (digit s) (digit t) ≡ digit (s && t)
digit-and = search rules

pub digit-or : (s t : Bool) → max (digit s) (digit t) ≡ digit (s || t)
digit-or = search rules

-- a shift brings a bit so many places down
pub bit-of-shift : (set k i : ℕ) → bit_at (set / 2 ^ k) i ≡ bit_at set (k + i)
bit-of-shift set k i = ap (λ n. n % 2) (shr-shr set k i)

module _ (a b i : ℕ) (s t : Bool) (in_a : bit_at a i ≡ digit s) (in_b : bit_at b i ≡ digit t) where
  in-both : bit_at (bit_and a b) i ≡ digit (s && t)
  in-both = bit_at_and a b i ∙ (λ k. min (in_a k) (in_b k)) ∙ digit-and s t

  in-either : bit_at (bit_or a b) i ≡ digit (s || t)
  in-either = bit_at_or a b i ∙ (λ k. max (in_a k) (in_b k)) ∙ digit-or s t

-- what both hold, and what either holds
pub quadrants-and : {a b : ℕ} {f g : Quadrant → Bool} → Quadrants a f → Quadrants b g → Quadrants (bit_and a b) (λ q. f q && g q)
quadrants-and {a} {b} s t = record { each = λ q. in-both a b _ _ _ (s.each q) (t.each q) }

pub pairs-and : {a b : ℕ} {f g : Quadrant → Quadrant → Bool} → Pairs a f → Pairs b g → Pairs (bit_and a b) (λ p q. f p q && g p q)
pairs-and {a} {b} s t = record { each = λ p q. in-both a b _ _ _ (s.each p q) (t.each p q) }

pub pairs-or : {a b : ℕ} {f g : Quadrant → Quadrant → Bool} → Pairs a f → Pairs b g → Pairs (bit_or a b) (λ p q. f p q || g p q)
pairs-or {a} {b} s t = record { each = λ p q. in-either a b _ _ _ (s.each p q) (t.each p q) }

pub triples-and : {a b : ℕ} {f g : Quadrant → Quadrant → Quadrant → Bool}
    → Triples a f → Triples b g → Triples (bit_and a b) (λ p q r. f p q r && g p q r)
triples-and {a} {b} s t = record { each = λ p q r. in-both a b _ _ _ (s.each p q r) (t.each p q r) }

pub triples-or : {a b : ℕ} {f g : Quadrant → Quadrant → Quadrant → Bool}
    → Triples a f → Triples b g → Triples (bit_or a b) (λ p q r. f p q r || g p q r)
triples-or {a} {b} s t = record { each = λ p q r. in-either a b _ _ _ (s.each p q r) (t.each p q r) }

-- the sets that hold all
pub quadrants-all : Quadrants 0xf (λ q. true)
quadrants-all = search rules

pub pairs-all : Pairs 0xffff (λ p q. true)
pairs-all = search rules

-- the lowest four bits hold what the whole number does
pub quadrants-alone : {set : ℕ} {holds : Quadrant → Bool} → Quadrants set holds → Quadrants (bit_and set 0xf) holds
quadrants-alone {set} s = record { each = λ q. omega (arith, bit_at_and set 0xf (index q), quadrants-all.each q, s.each q) }

-- the greatest of a set's bits at some places
abbrev pub most : ℕ → List ℕ → ℕ
most set [] = 0
most set (i ∷ is) = max (bit_at set i) (most set is)

-- of bits that quadrants have it says whether one of these holds
pub most-any : (set : ℕ) (place : Quadrant → ℕ) (holds : Quadrant → Bool) → ((q : Quadrant) → bit_at set (place q) ≡ digit (holds q))
    → (qs : List Quadrant) → most set (map place qs) ≡ digit (any_of holds qs)
unfolding any_of
most-any set place holds each [] = refl
most-any set place holds each (q ∷ qs) =
    (λ k. max (each q k) (most-any set place holds each qs k)) ∙ digit-or (holds q) (any_of holds qs)
