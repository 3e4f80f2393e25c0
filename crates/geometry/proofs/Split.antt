-- Case splits on the tests that definitions compute with. A goal about a test holds if it holds at each of its two answers, and each
-- answer says what was tested: so a proof about a definition goes on with plain facts about numbers.
use mathlib.Core.Path.{◌≡◌, refl, sym}
use mathlib.Core.Bool.{Bool, true, false, ◌&&◌, ◌||◌}
use mathlib.Core.Logic.{◌⊎◌, inl, inr}
use Prim.Native.Nat.{ℕ, ◌≤◌, ◌<◌, max}
use native.Mathlib.Omega.{arith}
use native.Mathlib.Decide.{dec_le}
use lib.Dec.{leb, ltb, eqb}
use borrow.Author.Tests.{le-leb, leb-true, leb-false, ltb-true, ltb-false, eq-eqb, eqb-true, eqb-false}

-- a goal about a test, from the goal at each of its two answers
pub by_bool {ℓ} : (t : Bool) (P : Bool → Type ℓ) → (t ≡ true → P true) → (t ≡ false → P false) → P t
by_bool true P f g = f refl
by_bool false P f g = g refl

pub by-leb {ℓ} : (a b : ℕ) (P : Bool → Type ℓ) → (a ≤ b → P true) → (b < a → P false) → P (leb a b)
by-leb a b P f g = by_bool (leb a b) P (λ e. f (leb-true a b e)) (λ e. g (leb-false a b e))

pub by-ltb {ℓ} : (a b : ℕ) (P : Bool → Type ℓ) → (a < b → P true) → (b ≤ a → P false) → P (ltb a b)
by-ltb a b P f g = by_bool (ltb a b) P (λ e. f (ltb-true a b e)) (λ e. g (ltb-false a b e))

pub by_eqb {ℓ} : (a b : ℕ) (P : Bool → Type ℓ) → (a ≡ b → P true) → ((a ≡ b → ⊥) → P false) → P (eqb a b)
by_eqb a b P f g = by_bool (eqb a b) P (λ e. f (eqb-true a b e)) (λ e. g (eqb-false a b e))

-- two tests are equal if each holds where the other does
pub same_answer : (s t : Bool) → (s ≡ true → t ≡ true) → (t ≡ true → s ≡ true) → s ≡ t
same_answer true t f g = sym (f refl)
same_answer false true f g = g refl
same_answer false false f g = refl

-- so a test is that of a bound, or of two numbers, if it holds exactly where they stand so
pub is-leb : (n m : ℕ) {t : Bool} → (t ≡ true → n ≤ m) × (n ≤ m → t ≡ true) → t ≡ leb n m
is-leb n m (so, only_so) = same_answer _ _ (λ test. le-leb n m (so test)) (λ test. only_so (leb-true n m test))

pub is-eqb : (n m : ℕ) {t : Bool} → (t ≡ true → n ≡ m) × (n ≡ m → t ≡ true) → t ≡ eqb n m
is-eqb n m (so, only_so) = same_answer _ _ (λ test. eq-eqb n m (so test)) (λ test. only_so (eqb-true n m test))

-- of two comparisons this is said by numbers; a test of less is one of at most, of the number after
pub same_test : (a b c d : ℕ) → (a ≤ b → c ≤ d) → (c ≤ d → a ≤ b) → leb a b ≡ leb c d
same_test a b c d f g =
    same_answer (leb a b) (leb c d) (λ t. le-leb c d (f (leb-true a b t))) (λ t. le-leb a b (g (leb-true c d t)))

-- at most the greater of two bounds: at most one of them
pub leb-max : (o x y : ℕ) → leb o (max x y) ≡ (leb o x || leb o y)
leb-max o x y =
    by-leb o x (λ t. leb o (max x y) ≡ (t || leb o y))
    (λ h. le-leb o (max x y) (omega arith))
    (λ h. same_test o (max x y) o y (omega arith) (omega arith))

-- of two numbers the one is less, or the other is not more
pub lt-or-ge : (a b : ℕ) → (a < b) ⊎ (b ≤ a)
lt-or-ge a b = elim (dec_le b a) [ yes h ↦ inr h | no h ↦ inl (omega arith) ]

-- conjunction, disjunction and negation of tests
pub both : (s t : Bool) → s ≡ true → t ≡ true → (s && t) ≡ true
both true t p q = q
both false t p q = p

pub and-fst : (s t : Bool) → (s && t) ≡ true → s ≡ true
and-fst true t e = refl
and-fst false t e = e

pub and-snd : (s t : Bool) → (s && t) ≡ true → t ≡ true
and-snd true t e = e
and-snd false t e = absurd (mathlib.Core.Bool.false≢true e)

-- a number from a least to a greatest one, by its test
pub least-to : (least most v : ℕ) → (leb least v && leb v most) ≡ true → (least ≤ v) × (v ≤ most)
least-to least most v e =
    (leb-true least v (and-fst (leb least v) (leb v most) e), leb-true v most (and-snd (leb least v) (leb v most) e))

pub one-to : (most v : ℕ) → (leb 1 v && leb v most) ≡ true → (1 ≤ v) × (v ≤ most)
one-to = least-to 1

-- a test does not have both answers
pub clash {ℓ} : {X : Type ℓ} {t : Bool} → t ≡ true → t ≡ false → X
clash {t = true} p q = absurd (mathlib.Core.Bool.true≢false q)
clash {t = false} p q = absurd (mathlib.Core.Bool.false≢true p)

pub or_cases : (s t : Bool) → (s || t) ≡ true → (s ≡ true) ⊎ (t ≡ true)
or_cases true t e = inl refl
or_cases false t e = inr e

pub or_left : (s t : Bool) → s ≡ true → (s || t) ≡ true
or_left true t e = refl
or_left false t e = absurd (mathlib.Core.Bool.false≢true e)

pub or_right : (s t : Bool) → t ≡ true → (s || t) ≡ true
or_right true t e = refl
or_right false t e = e
