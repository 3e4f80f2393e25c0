-- An outcome is a value or a refusal, and its number tells which: 0 for a value, and else the refusal's own, which is never 0.
-- A value that is given has passed each check on the way, and a refusal goes through whatever would follow it.
use mathlib.Core.Path.{◌≡◌, refl, sym, ◌∙◌, ap}
use mathlib.Core.Bool.{Bool, true, false}
use Prim.Native.Nat.{ℕ, ◌≤◌}
use lib.Dec.{leb}
use borrow.Author.Tests.{leb-true}
use native.Mathlib.Omega.{arith}
use Rattle.geometry.specs.declared.refusal.Refusal.{Refusal}
use Rattle.geometry.specs.Refusal.{refusal_number, accepted, refused, number_of, after_check}
use Rattle.geometry.proofs.Verdicts.{refusal-positive}
use Rattle.job.specs.Outcome.{Outcome, given, refusal, checked, and_then, verdict_of}

-- an outcome that is a refusal with number n
pub record IsRefused {A : Type 0} (n : ℕ) (d : Outcome A) : Type 0 where
  pub which : Refusal
  pub is : d ≡ refusal which
  pub number : n ≡ refusal_number which

-- an outcome that is a value with a property
pub record IsGiven {A : Type 0} (d : Outcome A) (P : A → Type 0) : Type 0 where
  pub value : A
  pub is : d ≡ given value
  pub holds : P value

-- no refusal is a value
pub never : {A X : Type 0} (r : Refusal) (a : A) → ◌≡◌ {A = Outcome A} (refusal r) (given a) → X
never r a e = let z : ◌≡◌ {A = ℕ} 0 1 = cc in absurd (omega arith)

-- one outcome has one value
pub given-same : {A : Type 0} {a b : A} → ◌≡◌ {A = Outcome A} (given a) (given b) → a ≡ b
given-same e = cc

-- the number tells a refusal from a value
pub number-refused : {A : Type 0} (n : ℕ) (d : Outcome A) → n ≡ number_of (verdict_of d) → (n ≡ 0 → ⊥) → IsRefused n d
number-refused n (given a) e h = absurd (h e)
number-refused n (refusal r) e h = record { which = r; is = refl; number = e }

pub number-given : {A : Type 0} (n : ℕ) (d : Outcome A) → n ≡ number_of (verdict_of d) → n ≡ 0 → IsGiven d (λ a. Unit {0})
number-given n (given a) e h = record { value = a; is = refl; holds = tt }
number-given n (refusal r) e h = absurd (refusal-positive r (sym e ∙ h))

-- so does the verdict
pub accepted-given : {A : Type 0} (d : Outcome A) → verdict_of d ≡ accepted → IsGiven d (λ a. Unit {0})
accepted-given (given a) e = record { value = a; is = refl; holds = tt }
accepted-given (refusal r) e = let z : ◌≡◌ {A = ℕ} 0 1 = cc in absurd (omega arith)

-- the other way: a value that stands behind a check that was passed
pub record Passed {A : Type 0} (t : Bool) (o : Outcome A) (a : A) : Type 0 where
  pub passes : t ≡ true
  pub after : o ≡ given a

-- it does, if it is given
pub checked-given : {A : Type 0} (t : Bool) (r : Refusal) (o : Outcome A) (a : A) → checked t r o ≡ given a → Passed t o a
checked-given true r o a e = record { passes = refl; after = e }
checked-given false r o a e = never r a e

-- a value that was made from another value
pub record Through {A B : Type 0} (d : Outcome A) (f : A → Outcome B) (b : B) : Type 0 where
  pub first : A
  pub is : d ≡ given first
  pub after : f first ≡ given b

-- it was, if it is given
pub then-given : {A B : Type 0} (d : Outcome A) (f : A → Outcome B) (b : B) → and_then d f ≡ given b → Through d f b
then-given (given a) f b e = record { first = a; is = refl; after = e }
then-given (refusal r) f b e = never r b e

-- a check that refused refuses what stands behind it, and one that passed leaves it
pub check-refused : {A : Type 0} (t : Bool) (q r : Refusal) (o : Outcome A) → refused r ≡ after_check t q accepted → checked t q o ≡ refusal r
check-refused true q r o e = absurd (refusal-positive r (ap number_of e))
check-refused false q r o e = let same : r ≡ q = cc in ap (λ (r : Refusal). refusal r) (sym same)

pub check-passed : {A : Type 0} (t : Bool) (q : Refusal) (o : Outcome A) → accepted ≡ after_check t q accepted → checked t q o ≡ o
check-passed true q o e = refl
check-passed false q o e = absurd (refusal-positive q (sym (ap number_of e)))

-- an outcome is the refusal that its verdict is
pub verdict-refused : {A : Type 0} (o : Outcome A) (r : Refusal) → refused r ≡ verdict_of o → o ≡ refusal r
verdict-refused (given a) r e = absurd (refusal-positive r (ap number_of e))
verdict-refused (refusal q) r e = let same : r ≡ q = cc in ap (λ (r : Refusal). refusal r) (sym same)

-- a count that was checked is no more than the most
pub check-holds : (n most : ℕ) (q : Refusal) → accepted ≡ after_check (leb n most) q accepted → n ≤ most
check-holds n most q e = leb-true n most (passed (leb n most) e)
  where
    passed : (t : Bool) → accepted ≡ after_check t q accepted → t ≡ true
    passed true e = refl
    passed false e = absurd (refusal-positive q (sym (ap number_of e)))
