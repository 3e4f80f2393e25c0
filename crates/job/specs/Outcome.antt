-- "The first check that is not passed decides. Every refusal gives its number": what a job call finds, a value or a refusal.
use Rattle.std.specs.Prelude.{Bool, true, false, Result, Ok, Err}
use Rattle.geometry.specs.declared.refusal.Refusal.{Refusal}
use Rattle.geometry.specs.Refusal.{Verdict, accepted, refused}

pub data Outcome (A : Type 0) : Type 0 where
  given : A → Outcome A
  refusal : Refusal → Outcome A

-- what follows a check: the refusal where it is not passed
abbrev pub checked : {A : Type 0} → Bool → Refusal → Outcome A → Outcome A
checked true r o = o
checked false r o = refusal r

-- what follows a value that was found
abbrev pub and_then : {A B : Type 0} → Outcome A → (A → Outcome B) → Outcome B
and_then (given a) f = f a
and_then (refusal r) f = refusal r

-- whether it is a refusal, and which: `number_of` gives document 01's number
abbrev pub verdict_of : {A : Type 0} → Outcome A → Verdict
verdict_of (given a) = accepted
verdict_of (refusal r) = refused r

-- what an answer hands over, seen by a view of it: the same two cases
abbrev pub outcome_of : {X A : Type 0} → (X → A) → Result X Refusal → Outcome A
outcome_of view (Ok x) = given (view x)
outcome_of view (Err r) = refusal r
