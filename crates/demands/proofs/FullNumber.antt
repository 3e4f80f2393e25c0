-- What the number of the full pass says. Past the checks it is 0 with a first placing and 11 without, so it tells which of the two holds.
-- Neither is given before the checks are passed: no refusal has the number 0, and none of the checks has 11. There is no first placing
-- exactly if there is no placing at all.
use mathlib.Core.Path.{◌≡◌, refl, sym, ◌∙◌}
use mathlib.Core.Logic.{◌⊎◌, inl, inr, ⊎_elim, ◌↔◌}
use mathlib.Core.List.{List}
use mathlib.Core.Option.{Option, none, some}
use Prim.Native.Nat.{ℕ}
use native.Mathlib.Omega.{arith}
use lib.ListN.{length}
use Rattle.geometry.specs.Strip.{Strip, marks_of, most_marks}
use Rattle.geometry.specs.Position.{Position}
use Rattle.geometry.specs.Placing.{IsPlacing, first_placing}
use Rattle.geometry.specs.Refusal.{refusal_number, Verdict, accepted, refused, number_of}
use Rattle.geometry.specs.declared.refusal.Refusal.TheVariants.{NoPlacing}
use Rattle.geometry.proofs.Verdicts.{refusal-positive, pass-not-11}
use Rattle.geometry.proofs.Words.{never-none}
use Rattle.geometry.proofs.Whole.{placing-found, found-placing}
use Rattle.geometry.proofs.FirstPlacing.{found-is-first}
use Rattle.full.specs.Full.{work_named, FullLent, full_checks, full_verdict, FullContract}
use Rattle.demands.specs.Demands.{FirstPlaced}

-- past the checks
pub zero-or-11 : (o : Option (List Position)) (n : ℕ) → n ≡ number_of (full_verdict accepted o) → (n ≡ 0) ⊎ (n ≡ refusal_number NoPlacing)
zero-or-11 none n e = inr e
zero-or-11 (some ps) n e = inl e

-- number 0: the checks are passed, and there is a first placing
pub record Fits (v : Verdict) (o : Option (List Position)) : Type 0 where
  pub passed : v ≡ accepted
  pub placing : List Position
  pub is-first : o ≡ some placing

-- no other verdict has the number 0
fits-by-0 : (v : Verdict) (o : Option (List Position)) → number_of (full_verdict v o) ≡ 0 → Fits v o
fits-by-0 accepted none e = absurd (omega arith)
fits-by-0 accepted (some ps) e = record { passed = refl; placing = ps; is-first = refl }
fits-by-0 (refused r) o e = absurd (refusal-positive r e)

-- number 11: the checks are passed, and there is none
none-by-11 : (v : Verdict) (o : Option (List Position)) → (number_of v ≡ refusal_number NoPlacing → ⊥)
    → number_of (full_verdict v o) ≡ refusal_number NoPlacing → (v ≡ accepted) × (o ≡ none)
none-by-11 accepted none other e = (refl, refl)
none-by-11 accepted (some ps) other e = absurd (omega arith)
none-by-11 (refused r) o other e = absurd (other e)

-- a call of the full pass
module _ (s : Strip) (gap : ℕ) (lent left : FullLent) (number : ℕ) (call : FullContract s gap lent left number) where
  -- the first placing, if there is one
  abbrev first : Option (List Position)
  first = first_placing gap (marks_of s)

  -- what number 0 and number 11 say of the strip
  pub fits-at-0 : number ≡ 0 → Fits (full_checks s gap lent) first
  fits-at-0 zero = fits-by-0 (full_checks s gap lent) first (sym call.number_is ∙ zero)

  pub none-at-11 : number ≡ refusal_number NoPlacing → (full_checks s gap lent ≡ accepted) × (first ≡ none)
  none-at-11 eleven =
      let checks = pass-not-11 most_marks s gap (length lent.positions) work_named (length lent.work) in
      none-by-11 (full_checks s gap lent) first checks (sym call.number_is ∙ eleven)

  -- at 0 the first placing is listed, at 11 nothing is
  pub first-placed : number ≡ 0 → FirstPlaced s gap lent left
  first-placed zero =
      let f = fits-at-0 zero in
      record {
        placing = f.placing;
        listed = rw (f.passed, f.is-first) at call.positions-are;
        is-placing = found-placing gap (marks_of s) f.placing f.is-first;
        is-first = λ other placed. found-is-first gap (marks_of s) f.placing other f.is-first placed;
      }

  pub none-listed : number ≡ refusal_number NoPlacing → left.positions ≡ lent.positions
  none-listed eleven = rw ((none-at-11 eleven).0, (none-at-11 eleven).1) at call.positions-are

  module _ (passed : full_checks s gap lent ≡ accepted) where
    -- past the checks the number is 0 or 11
    pub answers : (number ≡ 0) ⊎ (number ≡ refusal_number NoPlacing)
    answers = zero-or-11 first number (rw passed at call.number_is)

    -- it is 0 exactly if there is a first placing, and 11 exactly if there is no placing at all
    pub fits-exactly : (number ≡ 0) ↔ (first ≡ none → ⊥)
    fits-exactly = (
      λ zero none_found. never-none (fits-at-0 zero).placing (sym (fits-at-0 zero).is-first ∙ none_found),
      λ found. ⊎_elim (λ zero. zero) (λ eleven. absurd (found (none-at-11 eleven).1)) answers,
    )

    pub none-exactly : (number ≡ refusal_number NoPlacing) ↔ ((ps : List Position) → IsPlacing gap (marks_of s) ps → ⊥)
    none-exactly = (
      λ eleven ps placed.
          let r = placing-found gap (marks_of s) ps placed.is_free placed.labels-all in
          never-none r.0 (sym r.1 ∙ (none-at-11 eleven).1),
      λ unplaced.
          ⊎_elim
          (λ zero. absurd (unplaced (fits-at-0 zero).placing (found-placing gap (marks_of s) (fits-at-0 zero).placing (fits-at-0 zero).is-first)))
          (λ eleven. eleven)
          answers,
    )
