-- A call that refuses by one of its checks before the work gives that check's number and leaves each lent list as it was. Each contract says this
-- list by list: of the full pass by the verdict, of the slide and the best pass because the number of a refusal is not 0.
use mathlib.Core.Path.{◌≡◌, sym, ◌∙◌, ap, ap₂}
use Prim.Native.Nat.{ℕ}
use Rattle.geometry.specs.Strip.{Strip}
use Rattle.geometry.specs.Refusal.{refusal_number, refused, number_of}
use Rattle.geometry.specs.declared.refusal.Refusal.{Refusal}
use Rattle.geometry.proofs.Verdicts.{refusal-positive}
use Rattle.geometry.proofs.Lent.{same-three}
use Rattle.full.specs.Full.{FullLent, full_lent, full_checks, FullContract}
use Rattle.slide.specs.Slide.{SlideLent, slide_lent, slide_checks, SlideContract}
use Rattle.best.specs.Best.{BestAnswer, BestLent, best_lent, best_checks, BestContract}

module _ (s : Strip) (gap : ℕ) (r : Refusal) where
  -- the three passes in turn; the best pass also gives sum and count 0
  pub full-refused : (lent left : FullLent) (number : ℕ) → FullContract s gap lent left number → full_checks s gap lent ≡ refused r
      → (number ≡ refusal_number r) × (left ≡ lent)
  full-refused lent left number call e =
      (rw e at call.number_is, ap₂ full_lent (rw e at call.positions-are) (rw e at call.work-is))

  pub slide-refused : (lent left : SlideLent) (number : ℕ) → SlideContract s gap lent left number → slide_checks s gap lent ≡ refused r
      → (number ≡ refusal_number r) × (left ≡ lent)
  slide-refused lent left number call e =
      let number_is : number ≡ refusal_number r = rw e at call.number_is in
      let same = call.where-refused (λ zero. refusal-positive r (sym number_is ∙ zero)) in
      (number_is, same-three slide_lent same.sides-unchanged same.edges-unchanged (rw e at call.work-is))

  pub best-refused : (lent left : BestLent) (answer : BestAnswer) → BestContract s gap lent left answer → best_checks s gap lent ≡ refused r
      → (answer.number ≡ refusal_number r) × (answer.sum ≡ 0) × (answer.count ≡ 0) × (left ≡ lent)
  best-refused lent left answer call e =
      let same = call.where-refused (λ passed. refusal-positive r (ap number_of (sym e ∙ passed))) in (
        rw e at call.number_is,
        same.sum-zero,
        same.count-zero,
        same-three best_lent same.positions-unchanged same.left-out-unchanged same.work-unchanged,
      )
