-- Of two marks a distance apart along an axis the squares share more than an end point there exactly if the distance is below what they cover
-- between the marks: nothing where they turn away from each other, a side where they lie alike, two sides where they face each other.
use mathlib.Core.Path.{◌≡◌, refl, sym, ◌∙◌, ap}
use mathlib.Core.Bool.{Bool, true, false, not}
use Prim.Native.Nat.{ℕ, ◌+◌, ◌*◌, ◌<◌, ◌≤◌}
use native.Mathlib.Omega.{arith}
use mathlib.Core.Logic.{⊎_elim}
use lib.Dec.{ltb}
use Rattle.std.proofs.Common.{rules}
use lib.IntN.{ℤ, pos, ◌-ℤ◌}
use lib.Signed.{lt_z}
use mir.Val.{bool_byte}
use borrow.Author.Tests.{lt-ltb, ltb-true}
use Rattle.std.proofs.lemmas.Bool.{true_from_ne_false}
use Rattle.std.proofs.lemmas.Int.{ints}
use Rattle.geometry.specs.Position.{Direction, leftward, rightward}
use Rattle.geometry.specs.SignedEnds.{signed_left_end as low, signed_right_end as high}
use Rattle.geometry.proofs.Split.{same_answer, lt-or-ge}
use Rattle.slope.specs.Square.{spans_share}
use Rattle.slope.specs.inner.Spreads.{apart_in, SpreadIs}
use Rattle.slope.proofs.Spans.{EndsBefore, begins-before, begins-after}

abbrev covered : ℕ → Direction → Direction → ℕ
covered side leftward leftward = side
covered side leftward rightward = 0
covered side rightward leftward = 2 * side
covered side rightward rightward = side

-- a bound that is not reached
below : {n distance : ℕ} → (n ≤ distance → false ≡ true) → distance < n
below {n} {distance} fails = ⊎_elim (λ h. h) (λ h. absurd (mathlib.Core.Bool.false≢true (fails h))) (lt-or-ge distance n)

module _ (side : ℕ) (c e : ℤ) (rise : lt_z c e ≡ true) (distance : ℕ) (is : e -ℤ c ≡ pos distance) where
  decided : (d f : Direction) (n : ℕ) → (lt_z (low e side f) (high c side d) ≡ true → distance < n) → (EndsBefore side c d e f → n ≤ distance)
      → spans_share side c d e f ≡ ltb distance n
  decided d f n share end =
      same_answer _ _ (λ h. lt-ltb distance n (share (begins-before side c d e f h)))
      (λ h. true_from_ne_false _ (λ fails. absurd (omega (arith, ltb-true distance n h, end (begins-after side c d e f rise fails)))))

  shared : (d f : Direction) → spans_share side c d e f ≡ ltb distance (covered side d f)
  shared leftward leftward = decided leftward leftward side (λ h. omega (arith, ints)) (λ h. omega (arith, ints))
  shared leftward rightward = decided leftward rightward 0 (λ h. absurd (omega (arith, ints))) (λ h. omega arith)
  shared rightward leftward = decided rightward leftward (2 * side) (λ h. omega (arith, ints)) (λ h. omega (arith, ints))
  shared rightward rightward = decided rightward rightward side (λ h. omega (arith, ints)) (λ h. omega (arith, ints))

  -- the number of sides between the marks tells this of every two squares
  abbrev Tells : ℕ → Type 0
  Tells sides = (d f : Direction) → apart_in sides d f ≡ not (ltb distance (covered side d f))

  none : distance < side → Tells 0
  none = search rules

  one : side ≤ distance → distance < 2 * side → Tells 1
  one = search rules

  two : 2 * side ≤ distance → Tells 2
  two = search rules

  by-tests : (a-side both-sides : Bool) → (a-side ≡ true → side ≤ distance) × (side ≤ distance → a-side ≡ true)
      → (both-sides ≡ true → 2 * side ≤ distance) × (2 * side ≤ distance → both-sides ≡ true) → Tells (bool_byte a-side + bool_byte both-sides)
  by-tests true true first second = two (second.0 refl)
  by-tests true false first second = one (first.0 refl) (below second.1)
  by-tests false true first second = absurd (omega (arith, below first.1, second.0 refl))
  by-tests false false first second = none (below first.1)

  pub sides-tell : (a-side both-sides : Bool) → (a-side ≡ true → side ≤ distance) × (side ≤ distance → a-side ≡ true)
      → (both-sides ≡ true → 2 * side ≤ distance) × (2 * side ≤ distance → both-sides ≡ true)
      → SpreadIs side c e (bool_byte a-side + bool_byte both-sides)
  sides-tell a-side both-sides first second = record { each = λ d f. by-tests a-side both-sides first second d f ∙ ap not (sym (shared d f)) }
