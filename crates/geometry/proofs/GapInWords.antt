-- Overlap at a gap is what document 02 says in words: the spans share more than an end point, or fewer dots than the gap lie between the
-- nearer ends. Either one label begins before the other ends and the other way round, and both tests hold at every gap; or one of them
-- lies to the right of the other, and then the test of its left end decides. At gap 0 no dots are too few, so the old meaning is left.
use mathlib.Core.Path.{◌≡◌, refl, ap, ap₂}
use mathlib.Core.Bool.{Bool, true, false, ◌&&◌, ◌||◌, and-true, or-false}
use Prim.Native.Nat.{ℕ, suc, ◌+◌, ◌-◌, ◌≤◌, ◌<◌}
use native.Mathlib.Omega.{arith}
use lib.Dec.{leb, ltb}
use borrow.Author.Tests.{le-leb, lt-leb, lt-ltb}
use Rattle.geometry.specs.Mark.{Mark}
use Rattle.geometry.specs.Position.{Side, Direction, at, same_side}
use Rattle.geometry.specs.Overlap.{left_end, right_end, overlaps, shares_more, fewer_between}
use Rattle.geometry.proofs.Split.{by-ltb, same_test}
use Rattle.geometry.proofs.Machine.{left_le, right-ge}

-- two tests of less are equal if each holds where the other does
same-less : (a b c d : ℕ) → (a < b → c < d) → (c < d → a < b) → ltb a b ≡ ltb c d
same-less a b c d f g = same_test (suc a) b (suc c) d f g

-- a test and itself, or itself
twice : (t : Bool) → (t && t) ≡ (t || t)
twice true = refl
twice false = refl

-- of two spans from a to b and from c to d, with the gap behind them to y and to x
by-ends : (g a b c d : ℕ) {x y : ℕ} → a ≤ b → c ≤ d → x ≡ d + g → y ≡ b + g
    → (ltb a x && ltb c y) ≡ ((ltb a d && ltb c b) || ((leb b c && ltb (c - b) g) || (leb d a && ltb (a - d) g)))
by-ends g a b c d {x} {y} h k e f =
    let words : Bool → Bool → Bool = λ s t. (s && t) || ((leb b c && ltb (c - b) g) || (leb d a && ltb (a - d) g)) in
    let Goal : Bool → Bool → Type 0 = λ s t. (ltb a x && ltb c y) ≡ words s t in
    by-ltb a d (λ s. Goal s (ltb c b))
    (λ (begins : a < d).
    by-ltb c b (Goal true)
    (λ (shares : c < b). rw (lt-ltb a x (omega arith), lt-ltb c y (omega arith)) refl)
    (λ (right : b ≤ c).
    rw (lt-ltb a x (omega arith), le-leb b c right, lt-leb d a begins, or-false (ltb (c - b) g))
    (same-less c y (c - b) g (omega arith) (omega arith))))
    (λ (left : d ≤ a).
    by-ltb c b (Goal false)
    (λ (ends : c < b).
    rw (lt-ltb c y (omega arith), le-leb d a left, lt-leb b c ends, and-true (ltb a x))
    (same-less a x (a - d) g (omega arith) (omega arith)))
    (λ (right : b ≤ c).
    rw (
      le-leb d a left,
      le-leb b c right,
      same-less a x (a - d) g (omega arith) (omega arith),
      same-less c y (a - d) g (omega arith) (omega arith),
      same-less (c - b) g (a - d) g (omega arith) (omega arith),
    )
    (twice (ltb (a - d) g))))

module _ (m n : Mark) (s t : Side) (d e : Direction) where
  pub overlap-in-words : (g : ℕ)
      → overlaps g m (at s d) n (at t e) ≡ (same_side s t && (shares_more m d n e || (fewer_between g m d n e || fewer_between g n e m d)))
  overlap-in-words g =
      ap (λ (b : Bool). same_side s t && b)
      (by-ends g (left_end m d) (right_end m d) (left_end n e) (right_end n e) (omega (arith, left_le m d, right-ge m d))
      (omega (arith, left_le n e, right-ge n e)) (omega arith)
      (omega arith))

  pub overlap-at-gap-0 : overlaps 0 m (at s d) n (at t e) ≡ (same_side s t && shares_more m d n e)
  overlap-at-gap-0 =
      ap (λ (b : Bool). same_side s t && b)
      (ap₂ (λ (b c : Bool). b && c) (ap (ltb (left_end m d)) (omega arith)) (ap (ltb (left_end n e)) (omega arith)))
