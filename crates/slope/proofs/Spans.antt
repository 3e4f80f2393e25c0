-- Of two marks of which the second has the greater coordinate, the squares share more than an end point along that axis exactly if the second
-- begins before the first ends: the first always begins before the second ends.
use mathlib.Core.Path.{◌≡◌}
use mathlib.Core.Bool.{true, false}
use mathlib.Core.Logic.{◌⊎◌, inl, inr, ⊎_elim}
use Prim.Native.Nat.{ℕ}
use native.Mathlib.Omega.{arith}
use lib.IntN.{ℤ, pos, ◌-ℤ◌}
use lib.Signed.{lt_z, le_z}
use Rattle.std.proofs.lemmas.Bool.{true_from_ne_false, and_cases}
use Rattle.std.proofs.lemmas.Int.{ints}
use Rattle.geometry.specs.Position.{Direction, leftward, rightward}
use Rattle.geometry.specs.SignedEnds.{signed_left_end as low, signed_right_end as high}
use Rattle.geometry.proofs.Split.{both, and-snd, clash}
use Rattle.slope.specs.Square.{Quadrant, along_x, along_y, spans_share, overlap}
use Rattle.slope.specs.Track.{Point}
use Rattle.slope.specs.Enough.{Rise}

-- a square along one axis: its mark is not outside, and it begins at most a side before it
pub record Span (side : ℕ) (c : ℤ) (d : Direction) : Type 0 where
  pub near : le_z (c -ℤ pos side) (low c side d) ≡ true
  pub from : le_z (low c side d) c ≡ true
  pub to : le_z c (high c side d) ≡ true

pub span : (side : ℕ) (c : ℤ) (d : Direction) → Span side c d
span side c leftward =
    record {
      near = true_from_ne_false _ (λ k. omega (arith, ints));
      from = true_from_ne_false _ (λ k. omega (arith, ints));
      to = true_from_ne_false _ (λ k. omega (arith, ints));
    }
span side c rightward =
    record {
      near = true_from_ne_false _ (λ k. omega (arith, ints));
      from = true_from_ne_false _ (λ k. omega (arith, ints));
      to = true_from_ne_false _ (λ k. omega (arith, ints));
    }

module _ (side : ℕ) (c : ℤ) (d : Direction) (e : ℤ) (f : Direction) where
  -- the second begins before the first ends
  pub begins-before : spans_share side c d e f ≡ true → lt_z (low e side f) (high c side d) ≡ true
  begins-before h = and-snd (lt_z (low c side d) (high e side f)) (lt_z (low e side f) (high c side d)) h

  pub begins-after : lt_z c e ≡ true → spans_share side c d e f ≡ false → le_z (high c side d) (low e side f) ≡ true
  begins-after rise fails =
      let first-from = (span side c d).from in
      let second-to = (span side e f).to in
      let one : lt_z (low c side d) (high e side f) ≡ true = true_from_ne_false _ (λ k. omega (arith, ints)) in
      true_from_ne_false _ (λ k. let two : lt_z (low e side f) (high c side d) ≡ true = true_from_ne_false _ (λ l. omega (arith, ints)) in
      clash (both (lt_z (low c side d) (high e side f)) (lt_z (low e side f) (high c side d)) one two) fails)

-- along an axis the first ends before the second begins
abbrev pub EndsBefore : ℕ → ℤ → Direction → ℤ → Direction → Type 0
EndsBefore side c d e f = le_z (high c side d) (low e side f) ≡ true

-- of two squares that do not overlap the second begins behind the first along one of the axes
pub free-along : (side : ℕ) (a : Point) (p : Quadrant) (b : Point) (q : Quadrant) → Rise a b → overlap side a p b q ≡ false
    → EndsBefore side a.x (along_x p) b.x (along_x q) ⊎ EndsBefore side a.y (along_y p) b.y (along_y q)
free-along side a p b q rise fails =
    ⊎_elim (λ h. inl (begins-after side a.x (along_x p) b.x (along_x q) rise.in-x h))
    (λ h. inr (begins-after side a.y (along_y p) b.y (along_y q) rise.in-y h))
    (and_cases (spans_share side a.x (along_x p) b.x (along_x q)) (spans_share side a.y (along_y p) b.y (along_y q)) fails)
