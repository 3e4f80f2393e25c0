-- `slope::pairs::ending_with` meets its contract: the product is four copies of the set in a row, and so holds a triple where the set holds its
-- last two.
use mathlib.Core.Path.{◌≡◌, ap, ◌∙◌}
use mathlib.Core.Bool.{Bool}
use Prim.Native.Nat.{ℕ, zero, suc, ◌+◌, ◌-◌, ◌*◌, ◌^◌, ◌<◌}
use native.Mathlib.Nat.{zero-add}
use native.Mathlib.Omega.{arith}
use Rattle.std.specs.Int.{bit_at}
use Rattle.std.proofs.lemmas.Nat.Bits.{bit_at_cat_low, bit_at_cat_high}
use Rattle.slope.specs.Square.{Quadrant}
use Rattle.slope.specs.inner.Sets.{index, Pairs, Triples}
use Rattle.slope.proofs.Sets.{index-below}
use Rattle.slope.proofs.pairs.ending_with.Goals as goal

abbrev copies : ℕ → ℕ → ℕ
copies zero set = 0
copies (suc n) set = copies n set * 2 ^ 16 + set

bit-of-copies : (n set j i : ℕ) → set < 2 ^ 16 → j < n → i < 16 → bit_at (copies n set) (16 * j + i) ≡ bit_at set i
bit-of-copies zero set j i fits h within = absurd (omega arith)
bit-of-copies (suc n) set zero i fits h within =
    bit_at_cat_low (copies n set) 16 set (16 * 0 + i) (omega arith) ∙ ap (bit_at set) (zero-add i)
bit-of-copies (suc n) set (suc j) i fits h within =
    bit_at_cat_high (copies n set) 16 set (16 * suc j + i) fits (omega arith)
    ∙ ap (bit_at (copies n set)) (let e : 16 * suc j + i - 16 ≡ 16 * j + i = omega arith in e)
    ∙ bit-of-copies n set j i fits (omega arith) within

ends-with : {pairs triples : ℕ} {holds : Quadrant → Quadrant → Bool} → pairs < 2 ^ 16 → triples ≡ copies 4 pairs
    → Pairs pairs holds → Triples triples (λ p q r. holds q r)
ends-with {pairs} fits is set = record {
  each = λ p q r.
      ap (λ n. bit_at n (16 * index p + (4 * index q + index r))) is
      ∙ bit-of-copies 4 pairs (index p) _ fits (index-below p) (omega (arith, index-below q, index-below r))
      ∙ set.each q r;
}

pub returns : goal.returns
returns c holds pairs = ends-with (omega arith) (omega arith) pairs
