-- Sets of quadrants, of pairs and of triples of them, as numbers with a bit for each: for the quadrants 1 to 4 the bits 0 to 3, for the pair of
-- p and q the bit 4p + q, for the triple of p, q and r the bit 16p + 4q + r, where p, q and r count from 0.
use Rattle.std.specs.Prelude.{ℕ, ◌+◌, ◌*◌, ◌≡◌, Bool, true, false}
use Rattle.std.specs.Int.{bit_at}
use Rattle.slope.specs.Square.{Quadrant, AboveRight, AboveLeft, BelowLeft, BelowRight}

abbrev pub index : Quadrant → ℕ
index AboveRight = 0
index AboveLeft = 1
index BelowLeft = 2
index BelowRight = 3

abbrev pub digit : Bool → ℕ
digit true = 1
digit false = 0

-- the set holds those that pass the test
pub record Quadrants (set : ℕ) (holds : Quadrant → Bool) : Type 0 where
  pub each : (q : Quadrant) → bit_at set (index q) ≡ digit (holds q)

pub record Pairs (set : ℕ) (holds : Quadrant → Quadrant → Bool) : Type 0 where
  pub each : (p q : Quadrant) → bit_at set (4 * index p + index q) ≡ digit (holds p q)

pub record Triples (set : ℕ) (holds : Quadrant → Quadrant → Quadrant → Bool) : Type 0 where
  pub each : (p q r : Quadrant) → bit_at set (16 * index p + (4 * index q + index r)) ≡ digit (holds p q r)
