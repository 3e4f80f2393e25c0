-- Few pairs of squares and few triples of marks are enough.
use Prim.Native.Nat.{ℕ}
use Rattle.slope.specs.Enough.{Enough}
use Rattle.slope.proofs.Locality.{of-four}
use Rattle.slope.proofs.ByTwo.{by-two}
use Rattle.slope.proofs.FirstTwo.{by-first-two}

pub enough : (side : ℕ) → Enough side
enough side = record { of-four = of-four side; by-two = by-two side; by-first-two = by-first-two }
