-- What the program is to write to standard output: the whole listing of the job that it was handed. An output that holds the longest text is
-- never too small, so there is always something to write.
use Rattle.std.specs.Prelude.{ℕ, ◌≤◌, List, length, take}
use Rattle.listing.specs.Listing.{TextOf}

pub record Printed (job output : List ℕ) (count : ℕ) : Type 0 where
  pub text_of : TextOf job (take count output)
  pub not-empty : 1 ≤ count
  pub within : count ≤ length output
