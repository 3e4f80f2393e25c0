-- "Loggers store places as IEEE 754 binary32 numbers, either of dots or of millimetres at 8 dots each." (document 02, P10): the exact number
-- of dots of what is stored. The language's account of such a number is m * 2 ^ e with a sign, where 2 ^ e is up e / down e.
use Rattle.std.specs.Prelude.{ℕ, ◌*◌, Bool, false, cond, ℤ, pos, neg_ℤ, ◌*ℤ◌, ◌≤ℤ◌}
use Rattle.std.specs.Float.{Float, nan, inf, fin}
use Rattle.std.specs.Float.Ieee.{up, down}
use Rattle.std.specs.Int.Signed.{shr_z}
pub use Rattle.logger.specs.declared.Logged.{Logged}
pub use Rattle.logger.specs.declared.Logged.TheVariants.{Dots, Millimetres}

-- an exact number: size / parts, below zero where `minus` is true; `parts` is above 0
pub record Exact : Type 0 where
  pub minus : Bool
  pub size : ℕ
  pub parts : ℕ

-- a binary32 number so many times over. An infinity and a NaN are no numbers, and are refused before this is looked at; 0 stands for them.
unfoldable pub times : ℕ → Float → Exact
times k nan = record { minus = false; size = 0; parts = 1 }
times k (inf s) = record { minus = false; size = 0; parts = 1 }
times k (fin s m e) = record { minus = s; size = k * (m * up e); parts = down e }

abbrev pub dots_a_millimetre : ℕ
dots_a_millimetre = 8

-- the number as it is stored
abbrev pub given_lem : Logged → Float
given_lem (Dots x) = x
given_lem (Millimetres x) = x

-- the exact number of dots
abbrev pub dots_of : Logged → Exact
dots_of (Dots x) = times 1 x
dots_of (Millimetres x) = times dots_a_millimetre x

abbrev pub signed_size : Exact → ℤ
signed_size v = cond v.minus (neg_ℤ (pos v.size)) (pos v.size)

-- a whole number is not above an exact one: z <= size / parts
abbrev pub NotAbove : ℤ → Exact → Type 0
NotAbove z v = (z *ℤ pos v.parts) ≤ℤ signed_size v

-- "the largest whole number of dots not above the exact value"
pub record IsLargest (z : ℤ) (v : Exact) : Type 0 where
  pub not-above : NotAbove z v
  pub largest : (y : ℤ) → NotAbove y v → y ≤ℤ z

-- that number, computed: a division rounded down (`floor-is` in proofs/)
abbrev pub floor_of : Exact → ℤ
floor_of v = shr_z (signed_size v) v.parts
