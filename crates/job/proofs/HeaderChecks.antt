-- A header is judged by the first check that it does not pass: too few bytes, then a value out of range; else it is good.
-- The code finds the count and the place, and the check on these two is the definition's own.
use mathlib.Core.Path.{◌≡◌, refl, sym, ◌∙◌, ap}
use mathlib.Core.Bool.{true, false}
use mathlib.Core.List.{List, [], ◌∷◌}
use Prim.Native.Nat.{ℕ, ◌+◌, ◌*◌, ◌≤◌}
use native.Mathlib.Omega.{arith}
use borrow.Author.Tests.{le-leb}
use mir.Syntax.{w16}
use mir.Val.{to_z}
use lib.IntN.{ℤ}
use lib.ListN.{length, take, get_or}
use Rattle.geometry.specs.declared.refusal.Refusal.TheVariants.{OutOfRange}
use Rattle.job.specs.Number.{signed, Bytes}
use Rattle.job.specs.Outcome.{given, refusal}
use Rattle.job.specs.Format.{header_length}
use Rattle.job.specs.Decode.{header_count, header_place, header_of, header_in_range_lem, decode_header}
use Rattle.job.proofs.Numbers.{two_bytes}
use Rattle.job.proofs.SignedWords.{signed-is}

-- the two words of a header, by its bytes
pub count-word : (bs : List ℕ) → header_length ≤ length bs
    → header_count bs ≡ get_or (take header_length bs) 0 0 * 256 + get_or (take header_length bs) 1 0
count-word [] h = absurd (omega arith)
count-word (a ∷ []) h = absurd (omega arith)
count-word (a ∷ b ∷ bs) h = two_bytes a b

pub place-word : (bs : List ℕ) → header_length ≤ length bs → Bytes bs
    → header_place bs ≡ to_z w16 (get_or (take header_length bs) 2 0 * 256 + get_or (take header_length bs) 3 0)
place-word [] h k = absurd (omega arith)
place-word (a ∷ []) h k = absurd (omega arith)
place-word (a ∷ b ∷ []) h k = absurd (omega arith)
place-word (a ∷ b ∷ e ∷ []) h k = absurd (omega arith)
place-word (a ∷ b ∷ e ∷ f ∷ bs) h k = ap signed (two_bytes e f) ∙ sym (signed-is (e * 256 + f) (omega (arith, k 2, k 3)))

-- from the two values as they were read: refusal 4, or the header
module _ (bs : List ℕ) (count : ℕ) (z : ℤ) (whole : header_length ≤ length bs) (counted : header_count bs ≡ count)
    (placed : header_place bs ≡ z) where
  pub header-out : header_in_range_lem count z ≡ false → decode_header bs ≡ refusal OutOfRange
  unfolding decode_header
  header-out t = rw (le-leb header_length (length bs) whole, counted, placed, t) refl

  pub header-good : header_in_range_lem count z ≡ true → decode_header bs ≡ given (header_of count z)
  unfolding decode_header
  header-good t = rw (le-leb header_length (length bs) whole, counted, placed, t) refl
