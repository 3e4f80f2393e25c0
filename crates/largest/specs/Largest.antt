-- What the call settles. "Checks, order and lent areas are those of the full pass, with cells in place of lengths; a refusal gives width 0,
-- and a width found comes with the full pass's positions at it." (document 02, P6)
use Rattle.std.specs.Prelude.{ℕ, Result, Ok, Err, ◌≤◌, ◌<◌, ◌≡◌, Bool, true, false, ◌↔◌, [], pos}
use Rattle.std.proofs.Math.Option.{Option, none, some}
use Rattle.geometry.specs.Strip.{Strip}
use Rattle.geometry.specs.Refusal.{Verdict, accepted, refused, number_of, refusal_number}
use Rattle.geometry.specs.declared.refusal.Refusal.TheVariants.{NoPlacing}
use Rattle.geometry.specs.Pass.{work_after}
use Rattle.full.specs.Full.{work_named, FullLent, full_checks, full_verdict, positions_after}
use Rattle.largest.specs.Widths.{fits_at, widest, largest_width, placing_of}
use Rattle.geometry.specs.declared.refusal.Refusal.{Refusal}

-- "a refusal gives width 0", also 11
abbrev pub width_after : Verdict → Option ℕ → ℕ
width_after (refused r) width = 0
width_after accepted none = 0
width_after accepted (some width) = width

-- what the call hands back: the number, and the greatest width in dots at which the labels fit, 0 at every refusal
pub record Largest : Type 0 where
  pub number : ℕ
  pub width : ℕ

abbrev pub largest_answer : Result ℕ Refusal → Largest
largest_answer (Ok width) = record { number = 0; width = width }
largest_answer (Err r) = record { number = refusal_number r; width = 0 }

-- The contract: the strip with cells in place of lengths, the gap, the lent lists at entry and at exit, and the answer. Nothing is open.
pub record LargestContract (s : Strip) (g : ℕ) (entry exit : FullLent) (r : Largest) : Type 0 where
  pub number_is : r.number ≡ number_of (full_verdict (full_checks s g entry) (placing_of g s (largest_width g s)))
  pub width_is : r.width ≡ width_after (full_checks s g entry) (largest_width g s)
  pub positions-are : exit.positions ≡ positions_after (full_checks s g entry) (placing_of g s (largest_width g s)) entry.positions
  pub work-is : exit.work ≡ work_after work_named (pos 0) (full_checks s g entry) entry.work

-- "The width found fits and every greater one up to 30 does not": said of any test of widths, and of any width in place of 30
pub record Greatest (fits : ℕ → Bool) (limit width : ℕ) : Type 0 where
  pub least : 1 ≤ width
  pub most : width ≤ limit
  pub does : fits width ≡ true
  pub greater-not : (w : ℕ) → width < w → w ≤ limit → fits w ≡ false

abbrev pub IsLargest : ℕ → Strip → ℕ → Type 0
IsLargest g s width = Greatest (fits_at g s) widest width

-- What document 02 says of number and width, in its own words, of any answer that meets the contract where the checks are passed
-- (`largest-in-words` in proofs/).
pub record LargestInWords (s : Strip) (g : ℕ) (r : Largest) : Type 0 where
  -- "The width found fits and every greater one up to 30 does not"; and no other answer is such a width
  pub found : r.number ≡ 0 → IsLargest g s r.width
  pub only : (width : ℕ) → IsLargest g s width → (r.number ≡ 0) × (r.width ≡ width)
  -- "if width 1 doesn't fit, the answer is 11", and only then
  pub none-exactly : (r.number ≡ refusal_number NoPlacing) ↔ (fits_at g s 1 ≡ false)
  -- "It follows that every smaller width fits too"
  pub smaller-fit : r.number ≡ 0 → (w : ℕ) → w ≤ r.width → fits_at g s w ≡ true
  -- "An empty strip has width 30."
  pub no-marks : s.places ≡ [] → (r.number ≡ 0) × (r.width ≡ widest)
