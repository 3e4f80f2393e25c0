-- What trying one width asks and gives.
use Rattle.std.specs.Prelude.{ℕ, ◌≤◌, ◌≡◌, Bool, cond, pos}
use Rattle.geometry.specs.Strip.{Strip}
use Rattle.geometry.specs.Refusal.{accepted}
use Rattle.geometry.specs.Pass.{cleared}
use Rattle.full.specs.Full.{work_named, FullLent, full_checks, positions_after}
use Rattle.largest.specs.Widths.{none_over_lem, placing_at, fits_at}
use Rattle.largest.specs.inner.Cells.{most_of}

-- the checks are passed, with cells in place of lengths
pub record TrialReady (s : Strip) (g : ℕ) (most width : ℕ) (lent : FullLent) : Type 0 where
  pub checked : full_checks s g lent ≡ accepted
  pub most-is : most ≡ most_of s.lengths
  pub least : 1 ≤ width

-- whether it fits; the positions are written only then; the work area is cleared unless a length is over 240, where nothing is called
pub record Tried (s : Strip) (g : ℕ) (width : ℕ) (entry exit : FullLent) (fits : Bool) : Type 0 where
  pub fits-is : fits ≡ fits_at g s width
  pub positions-are : exit.positions ≡ positions_after accepted (placing_at g s width) entry.positions
  pub work-is : exit.work ≡ cond (none_over_lem width s.lengths) (cleared work_named (pos 0) entry.work) entry.work
