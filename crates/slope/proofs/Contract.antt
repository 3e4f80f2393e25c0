-- The slope pass meets its contract. Past the checks marks rise, so a choice that is a placing as far as each mark and the next two go is one. Where
-- no quadrant of the first mark leaves room there is none, and the number is 11; else the walk has written one, and the number is 0.
use mathlib.Core.Path.{◌≡◌, refl}
use mathlib.Core.Bool.{false}
use mathlib.Core.List.{List}
use Prim.Native.Nat.{ℕ}
use native.Mathlib.Omega.{arith}
use lib.ListN.{length}
use Rattle.geometry.specs.Lists.{any_of}
use Rattle.geometry.specs.Refusal.{accepted, refusal_number}
use Rattle.geometry.specs.declared.refusal.Refusal.TheVariants.{NoPlacing as no_placing}
use Rattle.slope.specs.Track.{Track, points_of}
use Rattle.slope.specs.Square.{every_quadrant}
use Rattle.slope.specs.Slope.{slope_checks, Placed, SlopeContract}
use Rattle.slope.specs.inner.Rest.{start}
use Rattle.slope.proofs.Fits.{placed-fits, none-fits, no-start}

module _ (t : Track) (side : ℕ) (entry : List ℕ) (past : slope_checks t side (length entry) ≡ accepted) where
  -- no quadrant of the first mark leaves room
  pub not-placed : any_of (start side (points_of t)) every_quadrant ≡ false → SlopeContract t side entry entry (refusal_number no_placing)
  not-placed none =
      let no-one = no-start side (points_of t) none in
      record {
        number_is = rw (past, none-fits side (points_of t) no-one) refl;
        none-exactly = λ _. (λ _. no-one, λ _. refl);
        where-placed = λ e. absurd (omega arith);
        where-refused = λ _. refl;
      }

  -- a placing is written
  pub placed : (exit : List ℕ) → Placed side (points_of t) entry exit → SlopeContract t side entry exit 0
  placed exit written =
      record {
        number_is = rw (past, placed-fits side (points_of t) written.quadrants written.placing) refl;
        none-exactly = λ _. (λ e. absurd (omega arith), λ none. absurd (none written.quadrants written.placing));
        where-placed = λ _. written;
        where-refused = λ other. absurd (other refl);
      }
