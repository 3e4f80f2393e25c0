-- `largest::widths::first_fitting` meets its contract: the widths tried so far do not fit and have left the lent lists as `Trying` says, so
-- the first that fits is the greatest, and where 1 dot does not fit none does.
use mathlib.Core.Path.{refl}
use native.Mathlib.Omega.{arith}
use Rattle.largest.proofs.Contract.{trying-on, none-fits, one-fits}
use Rattle.largest.proofs.widths.first_fitting.Goals as goal

pub loop-width-preserved : goal.loop-width-preserved
loop-width-preserved c =
    trying-on _ _ _ c.requires _ _ c.loop-width.invariant _ _ c.fits_at.ensures c.if-fits_at.false
    (omega (arith, c.loop-width.invariant.least)) c.fits_at.auto.work

pub returns-then-fits_at : goal.returns-then-fits_at
returns-then-fits_at c =
    one-fits _ _ _ c.requires _ _ c.loop-width.invariant _ _ c.fits_at.ensures c.if-fits_at.true _ refl refl

pub returns-then-width-eq-NARROWEST : goal.returns-then-width-eq-NARROWEST
returns-then-width-eq-NARROWEST c =
    none-fits _ _ _ c.requires _ _ c.loop-width.invariant _ _ c.fits_at.ensures c.if-fits_at.false c.if-width-eq-NARROWEST.true _ refl refl
