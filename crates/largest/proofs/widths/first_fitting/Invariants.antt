-- `largest::widths::first_fitting` meets its contract: the widths tried so far do not fit and have left the lent lists as `Trying` says, so
-- the first that fits is the greatest, and where 1 dot does not fit none does.
use Rattle.geometry.specs.Strip.{lists_of}
use Rattle.full.specs.Full.{full_lent}
use Rattle.largest.proofs.Contract.{Trying}
use Rattle.largest.proofs.widths.first_fitting.Given as goal

abbrev pub invariant-loop-width : goal.invariant-loop-width
invariant-loop-width l = Trying (lists_of l.strip) l.gap (full_lent l.initial.positions l.initial.work) (full_lent l.positions l.work) l.width

abbrev pub decreases-loop-width : goal.decreases-loop-width
decreases-loop-width l = l.width
