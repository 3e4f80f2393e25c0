-- `best::table::renew_row` meets its contract: the cells of the row before `below` count mark k, those beyond need no
-- change, and what the cells share holds all the while.
use native.Mathlib.Omega.{arith}
use Rattle.best.specs.inner.Handed.{strip_of}
use Rattle.best.proofs.TableRenewed.{skip-rest}
use Rattle.best.proofs.RowGivesCells.{may-try, cell-asked, one-cell-more}
use Rattle.best.proofs.RenewedInParts.{renewed-so-far, renewed-more}
use Rattle.best.proofs.table.renew_row.Goals as goal

pub row_of-row-requires : goal.row_of-row-requires
row_of-row-requires c =
    may-try _ (strip_of c.args.marks) c.args.marks.checked.strip-checked _ _ c.args.k _ c.args.above 0 c.requires.renewing (omega arith) (omega arith)

pub renew_cell-requires : goal.renew_cell-requires
renew_cell-requires c =
    let s = strip_of c.args.marks in
    let h = c.loop-below.invariant in
    let next = renewed-so-far _ s c.args.k _ _ c.loop-below.work _ _ c.requires.renewing c.loop-below.auto.work h.renewed in
    cell-asked _ s c.args.marks.checked.strip-checked _ c.loop-below.work c.args.k _ _ _ h.shared next c.requires.above_before (omega arith)

pub loop-below-preserved : goal.loop-below-preserved
loop-below-preserved c =
    let s = strip_of c.args.marks in
    let h = c.loop-below.invariant in
    let next = renewed-so-far _ s c.args.k _ _ c.loop-below.work _ _ c.requires.renewing c.loop-below.auto.work h.renewed in
    let more =
    one-cell-more _ s c.args.marks.checked.strip-checked _ c.loop-below.work c.args.k _ _ _ h.shared next c.requires.above_before (omega arith) _
    c.renew_cell.ensures in
    record { renewed = renewed-more _ s c.args.k _ c.loop-below.work _ _ _ _ (omega arith) h.renewed more.0; shared = more.1 }

pub returns : goal.returns
returns c =
    let loop = c.loop-below in
    let h = loop.invariant.renewed in
    record {
      partly = skip-rest _ (strip_of c.args.marks) c.args.k loop.work c.args.above loop.below (omega arith) (omega arith) h.partly;
      rest-kept = h.rest-kept;
    }
