-- `listing::put_strip` meets its contract: the full line, and behind it the lines of a short strip or those of one that is too long.
use native.Mathlib.Omega.{arith}
use Rattle.geometry.specs.Strip.{lists_of, most_marks, most_short}
use Rattle.geometry.proofs.Accepted.{entry-accepted, accept-shorter}
use Rattle.listing.proofs.StripText.{few-found, full-line, full-room, long-strip, short-strip}
use Rattle.listing.proofs.put_strip.Goals as goal

pub put_full-requires-clause-few : goal.put_full-requires-clause-few
put_full-requires-clause-few c =
    let s = lists_of c.args.strip in
    few-found c.fits.ensures (entry-accepted most_marks s c.requires.good).few

pub put_too_long-requires : goal.put_too_long-requires
put_too_long-requires c =
    let s = lists_of c.args.strip in
    let before = c.args.text.now.items in
    let full = full-line s before c.fits.ensures c.put_full.ensures in
    omega (arith, full-room s before (entry-accepted most_marks s c.requires.good) full c.requires.room)

pub returns-then-strip-gt-MOST_SHORT : goal.returns-then-strip-gt-MOST_SHORT
returns-then-strip-gt-MOST_SHORT c =
    let s = lists_of c.args.strip in
    let before = c.args.text.now.items in
    long-strip s before (full-line s before c.fits.ensures c.put_full.ensures) c.if-strip-gt-MOST_SHORT.true c.put_too_long.ensures

pub put_short-requires : goal.put_short-requires
put_short-requires c =
    let s = lists_of c.args.strip in
    let before = c.args.text.now.items in
    let full = full-line s before c.fits.ensures c.put_full.ensures in
    omega (arith, full-room s before (entry-accepted most_marks s c.requires.good) full c.requires.room)

pub invariant_of-put_short : goal.invariant_of-put_short
invariant_of-put_short c =
    record { good = accept-shorter most_marks most_short (lists_of c.args.strip) c.requires.good c.if-strip-gt-MOST_SHORT.false }

pub returns : goal.returns
returns c =
    let s = lists_of c.args.strip in
    let before = c.args.text.now.items in
    short-strip s before (full-line s before c.fits.ensures c.put_full.ensures) c.if-strip-gt-MOST_SHORT.false c.put_short.ensures
