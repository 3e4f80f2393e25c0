-- `listing::put_listing` meets its contract: the one line of a refused job, or the count and the lines of its strip.
use mathlib.Core.Path.{◌≡◌, refl}
use lib.IntN.{pos}
use lib.ListN.{replicate}
use Rattle.geometry.specs.Strip.{Strip, strip, most_marks}
use Rattle.geometry.proofs.Verdicts.{refusal-positive}
use Rattle.job.specs.Calls.{shortest}
use Rattle.job.proofs.ReadStrip.{read-strip}
use Rattle.listing.proofs.JobText.{refused-listing, good-marks, accepted-listing}
use Rattle.listing.proofs.put_listing.Goals as goal

-- the lists that the reader is lent
abbrev lent : Strip
lent = strip (replicate most_marks (pos 0)) (replicate most_marks 0) (replicate most_marks 0)

roomy : shortest lent ≡ most_marks
roomy = refl

pub returns-in-Err : goal.returns-in-Err
returns-in-Err c =
    let n = c.read.new in
    let text = rw c.requires at c.put_refused.ensures in
    refused-listing _ lent roomy (strip n.places n.lengths n.weights) _ _ c.in-Err.ensures (refusal-positive c.in-Err.refusal) text

pub put_strip-requires-clause-good : goal.put_strip-requires-clause-good
put_strip-requires-clause-good c =
    let n = c.read.new in
    let left = strip n.places n.lengths n.weights in
    let read = read-strip _ lent left _ (λ i. (c.type_inv.job i).fits) c.in-Ok.ensures refl in
    good-marks _ lent roomy left _ read

pub returns : goal.returns
returns c =
    let n = c.read.new in
    let left = strip n.places n.lengths n.weights in
    let read = read-strip _ lent left _ (λ i. (c.type_inv.job i).fits) c.in-Ok.ensures refl in
    let counted = rw c.requires at c.put_count.ensures in
    accepted-listing _ lent roomy left _ read _ _ counted c.put_strip.ensures
