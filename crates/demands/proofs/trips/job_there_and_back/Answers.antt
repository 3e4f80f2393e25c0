-- `demands::trips::job_there_and_back` meets its contract: what the reader found is what the writer writes back.
use mathlib.Core.Path.{refl, sym}
use native.Mathlib.Omega.{arith}
use lib.Seq.{length-take-le}
use Rattle.geometry.specs.Strip.{strip}
use Rattle.job.specs.Calls.{written_answer}
use Rattle.job.proofs.ReadStrip.{read-strip}
use Rattle.demands.proofs.ThereAndBack.{reader-accepts}
use Rattle.demands.proofs.trips.job_there_and_back.Goals as goal

pub slice_bounds-strip-end-3 : goal.slice_bounds-strip-end-3
slice_bounds-strip-end-3 c =
    let lent = strip c.args.places.now c.args.lengths.now c.args.weights.now in
    let left = strip c.read-read.new.places c.read-read.new.lengths c.read-read.new.weights in
    let found = read-strip c.args.job.now lent left _ (λ i. (c.type_inv.job i).fits) c.in-Ok.ensures refl in
    omega (arith, found.within)

pub slice_bounds-strip-end-4 : goal.slice_bounds-strip-end-4
slice_bounds-strip-end-4 c =
    let lent = strip c.args.places.now c.args.lengths.now c.args.weights.now in
    let left = strip c.read-read.new.places c.read-read.new.lengths c.read-read.new.weights in
    let found = read-strip c.args.job.now lent left _ (λ i. (c.type_inv.job i).fits) c.in-Ok.ensures refl in
    sym (length-take-le _ _ (omega (arith, found.within)))

pub slice_bounds-strip-end-5 : goal.slice_bounds-strip-end-5
slice_bounds-strip-end-5 c =
    let lent = strip c.args.places.now c.args.lengths.now c.args.weights.now in
    let left = strip c.read-read.new.places c.read-read.new.lengths c.read-read.new.weights in
    let found = read-strip c.args.job.now lent left _ (λ i. (c.type_inv.job i).fits) c.in-Ok.ensures refl in
    omega (arith, found.within)

pub slice_bounds-strip-end-6 : goal.slice_bounds-strip-end-6
slice_bounds-strip-end-6 c =
    let lent = strip c.args.places.now c.args.lengths.now c.args.weights.now in
    let left = strip c.read-read.new.places c.read-read.new.lengths c.read-read.new.weights in
    let found = read-strip c.args.job.now lent left _ (λ i. (c.type_inv.job i).fits) c.in-Ok.ensures refl in
    sym (length-take-le _ _ (omega (arith, found.within)))

pub returns : goal.returns
returns c = reader-accepts _ c.in-Ok.ensures (written_answer c.write-written.result) (λ i. (c.type_inv.job i).fits) refl c.write-written.ensures
