-- `font::texts::counts_fit` meets its contract, as `all_in_font` does.
use mathlib.Core.Path.{◌∙◌}
use mathlib.Core.Bool.{true}
use Rattle.std.proofs.Common.{rules}
use Rattle.std.proofs.lemmas.Iterator.{YieldsList-from_slice}
use Rattle.std.proofs.lemmas.Iterator.Consumers.{fold_from_yields_List}
use Rattle.font.specs.inner.Counts.{count_fits_lem}
use Rattle.font.proofs.Folded.{and_passes, all-folded}
use Rattle.font.proofs.texts.counts_fit.Goals as goal

pub returns : goal.returns
returns c =
    fold_from_yields_List _ (and_passes count_fits_lem) true c.fold.result c.fold.ensures.ran
    (YieldsList-from_slice c.args.counts.now c.iter.ensures.rest) (λ a x b q k. search rules)
    ∙ all-folded count_fits_lem true c.args.counts.now
