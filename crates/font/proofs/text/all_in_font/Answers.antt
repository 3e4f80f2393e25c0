-- `font::text::all_in_font` meets its contract: the text passes if the bytes so far do together and what is left does.
use mathlib.Core.Path.{◌∙◌}
use mathlib.Core.Bool.{true}
use Rattle.std.proofs.Common.{rules}
use Rattle.std.proofs.lemmas.Iterator.{YieldsList-from_slice}
use Rattle.std.proofs.lemmas.Iterator.Consumers.{fold_from_yields_List}
use Rattle.font.specs.Letters.{in_font_lem}
use Rattle.font.proofs.Folded.{and_passes, all-folded}
use Rattle.font.proofs.text.all_in_font.Goals as goal

pub returns : goal.returns
returns c =
    fold_from_yields_List _ (and_passes in_font_lem) true c.fold.result c.fold.ensures.ran
    (YieldsList-from_slice c.args.text.now c.iter.ensures.rest) (λ a x b q k. search rules)
    ∙ all-folded in_font_lem true c.args.text.now
