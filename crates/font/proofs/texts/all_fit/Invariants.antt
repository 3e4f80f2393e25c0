-- `font::texts::all_fit` meets its contract: where the texts so far fit, those that are left decide.
use mathlib.Core.Path.{◌≡◌}
use lib.ListN.{drop}
use Rattle.font.specs.inner.Counts.{ReadableTexts}
use Rattle.font.proofs.Going.{all_in_range}
use Rattle.font.proofs.texts.all_fit.Given as goal

abbrev pub invariant-loop-count : goal.invariant-loop-count
invariant-loop-count l =
    record {
      left : ReadableTexts l.rest (drop l.count-index l.counts);
      decide : all_in_range l.texts l.counts ≡ all_in_range l.rest (drop l.count-index l.counts);
    }
