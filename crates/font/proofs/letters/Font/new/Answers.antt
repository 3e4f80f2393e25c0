-- `font::letters::Font::new` meets its contract: the table follows the rule at every byte of the font. That is `refl`, a test of the code's
-- own table that antt computes, entry by entry.
use mathlib.Core.Path.{refl}
use Rattle.geometry.specs.Lists.{any_of}
use Rattle.font.specs.Letters.{width_of}
use Rattle.font.proofs.letters.Font.new.Goals as goal

pub invariant_of-result : goal.invariant_of-result
unfolding width_of any_of
invariant_of-result c = record { by_rule = refl }
