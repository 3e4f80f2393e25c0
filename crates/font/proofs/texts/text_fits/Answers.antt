-- `font::texts::text_fits` meets its contract: few bytes are in range whatever they are, and of more the width decides.
use mathlib.Core.Path.{sym, ◌∙◌}
use native.Mathlib.Omega.{arith}
use lib.ListN.{length}
use borrow.Author.Tests.{le-leb, leb-true}
use Rattle.geometry.specs.Mark.{most_length}
use Rattle.geometry.proofs.Split.{is-leb}
use Rattle.font.specs.Text.{text_width}
use Rattle.font.proofs.Widths.{sure_bytes, range-of-some, sure-of-few}
use Rattle.font.proofs.texts.text_fits.Goals as goal

pub returns-then-text-le-SURE_BYTES : goal.returns-then-text-le-SURE_BYTES
returns-then-text-le-SURE_BYTES c =
    let text = c.args.text.now in
    le-leb (length text) sure_bytes (omega arith) ∙ sym (sure-of-few text c.requires.1 (omega arith))

pub returns-else-text-le-SURE_BYTES : goal.returns-else-text-le-SURE_BYTES
returns-else-text-le-SURE_BYTES c =
    let text = c.args.text.now in
    is-leb (text_width text) most_length (omega (arith, leb-true, le-leb, c.width.ensures)) ∙ sym (range-of-some text c.requires.1)
