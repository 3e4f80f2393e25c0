-- `font::letters::Font::width_of` meets its contract: what the table's test says of all entries it says of the byte's.
use Rattle.geometry.proofs.Split.{least-to}
use Rattle.font.specs.Letters.{first_byte, last_byte}
use Rattle.font.proofs.Table.{width-at}
use Rattle.font.proofs.letters.Font.width_of.Goals as goal

pub returns : goal.returns
returns c =
    width-at c.args.self.now.widths c.args.self.now.by_rule c.args.byte (least-to first_byte last_byte c.args.byte c.requires)
