-- `font::text::width` meets its contract: the sum so far and the width of what is left are the width of the text, which has so few bytes
-- that it fits 32 bits.
use mathlib.Core.Path.{◌≡◌}
use Prim.Native.Nat.{◌+◌}
use lib.ListN.{drop}
use Rattle.font.specs.Text.{text_width}
use Rattle.font.proofs.text.width.Given as goal

abbrev pub invariant-loop-byte : goal.invariant-loop-byte
invariant-loop-byte l = l.sum + text_width (drop l.byte-index l.text) ≡ text_width l.text
