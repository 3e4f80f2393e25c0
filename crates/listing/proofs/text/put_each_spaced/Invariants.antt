-- `listing::text::put_each_spaced` meets its contract: after i turns the first i numbers stand behind the text.
use Prim.Native.Nat.{◌+◌, ◌*◌, ◌≤◌}
use lib.ListN.{length}
use Rattle.listing.specs.Listing.{text_most}
use Rattle.listing.proofs.Spacing.{Put}
use Rattle.listing.proofs.text.put_each_spaced.Given as goal

abbrev pub invariant-loop-number : goal.invariant-loop-number
invariant-loop-number g l = (length l.initial.text.items + 6 * length l.numbers ≤ text_most)
    × Put g.T.Into.converts l.initial.text.items l.numbers l.number-index l.text.items
