-- `font::texts::counts_add_up` meets its contract: the counts so far and what is left of the bytes are all bytes, so the counts add up
-- exactly if those that are left add up to what is left.
use mathlib.Core.Path.{◌≡◌}
use Prim.Native.Nat.{◌+◌}
use lib.ListN.{drop}
use Rattle.geometry.specs.Lists.{sum_list}
use Rattle.font.proofs.texts.counts_add_up.Given as goal

abbrev pub invariant-loop-count : goal.invariant-loop-count
invariant-loop-count l = sum_list l.counts + l.left ≡ l.bytes + sum_list (drop l.count-index l.counts)
