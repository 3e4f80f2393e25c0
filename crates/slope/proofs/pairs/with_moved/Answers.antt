-- `slope::pairs::with_moved` meets its contract: a bit of `|` is the greater of two, and a shift moves the bits.
use mathlib.Core.Path.{◌∙◌, ap}
use Prim.Native.Nat.{max}
use native.Mathlib.Nat.{add_comm}
use Rattle.std.specs.Int.{bit_at}
use Rattle.std.proofs.lemmas.Nat.Bits.{bit_at_or}
use Rattle.slope.proofs.Sets.{bit-of-shift}
use Rattle.slope.proofs.pairs.with_moved.Goals as goal

pub returns : goal.returns
returns c i =
    bit_at_or c.args.set _ i
    ∙ ap (max (bit_at c.args.set i)) (bit-of-shift c.args.set c.args.places i ∙ ap (bit_at c.args.set) (add_comm c.args.places i))
