-- `listing::lines::put_full` meets its contract: the pieces one behind the other.
use mathlib.Core.Path.{ap}
use native.Mathlib.Omega.{arith}
use lib.ListN.{length, length-append}
use Rattle.listing.specs.Text.{spaced, full_word}
use Rattle.listing.proofs.Lengths.{spaced-most}
use Rattle.listing.proofs.Spacing.{put-same}
use Rattle.listing.proofs.lines.put_full.Goals as goal

pub push-requires : goal.push-requires
push-requires c =
    let positions = c.in-Some.positions.now in
    let listed = put-same c.put_word-2.new.text.items positions c.put_each_spaced.ensures in (
      omega arith,
      omega (
        arith,
        ap length listed,
        length-append c.put_word-2.new.text.items (spaced positions),
        spaced-most positions,
        ap length c.put_word-2.ensures,
        length-append c.args.text.now.items full_word,
        c.requires.room,
        rw c.in-Some.is at c.requires.few,
      ),
    )
