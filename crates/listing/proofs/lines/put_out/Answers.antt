-- `listing::lines::put_out` meets its contract: the pieces one behind the other.
use mathlib.Core.Path.{ap}
use native.Mathlib.Omega.{arith}
use lib.ListN.{length, length-append}
use Rattle.listing.specs.Text.{spaced, out_word}
use Rattle.listing.proofs.Lengths.{spaced-most}
use Rattle.listing.proofs.Spacing.{put-same}
use Rattle.listing.proofs.lines.put_out.Goals as goal

pub push-requires : goal.push-requires
push-requires c =
    let numbers = c.args.left_out.now in
    let listed = put-same c.put_word-2.new.text.items numbers c.put_each_spaced.ensures in (
      omega arith,
      omega (
        arith,
        ap length listed,
        length-append c.put_word-2.new.text.items (spaced numbers),
        spaced-most numbers,
        ap length c.put_word-2.ensures,
        length-append c.args.text.now.items out_word,
        c.requires.room,
        c.requires.few,
      ),
    )
