-- `font::text::longest_beginning` meets its contract: few bytes surely have room, and behind the first of more the bytes so far and those
-- that still have room are the longest beginning.
use Rattle.font.proofs.Beginnings.{WithRoom}
use Rattle.font.proofs.text.longest_beginning.Given as goal

abbrev pub invariant-loop-i : goal.invariant-loop-i
invariant-loop-i l = WithRoom l.text l.i l.room
