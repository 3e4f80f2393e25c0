-- `font::text::longest_beginning` meets its contract: few bytes surely have room, and behind the first of more the bytes so far and those
-- that still have room are the longest beginning.
use mathlib.Core.Path.{◌≡◌, sym, ◌∙◌}
use mathlib.Core.List.{List}
use Prim.Native.Nat.{ℕ, ◌≤◌}
use native.Mathlib.Omega.{arith}
use lib.ListN.{length, take}
use lib.Seq.{length-take-le}
use Rattle.geometry.specs.Mark.{most_length}
use Rattle.geometry.proofs.Every.{every_take}
use Rattle.font.specs.Letters.{in_font_lem}
use Rattle.font.specs.Text.{text_width}
use Rattle.font.proofs.Beginnings.{narrow-whole, room-starts, room_next, room-none, room-ends}
use Rattle.font.proofs.Widths.{sure_bytes, few-fit}
use Rattle.font.proofs.text.longest_beginning.Goals as goal

-- the bytes that surely have room, where there are so many
sure-long : (text : List ℕ) → sure_bytes ≤ length text → length (take sure_bytes text) ≡ sure_bytes
sure-long text h = length-take-le sure_bytes text h

sure-fit : (text : List ℕ) → sure_bytes ≤ length text → text_width (take sure_bytes text) ≤ most_length
sure-fit text h = few-fit (take sure_bytes text) (omega (arith, sure-long text h))

pub returns-then-text-le-SURE_BYTES : goal.returns-then-text-le-SURE_BYTES
returns-then-text-le-SURE_BYTES c =
    let text = c.args.text.now in
    sym (narrow-whole text (few-fit text (omega arith)))

pub slice_bounds-width-end : goal.slice_bounds-width-end
slice_bounds-width-end c = sym (sure-long c.args.text.now (omega arith))

pub width-room-requires : goal.width-room-requires
width-room-requires c =
    let text = c.args.text.now in
    let few = sure-long text (omega arith) in
    record { letters-good = every_take in_font_lem sure_bytes text c.requires; few = omega (arith, few) }

pub overflow_sub-room : goal.overflow_sub-room
overflow_sub-room c = omega (arith, c.width-room.ensures, sure-fit c.args.text.now (omega arith))

pub loop-i-init : goal.loop-i-init
loop-i-init c = room-starts _ sure_bytes _ (omega arith) (sure-fit c.args.text.now (omega arith)) (omega (arith, c.width-room.ensures))

pub returns-then-room-next : goal.returns-then-room-next
returns-then-room-next c =
    room-none _ c.loop-i.i c.loop-i.room c.loop-i.invariant (omega arith) (omega (arith, c.width_of-next.ensures))

pub loop-i-preserved : goal.loop-i-preserved
loop-i-preserved c =
    let width = c.width_of-next.ensures in
    rw width (room_next _ c.loop-i.i c.loop-i.room c.loop-i.invariant (omega arith) (omega (arith, width)))

pub returns : goal.returns
returns c =
    let end : c.loop-i.i ≡ length c.args.text.now = omega arith in
    sym end ∙ room-ends _ c.loop-i.i c.loop-i.room c.loop-i.invariant end
