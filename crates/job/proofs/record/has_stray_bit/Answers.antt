-- `job::record::has_stray_bit` meets its contract: a bit of 3 to 7 stands in a byte exactly if it is 8 or more.
use mathlib.Core.Path.{refl}
use native.Mathlib.Omega.{arith}
use borrow.Author.Tests.{le-leb}
use Rattle.job.proofs.MapByte.{no_stray, some-stray}
use Rattle.job.proofs.record.has_stray_bit.Goals as goal

pub returns-then-map-ge8 : goal.returns-then-map-ge8
returns-then-map-ge8 c = rw (some-stray c.args.map (omega arith) (omega arith), le-leb 8 c.args.map (omega arith)) refl

pub returns-then-first : goal.returns-then-first
returns-then-first c = rw (no_stray c.args.map (omega arith), c.if-first.true) c.stands_in.ensures

pub returns-else-first : goal.returns-else-first
returns-else-first c = rw (no_stray c.args.map (omega arith), c.if-first.false) refl
