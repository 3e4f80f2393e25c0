-- Where there is room, it goes by whether gain and target are equal. The check finds this alone; it stands here so that a test of another
-- relation, such as one that the gain is at most the target, is refused by values.
use mathlib.Core.Path.{sym}
use Prim.Native.Nat.{ℕ}
use native.Mathlib.Omega.{arith}
use borrow.Author.Tests.{eq-eqb, eqb-true, leb-true, le-leb}
use Rattle.geometry.specs.inner.Positions.{position_of}
use Rattle.geometry.proofs.Split.{is-eqb}
use Rattle.best.specs.inner.Tried.{gain_of}
use Rattle.best.proofs.trial.Trial.attains.Goals as goal

pub returns-then-has_room : goal.returns-then-has_room
returns-then-has_room c =
    let a = c.args in
    let gained : ℕ = gain_of a.self (position_of a.p) in
    rw (sym c.if-has_room.ensures) (is-eqb gained a.target (omega (arith, eqb-true, eq-eqb, leb-true, le-leb, c.gain.ensures)))
