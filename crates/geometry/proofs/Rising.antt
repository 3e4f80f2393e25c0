-- In a rising strip every mark lies to the right of all marks before it: its place is above that of the mark just before it, which lies
-- to the right of all marks before that one.
use Prim.Native.Nat.{ℕ, ◌<◌}
use mathlib.Core.List.{List, [], ◌∷◌}
use native.Mathlib.Omega.{arith}
use Rattle.geometry.specs.Mark.{Mark}
use Rattle.geometry.specs.inner.Rising.{Rising}
use Rattle.geometry.specs.inner.Each.{Each}

-- every mark lies beyond x
abbrev pub Beyond : ℕ → List Mark → Type 0
Beyond x ms = Each (λ m. x < m.place) ms

-- what lies beyond y lies beyond any x below it
beyond-less : (x y : ℕ) (ms : List Mark) → x < y → Beyond y ms → Beyond x ms
beyond-less x y [] h b = tt
beyond-less x y (m ∷ ms) h b = (omega arith, beyond-less x y ms h b.1)

-- a rising strip without its first mark is rising
pub rising-rest : (m : Mark) (ms : List Mark) → Rising (m ∷ ms) → Rising ms
rising-rest m [] r = tt
rising-rest m (n ∷ ms) r = r.2

-- a label to the left of its mark ends inside the coordinates
pub rising-first : (m : Mark) (ms : List Mark) → Rising (m ∷ ms) → m.label_length < m.place
rising-first m [] r = r
rising-first m (n ∷ ms) r = r.0

pub rising-beyond : (m : Mark) (ms : List Mark) → Rising (m ∷ ms) → Beyond m.place ms
rising-beyond m [] r = tt
rising-beyond m (n ∷ ms) r = (r.1, beyond-less m.place n.place ms r.1 (rising-beyond n ms r.2))
