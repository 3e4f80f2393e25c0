-- Four marks i, j, k, l that rise in both coordinates: if the squares of i and l overlap, one of the other five pairs does. Suppose not. Then k and l
-- are free, say along x: k ends before l begins, and so before i ends. So i lies right and k left, and k's mark is less than a side right of i's.
-- So i and k are free along y, and k lies up, since along y it begins no earlier than i ends, and i ends after l begins. Now j, whose mark is less
-- than a side right of i's too. If it lies right, it ends behind the beginning of l along x, so along y it ends before l begins; then i lies up and j
-- down, and neither axis is left to i and j. If it lies left, along y it begins no earlier than i ends, and so above l's beginning; but it ends no
-- later than k begins, at k's mark: if it lies up this leaves no room for its side, and if it lies down, l would begin more than a side below its own
-- mark.
use mathlib.Core.Path.{◌≡◌}
use mathlib.Core.Bool.{true, false, ◌||◌}
use mathlib.Core.Logic.{◌⊎◌, inl, inr, ⊎_elim}
use Prim.Native.Nat.{ℕ}
use native.Mathlib.Omega.{arith}
use lib.IntN.{ℤ}
use lib.Signed.{lt_z}
use Rattle.std.proofs.Math.Logic.{⊎_swap}
use Rattle.std.proofs.lemmas.Bool.{true_from_ne_false, or_parts}
use Rattle.std.proofs.lemmas.Int.{ints}
use Rattle.geometry.specs.Position.{Direction, leftward, rightward}
use Rattle.geometry.specs.SignedEnds.{signed_left_end as low, signed_right_end as high}
use Rattle.geometry.proofs.Split.{and-fst, and-snd, clash}
use Rattle.slope.specs.Square.{Quadrant, along_x, along_y, spans_share, overlap}
use Rattle.slope.specs.Track.{Point}
use Rattle.slope.specs.Enough.{Rise}
use Rattle.slope.proofs.Spans.{span, EndsBefore, begins-before, free-along}
use Rattle.slope.proofs.Rises.{rise-further}

-- coordinates of four marks along an axis
record Four (ci cj ck cl : ℤ) : Type 0 where
  pub ij : lt_z ci cj ≡ true
  pub jk : lt_z cj ck ≡ true
  pub kl : lt_z ck cl ≡ true

module _ (side : ℕ) (xi xj xk xl : ℤ) (x : Four xi xj xk xl) (yi yj yk yl : ℤ) (y : Four yi yj yk yl) (al ul : Direction) where
  -- the square of i lies right, that of k left, and along x that of k ends before that of l begins, which begins before that of i ends
  module _ (k-l : EndsBefore side xk leftward xl al) (l-i : lt_z (low xl side al) (high xi side rightward) ≡ true) where
    j-right : (ui uj : Direction) → lt_z (low yl side ul) (high yi side ui) ≡ true
        → EndsBefore side xi rightward xj rightward ⊎ EndsBefore side yi ui yj uj
        → EndsBefore side xj rightward xl al ⊎ EndsBefore side yj uj yl ul → ⊥
    j-right ui uj i-up i-j (inl j-l) = omega (arith, ints, x.ij)
    j-right leftward leftward i-up i-j (inr j-l) = omega (arith, ints, y.ij)
    j-right leftward rightward i-up i-j (inr j-l) = omega (arith, ints, y.ij)
    j-right rightward rightward i-up i-j (inr j-l) = omega (arith, ints, y.ij)
    j-right rightward leftward i-up (inl i-j) (inr j-l) = omega (arith, ints, x.jk)
    j-right rightward leftward i-up (inr i-j) (inr j-l) = omega (arith, ints)

    j-left : (ui uj : Direction) → lt_z (low yl side ul) (high yi side ui) ≡ true
        → EndsBefore side xi rightward xj leftward ⊎ EndsBefore side yi ui yj uj
        → EndsBefore side xj leftward xk leftward ⊎ EndsBefore side yj uj yk rightward → ⊥
    j-left ui uj i-up (inl i-j) j-k = omega (arith, ints, x.jk)
    j-left ui uj i-up (inr i-j) (inl j-k) = omega (arith, ints, x.ij)
    j-left ui rightward i-up (inr i-j) (inr j-k) = omega (arith, ints, y.kl, (span side yl ul).near)
    j-left ui leftward i-up (inr i-j) (inr j-k) = omega (arith, ints, y.jk, y.kl, (span side yl ul).near)

  -- along x the square of k ends before that of l begins
  k-before-l : (ai aj ak ui uj uk : Direction) → EndsBefore side xk ak xl al
      → lt_z (low xl side al) (high xi side ai) ≡ true → lt_z (low yl side ul) (high yi side ui) ≡ true
      → EndsBefore side xi ai xj aj ⊎ EndsBefore side yi ui yj uj → EndsBefore side xi ai xk ak ⊎ EndsBefore side yi ui yk uk
      → EndsBefore side xj aj xk ak ⊎ EndsBefore side yj uj yk uk → EndsBefore side xj aj xl al ⊎ EndsBefore side yj uj yl ul → ⊥
  k-before-l leftward aj ak ui uj uk k-l l-i i-up i-j i-k j-k j-l = omega (arith, ints, x.ij, x.jk, (span side xk ak).to)
  k-before-l rightward aj rightward ui uj uk k-l l-i i-up i-j i-k j-k j-l = omega (arith, ints, x.ij, x.jk)
  k-before-l rightward aj leftward ui uj uk k-l l-i i-up i-j (inl i-k) j-k j-l = omega (arith, ints)
  k-before-l rightward aj leftward ui uj leftward k-l l-i i-up i-j (inr i-k) j-k j-l =
      omega (arith, ints, y.kl, (span side yl ul).near)
  k-before-l rightward rightward leftward ui uj rightward k-l l-i i-up i-j (inr i-k) j-k j-l = j-right k-l l-i ui uj i-up i-j j-l
  k-before-l rightward leftward leftward ui uj rightward k-l l-i i-up i-j (inr i-k) j-k j-l = j-left k-l l-i ui uj i-up i-j j-k

module _ (side : ℕ) (a b c d : Point) (p q r t : Quadrant) (a-b : Rise a b) (b-c : Rise b c) (c-d : Rise c d) where
  in-x : Four a.x b.x c.x d.x
  in-x = record { ij = a-b.in-x; jk = b-c.in-x; kl = c-d.in-x }

  in-y : Four a.y b.y c.y d.y
  in-y = record { ij = a-b.in-y; jk = b-c.in-y; kl = c-d.in-y }

  -- the theorem: where the squares of a and d overlap, and none of the other pairs but that of c and d may, that one does
  pub overlap-nearer : overlap side a p d t ≡ true → overlap side a p b q ≡ false → overlap side a p c r ≡ false
      → overlap side b q c r ≡ false → overlap side b q d t ≡ false → overlap side c r d t ≡ true
  overlap-nearer a-d no-ab no-ac no-bc no-bd =
      let across = begins-before side a.x (along_x p) d.x (along_x t) (and-fst _ _ a-d) in
      let upright = begins-before side a.y (along_y p) d.y (along_y t) (and-snd (spans_share side a.x (along_x p) d.x (along_x t)) _ a-d) in
      let ab = free-along side a p b q a-b no-ab in
      let ac = free-along side a p c r (rise-further a-b b-c) no-ac in
      let bc = free-along side b q c r b-c no-bc in
      let bd = free-along side b q d t (rise-further b-c c-d) no-bd in
      true_from_ne_false _ (λ no-cd. ⊎_elim
      (λ c-d-x. k-before-l side a.x b.x c.x d.x in-x a.y b.y c.y d.y in-y (along_x t) (along_y t) (along_x p) (along_x q) (along_x r)
      (along_y p) (along_y q) (along_y r) c-d-x across upright ab ac bc bd)
      (λ c-d-y. k-before-l side a.y b.y c.y d.y in-y a.x b.x c.x d.x in-x (along_y t) (along_x t) (along_y p) (along_y q) (along_y r)
      (along_x p) (along_x q) (along_x r) c-d-y upright across (⊎_swap ab) (⊎_swap ac) (⊎_swap bc) (⊎_swap bd))
      (free-along side c r d t c-d no-cd))

  -- in the words of the statement
  pub of-four : overlap side a p d t ≡ true
      → (overlap side a p b q || overlap side a p c r || overlap side b q c r || overlap side b q d t || overlap side c r d t) ≡ true
  of-four a-d = true_from_ne_false _ (λ no-one.
      let cd = or_parts _ (overlap side c r d t) no-one in
      let bd = or_parts _ (overlap side b q d t) cd.0 in
      let bc = or_parts _ (overlap side b q c r) bd.0 in
      let ab = or_parts (overlap side a p b q) (overlap side a p c r) bc.0 in
      clash (overlap-nearer a-d ab.0 ab.1 bc.1 bd.1) cd.1)
