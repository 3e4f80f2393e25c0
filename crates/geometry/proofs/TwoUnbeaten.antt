-- The two sentences of demand 3 about part layouts, of a strip that the checks on entry accept, after any mark k and at any gap g.
-- Part layouts are judged by pairwise overlap and reaches by right ends.
use mathlib.Core.Path.{◌≡◌}
use mathlib.Core.Bool.{true}
use mathlib.Core.List.{List, [], ◌∷◌}
use Prim.Native.Nat.{ℕ, zero, suc, ◌≤◌}
use native.Mathlib.Omega.{arith}
use lib.IntN.{ℤ}
use lib.ListN.{length, take}
use Rattle.std.specs.List.{list_all}
use Rattle.geometry.specs.Mark.{Mark, place_in_range_lem}
use Rattle.geometry.specs.Strip.{Strip, marks_of_lists, marks_of, most_marks}
use Rattle.geometry.specs.Dot.{empty_reach}
use Rattle.geometry.specs.Position.{Position}
use Rattle.geometry.specs.Refusal.{accepted}
use Rattle.geometry.specs.Entry.{entry}
use Rattle.geometry.specs.Placing.{IsPlacing}
use Rattle.geometry.specs.Layout.{unbeaten_count, BeginsUnbeaten}
use Rattle.geometry.specs.inner.Rising.{Rising}
use Rattle.geometry.proofs.Dots.{range-dots}
use Rattle.geometry.proofs.Accepted.{entry-accepted, accepted-rising, length-marks, first_good, rest-good}
use Rattle.geometry.proofs.Rising.{Beyond}
use Rattle.geometry.proofs.Layouts.{two-unbeaten}
use Rattle.geometry.proofs.Beginnings.{rising-take, beyond-take, begins-unbeaten}

-- a place in range has a dot of at least 2,768
lists-beyond : (zs : List ℤ) (ls ws : List ℕ) → list_all place_in_range_lem zs ≡ true → Beyond empty_reach (marks_of_lists zs ls ws)
unfolding marks_of_lists
lists-beyond [] ls ws e = tt
lists-beyond (z ∷ zs) [] ws e = tt
lists-beyond (z ∷ zs) (l ∷ ls) [] e = tt
lists-beyond (z ∷ zs) (l ∷ ls) (w ∷ ws) e =
    (omega (arith, range-dots z (first_good place_in_range_lem z zs e)), lists-beyond zs ls ws (rest-good place_in_range_lem z zs e))

-- accepted places lie far beyond the reach of a side without labels
marks-beyond : (s : Strip) → list_all place_in_range_lem s.places ≡ true → Beyond empty_reach (marks_of s)
marks-beyond s e = lists-beyond s.places s.lengths s.weights e

-- the first k marks of a rising strip, at least one, have at most two unbeaten pairs
some-marks : (g k : ℕ) (ms : List Mark) → Rising ms → Beyond empty_reach ms → 1 ≤ k → k ≤ length ms → unbeaten_count g (take k ms) ≤ 2
some-marks g zero ms rise big one few = absurd (omega arith)
some-marks g (suc k) [] rise big one few = absurd (omega arith)
some-marks g (suc k) (m ∷ ms) rise big one few =
    two-unbeaten g m (take k ms) (rising-take (suc k) (m ∷ ms) rise) (beyond-take empty_reach (suc k) (m ∷ ms) big)

module _ (s : Strip) (good : entry most_marks s ≡ accepted) (g k : ℕ) (few : k ≤ length s.places) where
  -- a strip has a mark for each place
  count-of-marks : k ≤ length (marks_of s)
  count-of-marks = let a = entry-accepted most_marks s good in rw (length-marks s a.same-lengths a.same-weights) few

  -- "After any mark of any strip of up to 4,000 at most two pairs of reaches are unbeaten"
  pub at-most-two-unbeaten : 1 ≤ k → unbeaten_count g (take k (marks_of s)) ≤ 2
  at-most-two-unbeaten one =
      let a = entry-accepted most_marks s good in
      some-marks g k (marks_of s) (accepted-rising most_marks s a) (marks-beyond s a.places-good) one count-of-marks

  -- "and a strip that fits has a placing that begins with an unbeaten part layout"
  pub fitting-begins-unbeaten : (ps : List Position) → IsPlacing g (marks_of s) ps → BeginsUnbeaten g k (marks_of s)
  fitting-begins-unbeaten ps placed =
      let a = entry-accepted most_marks s good in
      begins-unbeaten g k (marks_of s) ps (accepted-rising most_marks s a) (marks-beyond s a.places-good) count-of-marks placed
