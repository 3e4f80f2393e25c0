-- The ends of a label and its reach follow from the ranges of its mark and of the gap: a place of −30,000 to 30,000, a length of at most 240, a
-- gap of at most 8.
use mathlib.Core.Path.{◌≡◌}
use mathlib.Core.Bool.{true}
use mathlib.Core.List.{List, [], ◌∷◌}
use Prim.Native.Nat.{ℕ, ◌+◌, ◌<◌}
use native.Mathlib.Omega.{arith}
use lib.IntN.{ℤ, pos, negsuc}
use lib.Signed.{mag}
use mir.Syntax.{w16}
use mir.Val.{to_z, of_z}
use Rattle.geometry.specs.Dot.{dot}
use Rattle.std.specs.List.{list_all}
use Rattle.geometry.specs.Mark.{Mark, place_in_range_lem, length_in_range_lem, most_length}
use Rattle.geometry.specs.Strip.{Strip, strip, marks_of_lists, marks_of}
use Rattle.geometry.specs.Position.{Direction, leftward, rightward}
use Rattle.geometry.specs.Overlap.{left_end, right_end}
use Rattle.geometry.specs.inner.Each.{Each}
use Rattle.geometry.proofs.Split.{one-to}
use Rattle.geometry.proofs.Dots.{fetched, range-dots}
use Rattle.geometry.proofs.Accepted.{first_good, rest-good}
use Rattle.full.specs.inner.SixteenBits.{LeftEdge, RightEnd, Reach, Carried, is_reach, is_empty, EndsHeld, Narrow}
use Rattle.full.specs.inner.OneMark.{Formed}
use Rattle.full.specs.inner.Table.{Checked}

-- the ends of the label of a mark in its ranges, at a gap
module _ (z : ℤ) (l g weight : ℕ) (formed : Formed z l g) where
  abbrev mark : Mark
  mark = record { place = dot z; label_length = l; weight = weight }

  left-held : (d : Direction) → LeftEdge (left_end mark d)
  left-held leftward = omega arith
  left-held rightward = omega arith

  right-held : (d : Direction) → RightEnd (right_end mark d)
  right-held leftward = omega arith
  right-held rightward = omega arith

  -- the gap adds at most 8 to a right end
  reach-held : (d : Direction) → Reach (right_end mark d + g)
  reach-held d = omega (arith, right-held d)

  pub formed-ends : EndsHeld g mark
  formed-ends = record { left-edge = left-held; right-end = right-held; reach = reach-held }

-- a mark that passes the tests on entry is in its ranges
tested : (z : ℤ) (l g : ℕ) → place_in_range_lem z ≡ true → length_in_range_lem l ≡ true → Narrow g → Formed z l g
tested z l g place-good length-good narrow =
    let placed = range-dots z place-good in
    let short = (one-to most_length l length-good).1 in
    record { place-held = record { not-less = placed.low; not_more = placed.high }; length-short = short; gap-narrow = narrow }

-- the labels of a strip's marks
lists-held : (g : ℕ) → Narrow g → (zs : List ℤ) (ls ws : List ℕ)
    → list_all place_in_range_lem zs ≡ true → list_all length_in_range_lem ls ≡ true → Each (EndsHeld g) (marks_of_lists zs ls ws)
unfolding marks_of_lists
lists-held g h [] ls ws p q = tt
lists-held g h (z ∷ zs) [] ws p q = tt
lists-held g h (z ∷ zs) (l ∷ ls) [] p q = tt
lists-held g h (z ∷ zs) (l ∷ ls) (w ∷ ws) p q =
    let formed = tested z l g (first_good place_in_range_lem z zs p) (first_good length_in_range_lem l ls q) h in
    (formed-ends z l g w formed, lists-held g h zs ls ws (rest-good place_in_range_lem z zs p) (rest-good length_in_range_lem l ls q))

pub marks-held : (g : ℕ) (s : Strip) → Narrow g → list_all place_in_range_lem s.places ≡ true → list_all length_in_range_lem s.lengths ≡ true
    → Each (EndsHeld g) (marks_of s)
marks-held g s h p q = lists-held g h s.places s.lengths s.weights p q

-- lists that are checked, with any weights
pub checked-held : {places : List ℤ} {lengths : List ℕ} {g : ℕ} → Checked places lengths g → (weights : List ℕ)
    → Each (EndsHeld g) (marks_of (strip places lengths weights))
checked-held checked weights = marks-held _ (strip _ _ weights) checked.gap-narrow checked.places-good checked.lengths-good

-- 16 bits hold a number whose dot is a left edge's
edge-mag : (z : ℤ) → LeftEdge (dot z) → mag z < 32768
edge-mag (pos n) h = omega arith
edge-mag (negsuc n) h = omega arith

-- and one whose dot is a reach's
carried-mag : (z : ℤ) → Carried (dot z) → mag z < 32768
carried-mag (pos n) (is_reach h) = omega arith
carried-mag (negsuc n) (is_reach h) = omega arith
carried-mag (pos n) (is_empty e) = omega arith
carried-mag (negsuc n) (is_empty e) = omega arith

-- and give it back
pub carried-back : (z : ℤ) → Carried (dot z) → to_z w16 (of_z w16 z) ≡ z
carried-back z c = fetched z (carried-mag z c)

pub reach-back : (z : ℤ) → Reach (dot z) → to_z w16 (of_z w16 z) ≡ z
reach-back z h = carried-back z (is_reach h)

pub edge-back : (z : ℤ) → LeftEdge (dot z) → to_z w16 (of_z w16 z) ≡ z
edge-back z h = fetched z (edge-mag z h)
