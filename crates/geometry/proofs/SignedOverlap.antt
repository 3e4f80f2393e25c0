-- Overlap by dots is overlap by the signed ends: counting from −32,768 changes nothing. The ends of an accepted label lie inside 16 bits,
-- so the dot of each end is the end counted from there, and each of the two tests of an overlap compares the same numbers, gap included.
use mathlib.Core.Path.{◌≡◌, refl, sym, ◌∙◌, ap, ap₂}
use mathlib.Core.Bool.{Bool, true, ◌&&◌}
use Prim.Native.Nat.{ℕ, ◌+◌, ◌≤◌, ◌<◌}
use native.Mathlib.Omega.{arith}
use lib.Dec.{ltb}
use lib.IntN.{ℤ, pos, ◌+ℤ◌}
use lib.Signed.{mag, lt_z}
use Rattle.geometry.specs.Dot.{dot}
use Rattle.geometry.specs.Mark.{Mark, place_in_range_lem, length_in_range_lem, most_length}
use Rattle.geometry.specs.Position.{Direction, leftward, rightward, Position, unlabelled, at, same_side}
use Rattle.geometry.specs.Overlap.{left_end, right_end, overlaps}
use Rattle.geometry.specs.SignedEnds.{signed_left_end, signed_right_end, signed_overlaps}
use Rattle.geometry.proofs.Split.{one-to}
use Rattle.geometry.proofs.Dots.{not_low, add-not-low, dot-lt-high, dot-add, mag-add, dot-sub, mag-sub, range-dots, range-mag}

-- a coordinate compared with another one plus any gap, by their dots i and j
lt-with-gap : (g : ℕ) (z w : ℤ) {i j : ℕ} → mag z < 32768 → mag w < 32768 → dot z ≡ i → j ≡ dot w + g → ltb i j ≡ lt_z z (w +ℤ pos g)
lt-with-gap g z w h k first second =
    sym (dot-lt-high z (w +ℤ pos g) (not_low z h) (add-not-low w g k) ∙ ap₂ ltb first (dot-add w g k ∙ sym second))

-- the mark at a signed place
abbrev mark_of : ℤ → ℕ → ℕ → Mark
mark_of z l w = record { place = dot z; label_length = l; weight = w }

-- the ends of an accepted label, as dots
module _ (w : ℕ) (z : ℤ) (l : ℕ) (p : place_in_range_lem z ≡ true) (q : length_in_range_lem l ≡ true) where
  -- each end has the model's end as its dot, and 16 bits hold it
  short : l ≤ most_length
  short = (one-to most_length l q).1

  left-dot : (d : Direction) → dot (signed_left_end z l d) ≡ left_end (mark_of z l w) d
  left-dot leftward = dot-sub z l (range-mag z p) (omega (arith, short, range-dots z p))
  left-dot rightward = refl

  left-mag : (d : Direction) → mag (signed_left_end z l d) < 32768
  left-mag leftward = mag-sub z l (range-mag z p) (omega (arith, short, range-dots z p))
  left-mag rightward = range-mag z p

  right-dot : (d : Direction) → dot (signed_right_end z l d) ≡ right_end (mark_of z l w) d
  right-dot leftward = refl
  right-dot rightward = dot-add z l (range-mag z p)

  right-mag : (d : Direction) → mag (signed_right_end z l d) < 32768
  right-mag leftward = range-mag z p
  right-mag rightward = mag-add z l (range-mag z p) (omega (arith, short, range-dots z p))

-- The theorem, for marks that every pass accepts and any gap.
pub overlap-by-signed-ends : (g v w : ℕ) (z y : ℤ) (l k : ℕ) (p q : Position)
    → place_in_range_lem z ≡ true → length_in_range_lem l ≡ true → place_in_range_lem y ≡ true → length_in_range_lem k ≡ true
    → overlaps g (mark_of z l v) p (mark_of y k w) q ≡ signed_overlaps g z l p y k q
overlap-by-signed-ends g v w z y l k unlabelled q gz gl gy gk = refl
overlap-by-signed-ends g v w z y l k (at s d) unlabelled gz gl gy gk = refl
overlap-by-signed-ends g v w z y l k (at s d) (at t e) gz gl gy gk =
    ap (λ (b : Bool). same_side s t && b)
    (ap₂ (λ (b c : Bool). b && c)
    (lt-with-gap g (signed_left_end z l d) (signed_right_end y k e) (left-mag v z l gz gl d) (right-mag w y k gy gk e) (left-dot v z l gz gl d)
    (omega (arith, right-dot w y k gy gk e)))
    (lt-with-gap g (signed_left_end y k e) (signed_right_end z l d) (left-mag w y k gy gk e) (right-mag v z l gz gl d) (left-dot w y k gy gk e)
    (omega (arith, right-dot v z l gz gl d))))
