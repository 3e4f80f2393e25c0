-- The place of a dot and the dot of a place undo each other, and sums, differences and tests of one are those of the other.
-- A place is its dot less 32,768, so it is negative below 32,768 and else not; each law is seen in these two cases.
use mathlib.Core.Path.{◌≡◌, refl, sym, ◌∙◌, ap}
use mathlib.Core.Bool.{true, false, cond}
use Prim.Native.Nat.{ℕ, suc, ◌+◌, ◌-◌, ◌≤◌, ◌<◌}
use native.Mathlib.Omega.{arith}
use lib.IntN.{ℤ, pos, negsuc, ◌+ℤ◌, ◌-ℤ◌}
use lib.Signed.{mag, le_z}
use mir.Syntax.{w32}
use mir.Val.{SFits, to_z, of_z}
use mir.ValLaws.{to_z-of_z}
use borrow.Author.Tests.{lt-ltb, le-ltb, le-leb, lt-leb}
use Rattle.geometry.specs.Dot.{dot}
use Rattle.geometry.specs.Mark.{place_in_range_lem, most_place}
use Rattle.geometry.specs.inner.Place.{place_of_lem, least_dot, most_dot}
use Rattle.geometry.proofs.Split.{by-ltb}

-- below 32,768 dots a place is negative
pub place-low : (d : ℕ) → d < 32768 → place_of_lem d ≡ negsuc (32767 - d)
unfolding place_of_lem
place-low d h = rw (lt-ltb d 32768 h) refl

pub place-high : (d : ℕ) → 32768 ≤ d → place_of_lem d ≡ pos (d - 32768)
unfolding place_of_lem
place-high d h = rw (le-ltb d 32768 h) refl

-- there and back
pub dot-of-place : (d : ℕ) → dot (place_of_lem d) ≡ d
unfolding place_of_lem
dot-of-place d = by-ltb d 32768 (λ t. dot (cond t (negsuc (32767 - d)) (pos (d - 32768))) ≡ d) (λ h. omega arith) (λ h. omega arith)

pub place-of-dot : (z : ℤ) → mag z < 32768 → place_of_lem (dot z) ≡ z
place-of-dot (pos n) h = place-high (n + 32768) (omega arith) ∙ ap pos (omega arith)
place-of-dot (negsuc n) h = place-low (32767 - n) (omega arith) ∙ ap negsuc (omega arith)

-- 16 bits hold the place of a dot below 65,536
pub place-mag : (d : ℕ) → d < 65536 → mag (place_of_lem d) < 32768
unfolding place_of_lem
place-mag d h = by-ltb d 32768 (λ t. mag (cond t (negsuc (32767 - d)) (pos (d - 32768))) < 32768) (λ k. omega arith) (λ k. omega arith)

-- a step after a place
pub place-step : (d s : ℕ) → place_of_lem d +ℤ pos s ≡ place_of_lem (d + s)
place-step d s =
    by-ltb d 32768 (λ _. place_of_lem d +ℤ pos s ≡ place_of_lem (d + s))
    (λ h.
    rw (place-low d h)
    (by-ltb s (suc (32767 - d)) (λ t. cond t (negsuc (suc (32767 - d) - suc s)) (pos (s - suc (32767 - d))) ≡ place_of_lem (d + s))
    (λ k. sym (place-low (d + s) (omega arith) ∙ ap negsuc (omega arith)))
    (λ k. sym (place-high (d + s) (omega arith) ∙ ap pos (omega arith)))))
    (λ h. rw (place-high d h) (sym (place-high (d + s) (omega arith) ∙ ap pos (omega arith))))

-- the test of the upper bound of a place, by its dot
pub place-below : (d : ℕ) → d ≤ most_dot → le_z (place_of_lem d) most_place ≡ true
place-below d h =
    by-ltb d 32768 (λ _. le_z (place_of_lem d) most_place ≡ true)
    (λ k. rw (place-low d k) refl)
    (λ k. rw (place-high d k) (le-leb (d - 32768) _ (omega arith)))

pub place-above : (d : ℕ) → most_dot < d → le_z (place_of_lem d) most_place ≡ false
place-above d h = rw (place-high d (omega arith)) (lt-leb (d - 32768) _ (omega arith))

-- the test of both bounds, by its dot
pub place-fits : (d : ℕ) → least_dot ≤ d → d ≤ most_dot → place_in_range_lem (place_of_lem d) ≡ true
place-fits d h k =
    by-ltb d 32768 (λ _. place_in_range_lem (place_of_lem d) ≡ true)
    (λ l. rw (place-low d l, le-leb (32767 - d) 29999 (omega arith)) refl)
    (λ l. rw (place-high d l) (le-leb (d - 32768) _ (omega arith)))

pub place-too-low : (d : ℕ) → d < least_dot → place_in_range_lem (place_of_lem d) ≡ false
place-too-low d h = rw (place-low d (omega arith), lt-leb (32767 - d) 29999 (omega arith)) refl

pub place-too-high : (d : ℕ) → most_dot < d → place_in_range_lem (place_of_lem d) ≡ false
place-too-high d h = rw (place-high d (omega arith)) (lt-leb (d - 32768) _ (omega arith))

-- a number that went through 32 bits is itself
pub wide-held : {z : ℤ} → mag z < 2147483648 → SFits w32 z
wide-held h = record { sfits = h }

pub wide_back : (z : ℤ) → mag z < 2147483648 → to_z w32 (of_z w32 z) ≡ z
wide_back z h = to_z-of_z w32 z (wide-held h)

-- a dot as a sum, and a place as a difference
pub sum-is-dot : (z : ℤ) → mag z < 32768 → z +ℤ pos 32768 ≡ pos (dot z)
sum-is-dot (pos n) h = refl
sum-is-dot (negsuc n) h = rw (le-ltb 32768 (suc n) h) (ap pos (omega arith))

pub difference-is-place : (d : ℕ) → pos d -ℤ pos 32768 ≡ place_of_lem d
unfolding place_of_lem
difference-is-place d =
    by-ltb d 32768 (λ t. cond t (negsuc (32768 - suc d)) (pos (d - 32768)) ≡ cond t (negsuc (32767 - d)) (pos (d - 32768)))
    (λ h. ap negsuc (omega arith)) (λ h. refl)

-- a coordinate's dot is below 65,536
pub dot-small : (z : ℤ) → mag z < 32768 → dot z < 65536
dot-small (pos n) h = omega arith
dot-small (negsuc n) h = omega arith
