-- Each bit of one set is the greatest of some bits of another. A move adds the places that lie so much higher, and a mask takes the places
-- from each bit that it clears. So which bits a chain of moves and masks gathers is computed from the masks alone.
use mathlib.Core.Path.{◌≡◌, sym, ◌∙◌}
use mathlib.Core.List.{List, [], ◌∷◌, ◌++◌}
use Prim.Native.Nat.{ℕ, zero, suc, ◌+◌, ◌<◌, min, max}
use native.Mathlib.Omega.{arith}
use Rattle.std.specs.Int.{bit_at}
use Rattle.std.proofs.Common.{bit_and}
use Rattle.std.proofs.lemmas.Nat.Bits.{bit_at_and, bit_at-lt}
use Rattle.slope.proofs.Sets.{most}

most-append : (set : ℕ) (is js : List ℕ) → most set (is ++ js) ≡ max (most set is) (most set js)
most-append set [] js = omega arith
most-append set (i ∷ is) js = omega (arith, most-append set is js)

-- for each place the places of the first set whose bits the second set gathers there
pub record Gathers (set into : ℕ) (places : ℕ → List ℕ) : Type 0 where
  pub each : (i : ℕ) → bit_at into i ≡ most set (places i)

abbrev pub unmoved : ℕ → List ℕ
unmoved i = i ∷ []

abbrev pub moved : ℕ → (ℕ → List ℕ) → ℕ → List ℕ
moved by places i = places i ++ places (i + by)

abbrev pub kept : ℕ → List ℕ → List ℕ
kept zero places = []
kept (suc bit) places = places

abbrev pub masked : ℕ → (ℕ → List ℕ) → ℕ → List ℕ
masked mask places i = kept (bit_at mask i) (places i)

pub gathers-itself : (set : ℕ) → Gathers set set unmoved
gathers-itself set = record { each = λ i. omega arith }

pub gathers-moved : {set from into : ℕ} {places : ℕ → List ℕ} → Gathers set from places → (by : ℕ)
    → ((i : ℕ) → bit_at into i ≡ max (bit_at from i) (bit_at from (i + by))) → Gathers set into (moved by places)
gathers-moved {set} {places = places} from by is = record {
  each = λ i. is i ∙ (λ k. max (from.each i k) (from.each (i + by) k)) ∙ sym (most-append set (places i) (places (i + by)));
}

pub gathers-masked : {set from : ℕ} {places : ℕ → List ℕ} → Gathers set from places
    → (mask : ℕ) → Gathers set (bit_and from mask) (masked mask places)
gathers-masked {set} {from} {places} gathers mask = record { each = λ i. bit_at_and from mask i ∙ by-bit i (bit_at mask i) (bit_at-lt mask i) }
  where
    by-bit : (i bit : ℕ) → bit < 2 → min (bit_at from i) bit ≡ most set (kept bit (places i))
    by-bit i zero h = omega arith
    by-bit i (suc bit) h = omega (arith, gathers.each i)
