-- Places that are in their range rise exactly if their dots do: each has a smaller dot than the next.
-- A dot is the place counted from -32,768, so the order of two places is the order of their dots; a list rises if each place is below
-- the next, and this goes over to its rest and to any two neighbours in it.
use mathlib.Core.Path.{◌≡◌, refl, sym, ◌∙◌}
use mathlib.Core.Bool.{true}
use mathlib.Core.List.{List, [], ◌∷◌}
use Prim.Native.Nat.{ℕ, zero, suc, ◌<◌}
use native.Mathlib.Omega.{arith}
use borrow.Author.Tests.{ltb-true, lt-ltb}
use lib.IntN.{ℤ, pos}
use lib.Signed.{lt_z}
use lib.ListN.{length, get_or}
use Rattle.std.specs.List.{list_all}
use Rattle.geometry.specs.Dot.{dot}
use Rattle.geometry.specs.Mark.{place_in_range_lem, rising}
use Rattle.geometry.proofs.Split.{and-fst, and-snd, both}
use Rattle.geometry.proofs.Dots.{dot-lt, range-mag}
use Rattle.geometry.proofs.Every.{rising-tail}
use Rattle.geometry.proofs.Accepted.{first_good, rest-good}

module _ (z y : ℤ) (pz : place_in_range_lem z ≡ true) (py : place_in_range_lem y ≡ true) where
  -- the order of two places is the order of their dots
  pub rises-dots : lt_z z y ≡ true → dot z < dot y
  rises-dots e = ltb-true (dot z) (dot y) (sym (dot-lt z y (range-mag z pz) (range-mag y py)) ∙ e)

  pub dots-rise : dot z < dot y → lt_z z y ≡ true
  dots-rise h = dot-lt z y (range-mag z pz) (range-mag y py) ∙ lt-ltb (dot z) (dot y) h

-- the first two places of a list that rises, and any two neighbours
pub rising-first : (z y : ℤ) (zs : List ℤ) → list_all place_in_range_lem (z ∷ y ∷ zs) ≡ true → rising (z ∷ y ∷ zs) ≡ true → dot z < dot y
unfolding rising
rising-first z y zs good e =
    let behind = rest-good place_in_range_lem z (y ∷ zs) good in
    rises-dots z y (first_good place_in_range_lem z (y ∷ zs) good) (first_good place_in_range_lem y zs behind) (and-fst (lt_z z y) (rising (y ∷ zs)) e)

-- a place in front that is below the first
pub rising-more : (z y : ℤ) (zs : List ℤ) → lt_z z y ≡ true → rising (y ∷ zs) ≡ true → rising (z ∷ y ∷ zs) ≡ true
unfolding rising
rising-more z y zs e f = both (lt_z z y) (rising (y ∷ zs)) e f

pub rising-at : (zs : List ℤ) (i : ℕ) → list_all place_in_range_lem zs ≡ true → rising zs ≡ true → suc i < length zs
    → dot (get_or zs i (pos 0)) < dot (get_or zs (suc i) (pos 0))
rising-at [] i good e h = absurd (omega arith)
rising-at (z ∷ []) i good e h = absurd (omega arith)
rising-at (z ∷ y ∷ zs) zero good e h = rising-first z y zs good e
rising-at (z ∷ y ∷ zs) (suc i) good e h = rising-at (y ∷ zs) i (rest-good place_in_range_lem z (y ∷ zs) good) (rising-tail z (y ∷ zs) e) (omega arith)
