-- A run of a strip that is accepted is accepted: no value is new, the lists are cut alike, and places that follow one another rise as they did.
use mathlib.Core.Path.{◌≡◌, refl}
use mathlib.Core.Bool.{true}
use mathlib.Core.List.{List, [], ◌∷◌}
use Prim.Native.Nat.{ℕ, zero, suc, ◌-◌, min}
use native.Mathlib.Omega.{arith}
use lib.IntN.{ℤ}
use lib.Signed.{lt_z}
use lib.ListN.{length, take, drop, length-take, length-drop}
use Rattle.geometry.specs.Mark.{place_in_range_lem, length_in_range_lem, weight_in_range_lem, rising}
use Rattle.geometry.specs.Strip.{Strip, strip}
use Rattle.geometry.proofs.Split.{both, and-fst, and-snd}
use Rattle.geometry.proofs.Every.{every_take, every_drop}
use Rattle.geometry.proofs.Accepted.{Accepted}

rises-take : (k : ℕ) (zs : List ℤ) → rising zs ≡ true → rising (take k zs) ≡ true
unfolding rising
rises-take zero zs e = refl
rises-take (suc k) [] e = refl
rises-take (suc zero) (z ∷ zs) e = refl
rises-take (suc (suc k)) (z ∷ []) e = refl
rises-take (suc (suc k)) (z ∷ y ∷ zs) e =
    both _ _ (and-fst (lt_z z y) (rising (y ∷ zs)) e) (rises-take (suc k) (y ∷ zs) (and-snd (lt_z z y) (rising (y ∷ zs)) e))

rises-drop : (k : ℕ) (zs : List ℤ) → rising zs ≡ true → rising (drop k zs) ≡ true
unfolding rising
rises-drop zero zs e = e
rises-drop (suc k) [] e = refl
rises-drop (suc zero) (z ∷ []) e = refl
rises-drop (suc (suc k)) (z ∷ []) e = refl
rises-drop (suc k) (z ∷ y ∷ zs) e = rises-drop k (y ∷ zs) (and-snd (lt_z z y) (rising (y ∷ zs)) e)

-- the first j entries of a list, less the first i
pub length-run : {A : Type 0} (i j : ℕ) (xs : List A) → length (drop i (take j xs)) ≡ min j (length xs) - i
length-run i j xs = rw (length-drop i (take j xs), length-take j xs) refl

-- so the first j marks of a strip that is accepted, less the first i, are accepted
pub accepted-run : (limit i j : ℕ) (s : Strip) → Accepted limit s
    → Accepted limit (strip (drop i (take j s.places)) (drop i (take j s.lengths)) (drop i (take j s.weights)))
accepted-run limit i j s a =
    let places = length-run i j s.places in
    let lengths = length-run i j s.lengths in
    let weights = length-run i j s.weights in
    record {
      same-lengths = omega (arith, places, lengths, a.same-lengths);
      same-weights = omega (arith, places, weights, a.same-weights);
      few = omega (arith, places, a.few);
      places-good = every_drop place_in_range_lem i (take j s.places) (every_take place_in_range_lem j s.places a.places-good);
      places-rise = rises-drop i (take j s.places) (rises-take j s.places a.places-rise);
      lengths-good = every_drop length_in_range_lem i (take j s.lengths) (every_take length_in_range_lem j s.lengths a.lengths-good);
      weights-good = every_drop weight_in_range_lem i (take j s.weights) (every_take weight_in_range_lem j s.weights a.weights-good);
    }
