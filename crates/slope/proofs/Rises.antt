-- On a track that rises each mark lies beyond all marks before it, in both coordinates.
use mathlib.Core.Path.{◌≡◌}
use mathlib.Core.Bool.{true}
use mathlib.Core.List.{List, [], ◌∷◌}
use Prim.Native.Nat.{ℕ, zero, suc, ◌<◌}
use native.Mathlib.Omega.{arith}
use lib.IntN.{ℤ, pos}
use lib.Signed.{lt_z}
use lib.ListN.{length, get_or}
use Rattle.std.proofs.lemmas.Bool.{true_from_ne_false}
use Rattle.std.proofs.lemmas.Int.{ints}
use Rattle.geometry.specs.Mark.{rising}
use Rattle.geometry.specs.inner.Each.{Each}
use Rattle.geometry.proofs.Every.{rising-tail}
use Rattle.geometry.proofs.Split.{and-fst, and-snd}
use Rattle.slope.specs.Track.{Point, points_of_lists}
use Rattle.slope.specs.Enough.{Rise, Rising}

pub rise-further : {a b c : Point} → Rise a b → Rise b c → Rise a c
rise-further {a} {b} {c} r s =
    record { in-x = true_from_ne_false _ (λ k. omega (arith, ints, r.in-x, s.in-x)); in-y = true_from_ne_false _ (λ k. omega (arith, ints, r.in-y, s.in-y)) }

pub rising-rest : (a : Point) (ps : List Point) → Rising (a ∷ ps) → Rising ps
rising-rest a [] r = tt
rising-rest a (b ∷ ps) r = r.1

-- a track without its second mark rises too
pub rising-without : (a b : Point) (ps : List Point) → Rising (a ∷ b ∷ ps) → Rising (a ∷ ps)
rising-without a b [] r = tt
rising-without a b (c ∷ ps) r = (rise-further r.0 r.1.0, r.1.1)

abbrev pub Beyond : Point → List Point → Type 0
Beyond a ps = Each (Rise a) ps

beyond-further : (a b : Point) (ps : List Point) → Rise a b → Beyond b ps → Beyond a ps
beyond-further a b [] r h = tt
beyond-further a b (c ∷ ps) r h = (rise-further r h.0, beyond-further a b ps r h.1)

pub rising-beyond : (a : Point) (ps : List Point) → Rising (a ∷ ps) → Beyond a ps
rising-beyond a [] r = tt
rising-beyond a (b ∷ ps) r = (r.0, beyond-further a b ps r.0 (rising-beyond b ps r.1))

-- coordinates that rise give marks that do
pub rising-points : (xs ys : List ℤ) → rising xs ≡ true → rising ys ≡ true → Rising (points_of_lists xs ys)
unfolding rising points_of_lists
rising-points [] ys g h = tt
rising-points (x ∷ xs) [] g h = tt
rising-points (x ∷ []) (y ∷ ys) g h = tt
rising-points (x ∷ x' ∷ xs) (y ∷ []) g h = tt
rising-points (x ∷ x' ∷ xs) (y ∷ y' ∷ ys) g h = (
  record { in-x = and-fst (lt_z x x') (rising (x' ∷ xs)) g; in-y = and-fst (lt_z y y') (rising (y' ∷ ys)) h },
  rising-points (x' ∷ xs) (y' ∷ ys) (and-snd (lt_z x x') (rising (x' ∷ xs)) g) (and-snd (lt_z y y') (rising (y' ∷ ys)) h),
)

-- of coordinates that rise each is below those behind it
first-below : (c : ℤ) (cs : List ℤ) (k : ℕ) → rising (c ∷ cs) ≡ true → k < length cs → lt_z c (get_or cs k (pos 0)) ≡ true
unfolding rising
first-below c [] k r h = absurd (omega arith)
first-below c (d ∷ cs) zero r h = and-fst (lt_z c d) (rising (d ∷ cs)) r
first-below c (d ∷ cs) (suc k) r h =
    let first = and-fst (lt_z c d) (rising (d ∷ cs)) r in
    let second = first-below d cs k (and-snd (lt_z c d) (rising (d ∷ cs)) r) (omega arith) in
    true_from_ne_false _ (λ fails. omega (arith, ints))

pub below-at : (cs : List ℤ) (j k : ℕ) → rising cs ≡ true → j < k → k < length cs → lt_z (get_or cs j (pos 0)) (get_or cs k (pos 0)) ≡ true
below-at cs j zero r h l = absurd (omega arith)
below-at [] j k r h l = absurd (omega arith)
below-at (c ∷ cs) zero (suc k) r h l = first-below c cs k r (omega arith)
below-at (c ∷ cs) (suc j) (suc k) r h l = below-at cs j k (rising-tail c cs r) (omega arith) (omega arith)
