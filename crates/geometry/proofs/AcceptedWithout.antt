-- A strip that is accepted is accepted without any one of its marks: no value is new, each list is one shorter, and the places still rise,
-- since a place that is below the next is also below the one behind that.
use mathlib.Core.Path.{◌≡◌, refl}
use mathlib.Core.Bool.{Bool, true}
use mathlib.Core.List.{List, [], ◌∷◌}
use Prim.Native.Nat.{ℕ, zero, suc, ◌<◌}
use native.Mathlib.Omega.{arith}
use lib.IntN.{ℤ}
use lib.Signed.{lt_z, lt_z_yes}
use lib.ListN.{length, take, drop}
use denote.Floats.{is_true}
use Rattle.std.specs.Prelude.{remove}
use Rattle.std.specs.List.{list_all}
use Rattle.std.specs.Cmp.{int_chain}
use Rattle.std.proofs.lemmas.Float.{T_from_true}
use Rattle.std.proofs.lemmas.List.Folds.{list_all-append}
use Rattle.std.proofs.lemmas.List.Edits.{length-remove}
use Rattle.geometry.specs.Mark.{place_in_range_lem, length_in_range_lem, weight_in_range_lem, rising}
use Rattle.geometry.specs.Strip.{Strip, strip}
use Rattle.geometry.proofs.Split.{both, and-fst, and-snd}
use Rattle.geometry.proofs.Every.{every_take, every_drop}
use Rattle.geometry.proofs.Accepted.{Accepted}

-- what every element passes is passed by all but one
all-but-one : {A : Type 0} (p : A → Bool) (xs : List A) (i : ℕ) → list_all p xs ≡ true → list_all p (remove xs i) ≡ true
all-but-one p xs i e = rw (list_all-append p (take i xs) (drop (suc i) xs)) (both _ _ (every_take p i xs e) (every_drop p (suc i) xs e))

-- below the next, and so below the one behind that
below-both : (a b c : ℤ) → lt_z a b ≡ true → lt_z b c ≡ true → lt_z a c ≡ true
below-both a b c h k = is_true _ (int_chain a b c (lt_z_yes (T_from_true _ h)) (lt_z_yes (T_from_true _ k))).lt

rising-without : (zs : List ℤ) (i : ℕ) → rising zs ≡ true → rising (remove zs i) ≡ true
unfolding rising
rising-without [] zero e = refl
rising-without [] (suc i) e = refl
rising-without (z ∷ []) zero e = refl
rising-without (z ∷ []) (suc zero) e = refl
rising-without (z ∷ []) (suc (suc i)) e = refl
rising-without (z ∷ y ∷ zs) zero e = and-snd (lt_z z y) (rising (y ∷ zs)) e
rising-without (z ∷ y ∷ []) (suc zero) e = refl
rising-without (z ∷ y ∷ x ∷ zs) (suc zero) e =
    let behind = and-snd (lt_z z y) (rising (y ∷ x ∷ zs)) e in
    let second = and-fst (lt_z y x) (rising (x ∷ zs)) behind in
    both _ _ (below-both z y x (and-fst (lt_z z y) (rising (y ∷ x ∷ zs)) e) second) (and-snd (lt_z y x) (rising (x ∷ zs)) behind)
rising-without (z ∷ y ∷ zs) (suc (suc i)) e =
    both _ _ (and-fst (lt_z z y) (rising (y ∷ zs)) e) (rising-without (y ∷ zs) (suc i) (and-snd (lt_z z y) (rising (y ∷ zs)) e))

-- so a strip that is accepted is accepted without any one of its marks
pub accepted-without : (limit : ℕ) (s : Strip) (i : ℕ) → i < length s.places → Accepted limit s
    → Accepted limit (strip (remove s.places i) (remove s.lengths i) (remove s.weights i))
accepted-without limit s i h a =
    let places = length-remove s.places i h in
    let lengths = length-remove s.lengths i (omega (arith, h, a.same-lengths)) in
    let weights = length-remove s.weights i (omega (arith, h, a.same-weights)) in
    record {
      same-lengths = omega (arith, places, lengths, a.same-lengths);
      same-weights = omega (arith, places, weights, a.same-weights);
      few = omega (arith, places, a.few);
      places-good = all-but-one place_in_range_lem s.places i a.places-good;
      places-rise = rising-without s.places i a.places-rise;
      lengths-good = all-but-one length_in_range_lem s.lengths i a.lengths-good;
      weights-good = all-but-one weight_in_range_lem s.weights i a.weights-good;
    }
