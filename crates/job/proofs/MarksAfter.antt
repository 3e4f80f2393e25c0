-- The checks on entry say of a strip that its marks follow one another: each is in its ranges and lies behind the one before.
-- This is the form in which records are read and written, and both ways are shown. A strip that passes the checks still passes them
-- without its first mark, so its marks follow by induction; marks that follow have lists of one length, rising places and good values.
use mathlib.Core.Path.{◌≡◌, refl, ap}
use mathlib.Core.Bool.{Bool, true, false}
use mathlib.Core.List.{List, [], ◌∷◌}
use Prim.Native.Nat.{ℕ, suc, ◌≤◌, ◌<◌}
use native.Mathlib.Omega.{arith}
use lib.IntN.{ℤ}
use lib.ListN.{length}
use Rattle.geometry.specs.Dot.{dot}
use Rattle.std.specs.List.{list_all}
use Rattle.geometry.specs.Mark.{place_in_range_lem, length_in_range_lem, weight_in_range_lem, rising}
use Rattle.geometry.specs.Strip.{Strip, strip}
use Rattle.geometry.proofs.Split.{both}
use Rattle.geometry.proofs.Every.{rising-tail}
use Rattle.geometry.proofs.Accepted.{Accepted, first_good, rest-good}
use Rattle.job.specs.Encode.{first_place_lem}
use Rattle.job.proofs.RisingPlaces.{dots-rise, rising-first, rising-more}

-- the place y comes after the place z; z is y itself at the first mark
abbrev pub Follows : Bool → ℤ → ℤ → Type 0
Follows true z y = z ≡ y
Follows false z y = dot z < dot y

-- a mark in its ranges that comes after the place z
pub record GoodMark (first : Bool) (z y : ℤ) (l w : ℕ) : Type 0 where
  pub follows : Follows first z y
  pub place : place_in_range_lem y ≡ true
  pub label_length : length_in_range_lem l ≡ true
  pub weight : weight_in_range_lem w ≡ true

-- a list of marks, in three lists of one length, each of which comes after the one before
abbrev pub MarksAfter : Bool → ℤ → List ℤ → List ℕ → List ℕ → Type 0
MarksAfter first z [] [] [] = Unit {0}
MarksAfter first z [] [] (w ∷ ws) = ⊥
MarksAfter first z [] (l ∷ ls) ws = ⊥
MarksAfter first z (y ∷ zs) [] ws = ⊥
MarksAfter first z (y ∷ zs) (l ∷ ls) [] = ⊥
MarksAfter first z (y ∷ zs) (l ∷ ls) (w ∷ ws) = GoodMark first z y l w × MarksAfter false y zs ls ws

-- from the checks on entry: the first of the places, if there is one, comes after z
abbrev Begins : Bool → ℤ → List ℤ → Type 0
Begins first z [] = Unit {0}
Begins first z (y ∷ zs) = Follows first z y

-- in a list that rises the second place comes after the first
next-begins : (z : ℤ) (zs : List ℤ) → list_all place_in_range_lem (z ∷ zs) ≡ true → rising (z ∷ zs) ≡ true → Begins false z zs
next-begins z [] good r = tt
next-begins z (y ∷ zs) good r = rising-first z y zs good r

module _ (limit : ℕ) where
  -- a strip that passes the checks passes them without its first mark
  accepted-rest : (z : ℤ) (zs : List ℤ) (l : ℕ) (ls : List ℕ) (w : ℕ) (ws : List ℕ) → Accepted limit (strip (z ∷ zs) (l ∷ ls) (w ∷ ws))
      → Accepted limit (strip zs ls ws)
  accepted-rest z zs l ls w ws a =
      record {
        same-lengths = omega (arith, a.same-lengths);
        same-weights = omega (arith, a.same-weights);
        few = omega (arith, a.few);
        places-good = rest-good place_in_range_lem z zs a.places-good;
        places-rise = rising-tail z zs a.places-rise;
        lengths-good = rest-good length_in_range_lem l ls a.lengths-good;
        weights-good = rest-good weight_in_range_lem w ws a.weights-good;
      }

  -- so its marks follow one another
  after-lists : (first : Bool) (z : ℤ) (zs : List ℤ) (ls ws : List ℕ) → Begins first z zs → Accepted limit (strip zs ls ws)
      → MarksAfter first z zs ls ws
  after-lists first z [] [] [] b a = tt
  after-lists first z [] [] (w ∷ ws) b a = absurd (omega (arith, a.same-weights))
  after-lists first z [] (l ∷ ls) ws b a = absurd (omega (arith, a.same-lengths))
  after-lists first z (y ∷ zs) [] ws b a = absurd (omega (arith, a.same-lengths))
  after-lists first z (y ∷ zs) (l ∷ ls) [] b a = absurd (omega (arith, a.same-weights))
  after-lists first z (y ∷ zs) (l ∷ ls) (w ∷ ws) b a = (
    record {
      follows = b;
      place = first_good place_in_range_lem y zs a.places-good;
      label_length = first_good length_in_range_lem l ls a.lengths-good;
      weight = first_good weight_in_range_lem w ws a.weights-good;
    },
    after-lists false y zs ls ws (next-begins y zs a.places-good a.places-rise) (accepted-rest y zs l ls w ws a),
  )

  -- the first mark comes after its own place
  begins-first : (zs : List ℤ) → Begins true (first_place_lem zs) zs
  begins-first [] = tt
  begins-first (z ∷ zs) = refl

  pub accepted-after : (s : Strip) → Accepted limit s → MarksAfter true (first_place_lem s.places) s.places s.lengths s.weights
  accepted-after s a = after-lists true (first_place_lem s.places) s.places s.lengths s.weights (begins-first s.places) a

  -- and the other way round: marks that follow one another rise
  after-rising : (y : ℤ) (zs : List ℤ) (ls ws : List ℕ) → place_in_range_lem y ≡ true → MarksAfter false y zs ls ws → rising (y ∷ zs) ≡ true
  unfolding rising
  after-rising y [] ls ws py h = refl
  after-rising y (x ∷ zs) [] ws py h = absurd h
  after-rising y (x ∷ zs) (l ∷ ls) [] py h = absurd h
  after-rising y (x ∷ zs) (l ∷ ls) (w ∷ ws) py h =
      let m = h.0 in
      rising-more y x zs (dots-rise y x py m.place m.follows) (after-rising x zs ls ws m.place h.1)

  -- and pass every test of the checks
  pub after-accepted : (first : Bool) (z : ℤ) (zs : List ℤ) (ls ws : List ℕ) → length zs ≤ limit → MarksAfter first z zs ls ws
      → Accepted limit (strip zs ls ws)
  unfolding rising
  after-accepted first z [] [] [] few h =
      record { same-lengths = refl; same-weights = refl; few = few; places-good = refl; places-rise = refl; lengths-good = refl; weights-good = refl }
  after-accepted first z [] [] (w ∷ ws) few h = absurd h
  after-accepted first z [] (l ∷ ls) ws few h = absurd h
  after-accepted first z (y ∷ zs) [] ws few h = absurd h
  after-accepted first z (y ∷ zs) (l ∷ ls) [] few h = absurd h
  after-accepted first z (y ∷ zs) (l ∷ ls) (w ∷ ws) few h =
      let m = h.0 in
      let a = after-accepted false y zs ls ws (omega arith) h.1 in
      record {
        same-lengths = ap suc a.same-lengths;
        same-weights = ap suc a.same-weights;
        few = few;
        places-good = both (place_in_range_lem y) (list_all place_in_range_lem zs) m.place a.places-good;
        places-rise = after-rising y zs ls ws m.place h.1;
        lengths-good = both (length_in_range_lem l) (list_all length_in_range_lem ls) m.label_length a.lengths-good;
        weights-good = both (weight_in_range_lem w) (list_all weight_in_range_lem ws) m.weight a.weights-good;
      }
