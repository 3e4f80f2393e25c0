-- The cases marked * hold. For each claim there is a test that computes, and a law that the test proves the claim; one run of the tests
-- over the whole list is true. A claim of slide 11, which speaks of every denominator, follows from the test at whole dots because
-- fractions never help in a rising strip; a claim of marks left out follows because every overlap-free choice is enumerated.
use mathlib.Core.Path.{◌≡◌, refl, ap₂}
use mathlib.Core.Bool.{Bool, true, false, not, ◌&&◌, ◌||◌}
use mathlib.Core.Logic.{⊎_elim}
use mathlib.Core.List.{List, [], ◌∷◌, map}
use mathlib.Core.Option.{Option, none, some}
use Prim.Native.Nat.{ℕ}
use lib.Dec.{ltb, eqb}
use lib.ListN.{length}
use borrow.Author.Tests.{eqb-true, ltb-true, not-true, eq-eqb}
use Rattle.geometry.specs.Lists.{any_of, keep, first_of, greatest_of, prefixed, words_of}
use Rattle.std.specs.List.{list_all}
use Rattle.geometry.specs.Mark.{Mark}
use Rattle.geometry.specs.Strip.{marks_of_lists, marks_of}
use Rattle.geometry.specs.Position.{Position, every_position, code}
use Rattle.geometry.specs.Overlap.{apart, free}
use Rattle.geometry.specs.Placing.{first_placing, sum_of, best_sum, left_out_from}
use Rattle.geometry.specs.Sliding.{edges_from, none_beyond, slides_whole}
use Rattle.geometry.specs.Layout.{part_layouts, reach, unbeaten, distinct, unbeaten_count}
use Rattle.geometry.specs.Worked.{Says, full_is, full_none, slide_fits, slide_none, best_is, best_out, unbeaten_is, HoldsOf, Holds, Claim, starred}
use Rattle.geometry.specs.inner.Rising.{Rising}
use Rattle.geometry.proofs.Split.{both, and-fst, and-snd, clash, or_cases}
use Rattle.geometry.proofs.Words.{Member}
use Rattle.geometry.proofs.Kept.{every-passes}
use Rattle.geometry.proofs.Best.{free-listed}
use Rattle.geometry.proofs.WholeEdges.{whole-slides, none-slides}

-- two lists of numbers are equal
unfoldable same_numbers : List ℕ → List ℕ → Bool
same_numbers [] [] = true
same_numbers [] (y ∷ ys) = false
same_numbers (x ∷ xs) [] = false
same_numbers (x ∷ xs) (y ∷ ys) = eqb x y && same_numbers xs ys

-- if the test says so, they are
same-numbers : (xs ys : List ℕ) → same_numbers xs ys ≡ true → xs ≡ ys
unfolding same_numbers
same-numbers [] [] e = refl
same-numbers [] (y ∷ ys) e = clash e refl
same-numbers (x ∷ xs) [] e = clash e refl
same-numbers (x ∷ xs) (y ∷ ys) e =
    ap₂ (λ a b. a ∷ b) (eqb-true x y (and-fst (eqb x y) (same_numbers xs ys) e))
    (same-numbers xs ys (and-snd (eqb x y) (same_numbers xs ys) e))

-- the marks rise, as a test
unfoldable rising_test : List Mark → Bool
rising_test [] = true
rising_test (m ∷ []) = ltb m.label_length m.place
rising_test (m ∷ n ∷ ms) = ltb m.label_length m.place && (ltb m.place n.place && rising_test (n ∷ ms))

-- if the test says so, they do
rising-test : (ms : List Mark) → rising_test ms ≡ true → Rising ms
unfolding rising_test
rising-test [] e = tt
rising-test (m ∷ []) e = ltb-true m.label_length m.place e
rising-test (m ∷ n ∷ ms) e =
    let f = and-snd (ltb m.label_length m.place) (ltb m.place n.place && rising_test (n ∷ ms)) e in (
      ltb-true m.label_length m.place (and-fst (ltb m.label_length m.place) _ e),
      ltb-true m.place n.place (and-fst (ltb m.place n.place) (rising_test (n ∷ ms)) f),
      rising-test (n ∷ ms) (and-snd (ltb m.place n.place) (rising_test (n ∷ ms)) f),
    )

-- the placing found has these numbers
abbrev found : List ℕ → Option (List Position) → Bool
found codes none = false
found codes (some ps) = same_numbers (map code ps) codes

-- no placing is found
abbrev nothing : Option (List Position) → Bool
nothing none = true
nothing (some ps) = false

-- a free choice with this sum leaves out these marks
abbrev leaves : List Mark → ℕ → List ℕ → List Position → Bool
leaves ms s out ps = not (free 0 ms ps && eqb (sum_of ms ps) s) || same_numbers (left_out_from 1 ps) out

-- the test of a claim
unfoldable test : List Mark → Says → Bool
test ms (full_is codes) = found codes (first_placing 0 ms)
test ms full_none = nothing (first_placing 0 ms)
test ms slide_fits = slides_whole 0 ms
test ms slide_none = rising_test ms && not (slides_whole 0 ms)
test ms (best_is s) = eqb (best_sum 0 ms) s
test ms (best_out s out) = eqb (best_sum 0 ms) s && list_all (leaves ms s out) (words_of every_position (length ms))
test ms (unbeaten_is k) = eqb (unbeaten_count 0 ms) k

-- each part of the test proves its part of the claim
is_found : (codes : List ℕ) (o : Option (List Position)) → found codes o ≡ true → (ps : List Position) × (o ≡ some ps) × (map code ps ≡ codes)
is_found codes none e = clash e refl
is_found codes (some ps) e = (ps, refl, same-numbers (map code ps) codes e)

is-nothing : (o : Option (List Position)) → nothing o ≡ true → o ≡ none
is-nothing none e = refl
is-nothing (some ps) e = clash e refl

-- every free choice with the sum is enumerated, so it leaves out those marks
only-those : (ms : List Mark) (s : ℕ) (out : List ℕ) → list_all (leaves ms s out) (words_of every_position (length ms)) ≡ true
    → (ps : List Position) → free 0 ms ps ≡ true → sum_of ms ps ≡ s → left_out_from 1 ps ≡ out
only-those ms s out e ps f w =
    let t = every-passes (leaves ms s out) (words_of every_position (length ms)) ps e (free-listed 0 ms ps f) in
    ⊎_elim (λ n. clash (both (free 0 ms ps) (eqb (sum_of ms ps) s) f (eq-eqb _ _ w)) (not-true _ n)) (λ r. same-numbers (left_out_from 1 ps) out r)
    (or_cases (not (free 0 ms ps && eqb (sum_of ms ps) s)) (same_numbers (left_out_from 1 ps) out) t)

-- a claim whose test is true holds
test-holds : (ms : List Mark) (says : Says) → test ms says ≡ true → HoldsOf ms says
unfolding test
test-holds ms (full_is codes) e = is_found codes (first_placing 0 ms) e
test-holds ms full_none e = is-nothing (first_placing 0 ms) e
test-holds ms slide_fits e = whole-slides 0 ms e
test-holds ms slide_none e =
    none-slides 0 ms (rising-test ms (and-fst (rising_test ms) (not (slides_whole 0 ms)) e))
    (not-true _ (and-snd (rising_test ms) (not (slides_whole 0 ms)) e))
test-holds ms (best_is s) e = eqb-true (best_sum 0 ms) s e
test-holds ms (best_out s out) e =
    let every-leaves = list_all (leaves ms s out) (words_of every_position (length ms)) in (
      eqb-true (best_sum 0 ms) s (and-fst (eqb (best_sum 0 ms) s) every-leaves e),
      only-those ms s out (and-snd (eqb (best_sum 0 ms) s) every-leaves e),
    )
test-holds ms (unbeaten_is k) e = eqb-true (unbeaten_count 0 ms) k e

-- the run over the list
passes : Claim → Bool
passes c = test (marks_of c.strip) c.says

all_pass : list_all passes starred ≡ true
unfolding passes test same_numbers rising_test first_placing first_of words_of prefixed free apart marks_of_lists slides_whole any_of none_beyond
    edges_from best_sum greatest_of sum_of left_out_from unbeaten_count distinct keep unbeaten part_layouts reach
all_pass = refl

-- Every claim of every case marked * holds.
pub every-starred-claim-holds : (c : Claim) → Member c starred → Holds c.strip c.says
unfolding passes
every-starred-claim-holds c m = test-holds (marks_of c.strip) c.says (every-passes passes starred c all_pass m)
