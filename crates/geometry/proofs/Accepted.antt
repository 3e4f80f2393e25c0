-- A strip that passes the checks on entry has three lists of one length, at most `limit` marks, every value in its range and rising
-- places: acceptance means that each check of the list was passed, and each check is a test of one of these. So its marks, one for each
-- place, rise strictly and no label ends below the coordinates: a place in range has a dot of at least 2,768, and a length is at most 240.
use mathlib.Core.Path.{◌≡◌, refl, sym, ◌∙◌, ap}
use mathlib.Core.Bool.{Bool, true}
use mathlib.Core.List.{List, [], ◌∷◌, ◌++◌}
use Prim.Native.Nat.{ℕ, zero, suc, ◌≤◌, ◌<◌}
use native.Mathlib.Omega.{arith}
use lib.Dec.{eqb}
use lib.IntN.{ℤ}
use lib.Signed.{lt_z}
use lib.ListN.{length, get_or, drop}
use borrow.Author.Tests.{le-leb, leb-true, eq-eqb, eqb-true, ltb-true}
use Rattle.geometry.specs.Dot.{dot}
use Rattle.std.specs.List.{list_all}
use Rattle.geometry.specs.Mark.{place_in_range_lem, length_in_range_lem, weight_in_range_lem, rising, most_length, most_weight}
use Rattle.geometry.specs.Strip.{Strip, strip, marks_of_lists, marks_of, most_marks}
use Rattle.geometry.specs.Refusal.{Check, accepted, first_failure}
use Rattle.geometry.specs.Entry.{good_places_lem, good_labels_lem, lists_checks, count_checks, value_checks, entry_checks, entry}
use Rattle.geometry.specs.Pass.{most_gap, gap_checks, answer_checks, work_checks, pass_verdict}
use Rattle.geometry.specs.inner.At.{mark_at}
use Rattle.geometry.specs.inner.Rising.{Rising}
use Rattle.geometry.proofs.Split.{both, and-fst, and-snd, one-to}
use Rattle.geometry.proofs.Verdicts.{both-passed, all-passed, pass-none, one-passed, pass-one}
use Rattle.geometry.proofs.Dots.{dot-lt, range-dots, range-mag}

-- what the checks on entry, once passed, say of a strip
pub record Accepted (limit : ℕ) (s : Strip) : Type 0 where
  pub same-lengths : length s.places ≡ length s.lengths
  pub same-weights : length s.places ≡ length s.weights
  pub few : length s.places ≤ limit
  pub places-good : list_all place_in_range_lem s.places ≡ true
  pub places-rise : rising s.places ≡ true
  pub lengths-good : list_all length_in_range_lem s.lengths ≡ true
  pub weights-good : list_all weight_in_range_lem s.weights ≡ true

-- what checks 6 to 10, with 12, say besides of the gap and of the lengths of lent memory
pub record PassAccepted (limit : ℕ) (s : Strip) (g shortest named lent : ℕ) : Type 0 where
  pub entered : Accepted limit s
  pub gap-narrow : g ≤ most_gap
  pub list-long : length s.places ≤ shortest
  pub work-long : named ≤ lent

-- the checks on entry are passed where each of them is, and only there
record Passed (own : List Check) (limit : ℕ) (s : Strip) : Type 0 where
  lists : first_failure (lists_checks s) ≡ accepted
  after-lists : first_failure own ≡ accepted
  taken : first_failure (count_checks most_marks s) ≡ accepted
  values : first_failure (value_checks s) ≡ accepted
  few : first_failure (count_checks limit s) ≡ accepted

module _ (own : List Check) (s : Strip) where
  -- those up to each of them
  abbrev pub to-own : List Check
  to-own = lists_checks s ++ own

  abbrev pub to-count : List Check
  to-count = to-own ++ count_checks most_marks s

  abbrev pub to_values : List Check
  to_values = to-count ++ value_checks s

  each-passed : (limit : ℕ) → first_failure (entry_checks own limit s) ≡ accepted → Passed own limit s
  each-passed limit e =
      let last = both-passed to_values (count_checks limit s) e in
      let value = both-passed to-count (value_checks s) last.0 in
      let count = both-passed to-own (count_checks most_marks s) value.0 in
      let first = both-passed (lists_checks s) own count.0 in
      record { lists = first.0; after-lists = first.1; taken = count.1; values = value.1; few = last.1 }

  pass-each : (limit : ℕ) → Passed own limit s → first_failure (entry_checks own limit s) ≡ accepted
  pass-each limit p =
      let first = all-passed (lists_checks s) own p.lists p.after-lists in
      let count = all-passed to-own (count_checks most_marks s) first p.taken in
      let value = all-passed to-count (value_checks s) count p.values in
      all-passed to_values (count_checks limit s) value p.few

-- what they say of the strip
from-checks : (own : List Check) (limit : ℕ) (s : Strip) → Passed own limit s → Accepted limit s
from-checks own limit s p =
    let lengths-equal = eqb (length s.places) (length s.lengths) in
    let weights-equal = eqb (length s.places) (length s.weights) in
    let same = one-passed _ p.lists in
    let good = one-passed _ p.values in
    let places = and-fst (good_places_lem s.places) (good_labels_lem s.lengths s.weights) good in
    let labels = and-snd (good_places_lem s.places) (good_labels_lem s.lengths s.weights) good in
    record {
      same-lengths = eqb-true _ _ (and-fst lengths-equal weights-equal same);
      same-weights = eqb-true _ _ (and-snd lengths-equal weights-equal same);
      few = leb-true _ _ (one-passed _ p.few);
      places-good = and-fst (list_all place_in_range_lem s.places) (rising s.places) places;
      places-rise = and-snd (list_all place_in_range_lem s.places) (rising s.places) places;
      lengths-good = and-fst (list_all length_in_range_lem s.lengths) (list_all weight_in_range_lem s.weights) labels;
      weights-good = and-snd (list_all length_in_range_lem s.lengths) (list_all weight_in_range_lem s.weights) labels;
    }

-- from the verdict on entry
on-entry : (limit : ℕ) (s : Strip) → entry limit s ≡ accepted → Passed [] limit s
unfolding entry
on-entry limit s e = each-passed [] s limit e

pub entry-accepted : (limit : ℕ) (s : Strip) → entry limit s ≡ accepted → Accepted limit s
entry-accepted limit s e = from-checks [] limit s (on-entry limit s e)

-- from the verdict on the checks of a pass
pub pass-accepted : (limit : ℕ) (s : Strip) (g shortest named lent : ℕ) → pass_verdict limit s g shortest named lent ≡ accepted
    → PassAccepted limit s g shortest named lent
unfolding pass_verdict
pass-accepted limit s g shortest named lent e =
    let answers = answer_checks (length s.places) shortest in
    let last = both-passed (entry_checks (gap_checks g) limit s ++ answers) (work_checks named lent) e in
    let lists = both-passed (entry_checks (gap_checks g) limit s) answers last.0 in
    let p = each-passed (gap_checks g) s limit lists.0 in
    record {
      entered = from-checks (gap_checks g) limit s p;
      gap-narrow = leb-true _ _ (one-passed _ p.after-lists);
      list-long = leb-true _ _ (one-passed _ lists.1);
      work-long = leb-true _ _ (one-passed _ last.1);
    }

-- a strip of which the checks' tests hold passes them, if the call takes no more marks than any
pub accepted-entry : (limit : ℕ) (s : Strip) → limit ≤ most_marks → Accepted limit s → entry limit s ≡ accepted
unfolding entry
accepted-entry limit s most a =
    let places = both (list_all place_in_range_lem s.places) (rising s.places) a.places-good a.places-rise in
    let labels = both (list_all length_in_range_lem s.lengths) (list_all weight_in_range_lem s.weights) a.lengths-good a.weights-good in
    pass-each [] s limit
    (record {
      lists = pass-one _ (both _ _ (eq-eqb _ _ a.same-lengths) (eq-eqb _ _ a.same-weights));
      after-lists = pass-none;
      taken = pass-one _ (le-leb (length s.places) most_marks (omega (arith, a.few)));
      values = pass-one _ (both _ _ places labels);
      few = pass-one _ (le-leb _ _ a.few);
    })

-- and those of a pass too where the gap is narrow and there is room
pub accept-pass : (limit : ℕ) (s : Strip) (g shortest named lent : ℕ) → entry limit s ≡ accepted → g ≤ most_gap
    → length s.places ≤ shortest → named ≤ lent → pass_verdict limit s g shortest named lent ≡ accepted
unfolding pass_verdict
accept-pass limit s g shortest named lent e narrow h k =
    let p = on-entry limit s e in
    let passed : Passed (gap_checks g) limit s =
    record { lists = p.lists; after-lists = pass-one _ (le-leb _ _ narrow); taken = p.taken; values = p.values; few = p.few } in
    let checks = entry_checks (gap_checks g) limit s in
    let answers = answer_checks (length s.places) shortest in
    let listed = all-passed checks answers (pass-each (gap_checks g) s limit passed) (pass-one _ (le-leb _ _ h)) in
    all-passed (checks ++ answers) (work_checks named lent) listed (pass-one _ (le-leb _ _ k))

-- and a call that takes fewer marks, but not fewer than it has, accepts it too
pub accept-shorter : (limit fewer : ℕ) (s : Strip) → entry limit s ≡ accepted → length s.places ≤ fewer → entry fewer s ≡ accepted
unfolding entry
accept-shorter limit fewer s e h =
    all-passed (to_values [] s) (count_checks fewer s) (both-passed (to_values [] s) (count_checks limit s) e).0 (pass-one _ (le-leb _ _ h))

-- every element of a good list is good
pub every-at : {A : Type 0} (p : A → Bool) (xs : List A) (d : A) (i : ℕ) → list_all p xs ≡ true → i < length xs → p (get_or xs i d) ≡ true
every-at p [] d i e h = absurd (omega arith)
every-at p (x ∷ xs) d zero e h = and-fst (p x) (list_all p xs) e
every-at p (x ∷ xs) d (suc i) e h = every-at p xs d i (and-snd (p x) (list_all p xs) e) (omega arith)

-- so every weight is one of 1 to 1,000
pub weight-at : (ws : List ℕ) (i : ℕ) → list_all weight_in_range_lem ws ≡ true → i < length ws
    → (1 ≤ get_or ws i 0) × (get_or ws i 0 ≤ most_weight)
weight-at ws i e h = one-to most_weight (get_or ws i 0) (every-at weight_in_range_lem ws 0 i e h)

-- three lists of one length make as many marks
length-listed : (zs : List ℤ) (ls ws : List ℕ) → length zs ≡ length ls → length zs ≡ length ws → length (marks_of_lists zs ls ws) ≡ length zs
unfolding marks_of_lists
length-listed [] ls ws e f = refl
length-listed (z ∷ zs) [] ws e f = absurd (omega arith)
length-listed (z ∷ zs) (l ∷ ls) [] e f = absurd (omega arith)
length-listed (z ∷ zs) (l ∷ ls) (w ∷ ws) e f = ap suc (length-listed zs ls ws (omega arith) (omega arith))

-- one mark for each place
pub length-marks : (s : Strip) → length s.places ≡ length s.lengths → length s.places ≡ length s.weights
    → length (marks_of s) ≡ length s.places
length-marks s e f = length-listed s.places s.lengths s.weights e f

-- the marks of three lists from an index on begin with the mark there
from-lists : (zs : List ℤ) (ls ws : List ℕ) (i : ℕ) → length zs ≡ length ls → length zs ≡ length ws → i < length zs
    → drop i (marks_of_lists zs ls ws) ≡ mark_at (strip zs ls ws) i ∷ drop (suc i) (marks_of_lists zs ls ws)
unfolding marks_of_lists
from-lists [] ls ws i e f h = absurd (omega arith)
from-lists (z ∷ zs) [] ws i e f h = absurd (omega arith)
from-lists (z ∷ zs) (l ∷ ls) [] i e f h = absurd (omega arith)
from-lists (z ∷ zs) (l ∷ ls) (w ∷ ws) zero e f h = refl
from-lists (z ∷ zs) (l ∷ ls) (w ∷ ws) (suc i) e f h = from-lists zs ls ws i (omega arith) (omega arith) (omega arith)

-- what is left of the marks begins with the mark at the index
pub marks-from : (s : Strip) (i : ℕ) → length s.places ≡ length s.lengths → length s.places ≡ length s.weights
    → i < length s.places → drop i (marks_of s) ≡ mark_at s i ∷ drop (suc i) (marks_of s)
marks-from s i e f h = from-lists s.places s.lengths s.weights i e f h

-- a good place leaves more room than any good length
one-mark : (z : ℤ) (l : ℕ) → place_in_range_lem z ≡ true → length_in_range_lem l ≡ true → l < dot z
one-mark z l p q = omega (arith, range-dots z p, one-to most_length l q)

-- the first of a good list, and the rest of it
module _ {A : Type 0} (p : A → Bool) (x : A) (xs : List A) where
  pub first_good : list_all p (x ∷ xs) ≡ true → p x ≡ true
  first_good e = and-fst (p x) (list_all p xs) e

  pub rest-good : list_all p (x ∷ xs) ≡ true → list_all p xs ≡ true
  rest-good e = and-snd (p x) (list_all p xs) e

-- places in range that rise, with lengths in range, make marks that rise
rise : (zs : List ℤ) (ls ws : List ℕ) → list_all place_in_range_lem zs ≡ true → rising zs ≡ true → list_all length_in_range_lem ls ≡ true
    → Rising (marks_of_lists zs ls ws)
unfolding marks_of_lists rising
rise [] ls ws p r q = tt
rise (z ∷ zs) [] ws p r q = tt
rise (z ∷ zs) (l ∷ ls) [] p r q = tt
rise (z ∷ []) (l ∷ ls) (w ∷ ws) p r q = one-mark z l (first_good place_in_range_lem z [] p) (first_good length_in_range_lem l ls q)
rise (z ∷ y ∷ zs) (l ∷ []) (w ∷ ws) p r q = one-mark z l (first_good place_in_range_lem z (y ∷ zs) p) (first_good length_in_range_lem l [] q)
rise (z ∷ y ∷ zs) (l ∷ k ∷ ls) (w ∷ []) p r q =
    one-mark z l (first_good place_in_range_lem z (y ∷ zs) p) (first_good length_in_range_lem l (k ∷ ls) q)
rise (z ∷ y ∷ zs) (l ∷ k ∷ ls) (w ∷ v ∷ ws) p r q =
    let here = first_good place_in_range_lem z (y ∷ zs) p in
    let behind = rest-good place_in_range_lem z (y ∷ zs) p in
    let next = first_good place_in_range_lem y zs behind in (
      one-mark z l here (first_good length_in_range_lem l (k ∷ ls) q),
      ltb-true _ _ (sym (dot-lt z y (range-mag z here) (range-mag y next)) ∙ and-fst (lt_z z y) (rising (y ∷ zs)) r),
      rise (y ∷ zs) (k ∷ ls) (v ∷ ws) behind (and-snd (lt_z z y) (rising (y ∷ zs)) r) (rest-good length_in_range_lem l (k ∷ ls) q),
    )

-- so do the marks of a strip that is accepted
pub accepted-rising : (limit : ℕ) (s : Strip) → Accepted limit s → Rising (marks_of s)
accepted-rising limit s a = rise s.places s.lengths s.weights a.places-good a.places-rise a.lengths-good
