-- The number of a verdict tells acceptance from refusal, since no refusal has the number 0. A list of checks followed by more checks has
-- the first failure of the first list, if there is one, else that of the second. The checks of a pass before its work never give 11: each
-- has its own number, and 11 is none of them.
use mathlib.Core.Path.{◌≡◌, refl, sym, ◌∙◌, ap}
use mathlib.Core.Bool.{Bool, true, false, not, false≢true}
use mathlib.Core.List.{List, [], ◌∷◌, ◌++◌}
use Prim.Native.Nat.{ℕ, ◌≤◌}
use native.Mathlib.Omega.{arith}
use lib.Dec.{eqb}
use borrow.Author.Tests.{eqb-false, not-true, ne_eqb}
use Rattle.std.specs.List.{list_all}
use Rattle.std.specs.Result.{result_and}
use Rattle.std.specs.Prelude.{Result, Ok, Err, IsErrAnd, is_ok}
use Rattle.geometry.specs.Strip.{Strip, most_marks}
use Rattle.geometry.specs.Entry.{lists_checks, count_checks, value_checks, entry_checks}
use lib.ListN.{length}
use Rattle.geometry.specs.Pass.{gap_checks, answer_checks, work_checks, pass_verdict}
use Rattle.geometry.specs.Refusal.{Refusal, BytesEnd, StrayBit, AbsentValue, OutOfRange, BytesLeftOver, ListsUnequal, TooManyMarks}
use Rattle.geometry.specs.Refusal.{BadMark, ListTooShort, WorkTooShort, NoPlacing, GapTooWide, StrayByte, NotFinite, NotOnOneLine, refusal_number}
use Rattle.geometry.specs.Refusal.{Verdict, accepted, refused, number_of, verdict_of, answer_number, Check, at_most, after_check, first_failure}
use Rattle.geometry.proofs.Split.{by_bool, is-leb, and-fst, and-snd}

-- no refusal has the number 0
pub refusal-positive : (r : Refusal) → refusal_number r ≡ 0 → ⊥
refusal-positive BytesEnd e = omega arith
refusal-positive StrayBit e = omega arith
refusal-positive AbsentValue e = omega arith
refusal-positive OutOfRange e = omega arith
refusal-positive BytesLeftOver e = omega arith
refusal-positive ListsUnequal e = omega arith
refusal-positive TooManyMarks e = omega arith
refusal-positive BadMark e = omega arith
refusal-positive ListTooShort e = omega arith
refusal-positive WorkTooShort e = omega arith
refusal-positive NoPlacing e = omega arith
refusal-positive GapTooWide e = omega arith
refusal-positive StrayByte e = omega arith
refusal-positive NotFinite e = omega arith
refusal-positive NotOnOneLine e = omega arith

-- so number 0 is acceptance
pub zero-accepted : (v : Verdict) → number_of v ≡ 0 → v ≡ accepted
zero-accepted accepted e = refl
zero-accepted (refused r) e = absurd (refusal-positive r e)

-- no refusal is acceptance
refused-other : (r : Refusal) → refused r ≡ accepted → ⊥
refused-other r e = refusal-positive r (ap number_of e)

-- one verdict and then another: a refusal stands, whatever would follow
abbrev pub then : Verdict → Verdict → Verdict
then accepted w = w
then (refused r) w = refused r

then-in-turn : (u v w : Verdict) → then (then u v) w ≡ then u (then v w)
then-in-turn accepted v w = refl
then-in-turn (refused r) v w = refl

-- a check before two verdicts is a check before the first of them
after_then : (t : Bool) (r : Refusal) (v w : Verdict) → after_check t r (then v w) ≡ then (after_check t r v) w
after_then true r v w = refl
after_then false r v w = refl

-- the first failure of two lists of checks
pub failure-append : (cs ds : List Check) → first_failure (cs ++ ds) ≡ then (first_failure cs) (first_failure ds)
unfolding first_failure
failure-append [] ds = refl
failure-append (c ∷ cs) ds =
    ap (after_check c.passes c.otherwise) (failure-append cs ds) ∙ after_then c.passes c.otherwise (first_failure cs) (first_failure ds)

then-accepted : (v w : Verdict) → then v w ≡ accepted → (v ≡ accepted) × (w ≡ accepted)
then-accepted accepted w e = (refl, e)
then-accepted (refused r) w e = absurd (refused-other r e)

module _ (cs ds : List Check) where
  verdict-passes : first_failure cs ≡ accepted → first_failure (cs ++ ds) ≡ first_failure ds
  verdict-passes passed = rw (failure-append cs ds, passed) refl

  -- both are passed where all checks are, and all where both are
  pub both-passed : first_failure (cs ++ ds) ≡ accepted → (first_failure cs ≡ accepted) × (first_failure ds ≡ accepted)
  both-passed e = then-accepted (first_failure cs) (first_failure ds) (sym (failure-append cs ds) ∙ e)

  pub all-passed : first_failure cs ≡ accepted → first_failure ds ≡ accepted → first_failure (cs ++ ds) ≡ accepted
  all-passed first second = verdict-passes first ∙ second

-- an answer is accepted exactly if its number is 0
pub ok-is-zero : {A : Type 0} (answer : Result A Refusal) → is_ok answer ≡ eqb (answer_number answer) 0
ok-is-zero (Ok values) = refl
ok-is-zero (Err r) = sym (ne_eqb (refusal_number r) 0 (refusal-positive r))

-- what `?` hands on is the refusal that came
pub handed-on : {A : Type 0} (answer : Result A Refusal) (r : Refusal) → IsErrAnd answer (λ e. e ≡ r) → verdict_of answer ≡ refused r
handed-on (Ok values) r e = absurd e
handed-on (Err q) r e = ap refused e

-- of two answers the first that refuses
pub and-verdict : {A B : Type 0} (first : Result A Refusal) (second : Result B Refusal)
    → verdict_of (result_and first second) ≡ then (verdict_of first) (verdict_of second)
and-verdict (Ok values) second = refl
and-verdict (Err r) second = refl

-- the verdict of one check, from what the call that made it gave
pub one-made : (r : Refusal) {t u : Bool} {v : Verdict} → v ≡ after_check t r accepted → t ≡ u
    → first_failure (record { passes = u; otherwise = r } ∷ []) ≡ v
unfolding first_failure
one-made r is e = rw (sym e) (sym is)

-- that a count is at most so many, from a test that holds exactly where it is
pub count-made : (n m : ℕ) (r : Refusal) {t : Bool} {v : Verdict} → v ≡ after_check t r accepted → (t ≡ true → n ≤ m) × (n ≤ m → t ≡ true)
    → first_failure (at_most n m r ∷ []) ≡ v
count-made n m r is exactly = one-made r is (is-leb n m exactly)

-- the checks on entry, one after the other
pub entry-in-turn : (own : List Check) (limit : ℕ) (s : Strip) {six between early seven eight last : Verdict}
    → first_failure (lists_checks s) ≡ six → first_failure own ≡ between → then six between ≡ early
    → first_failure (count_checks most_marks s) ≡ seven → first_failure (value_checks s) ≡ eight → first_failure (count_checks limit s) ≡ last
    → first_failure (entry_checks own limit s) ≡ then (then early seven) (then eight last)
entry-in-turn own limit s {eight = eight} {last = last} lists is_own first_two count values few =
    let first = lists_checks s ++ own in
    let second = first ++ count_checks most_marks s in
    let third = second ++ value_checks s in
    rw (
      failure-append third (count_checks limit s),
      failure-append second (value_checks s),
      failure-append first (count_checks most_marks s),
      failure-append (lists_checks s) own,
      lists,
      is_own,
      first_two,
      count,
      values,
      few,
    )
    (then-in-turn _ eight last)

-- and those of a pass
pub pass-in-turn : (limit : ℕ) (s : Strip) (g shortest named lent : ℕ) {entered nine ten : Verdict}
    → first_failure (entry_checks (gap_checks g) limit s) ≡ entered → first_failure (answer_checks (length s.places) shortest) ≡ nine
    → first_failure (work_checks named lent) ≡ ten → pass_verdict limit s g shortest named lent ≡ then (then entered nine) ten
unfolding pass_verdict
pass-in-turn limit s g shortest named lent entry answers work =
    let first = entry_checks (gap_checks g) limit s in
    let second = first ++ answer_checks (length s.places) shortest in
    rw (failure-append second (work_checks named lent), failure-append first (answer_checks (length s.places) shortest), entry, answers, work) refl

-- so lists of checks with equal verdicts are followed by equal ones, and a refusal by none
pub same_then : (cs ds es : List Check) → first_failure cs ≡ first_failure ds → first_failure (cs ++ es) ≡ first_failure (ds ++ es)
same_then cs ds es same = failure-append cs es ∙ ap (λ (v : Verdict). then v (first_failure es)) same ∙ sym (failure-append ds es)

pub refusal-stands : (cs ds : List Check) (r : Refusal) → first_failure cs ≡ refused r → first_failure (cs ++ ds) ≡ refused r
refusal-stands cs ds r e = rw (failure-append cs ds, e) refl

-- no check
pub pass-none : first_failure [] ≡ accepted
unfolding first_failure
pass-none = refl

-- one check
pub one-passed : (c : Check) → first_failure (c ∷ []) ≡ accepted → c.passes ≡ true
unfolding first_failure
one-passed c =
    by_bool c.passes (λ t. after_check t c.otherwise accepted ≡ accepted → t ≡ true) (λ _ _. refl)
    (λ _ e. absurd (refused-other c.otherwise e))

pub pass-one : (c : Check) → c.passes ≡ true → first_failure (c ∷ []) ≡ accepted
unfolding first_failure
pass-one c e = rw e refl

pub fail-one : (c : Check) → c.passes ≡ false → first_failure (c ∷ []) ≡ refused c.otherwise
unfolding first_failure
fail-one c e = rw e refl

-- the first of a list of checks
pub first-passed : (c : Check) (cs : List Check) → first_failure (c ∷ cs) ≡ accepted → (c.passes ≡ true) × (first_failure cs ≡ accepted)
first-passed c cs e = let parts = both-passed (c ∷ []) cs e in (one-passed c parts.0, parts.1)

-- a test that the check behind it needs too, with that one's refusal, refuses nothing more
after-part : (t u : Bool) (r : Refusal) (v : Verdict) → (u ≡ true → t ≡ true) → after_check t r (after_check u r v) ≡ after_check u r v
after-part true u r v needs = refl
after-part false true r v needs = absurd (false≢true (needs refl))
after-part false false r v needs = refl

pub part-first : (t : Bool) (c : Check) (cs : List Check) → (c.passes ≡ true → t ≡ true)
    → first_failure (record { passes = t; otherwise = c.otherwise } ∷ c ∷ cs) ≡ first_failure (c ∷ cs)
unfolding first_failure
part-first t c cs needs = after-part t c.passes c.otherwise (first_failure cs) needs

-- whether a check's refusal is another than 11
abbrev not11 : Check → Bool
not11 c = not (eqb (refusal_number c.otherwise) (refusal_number NoPlacing))

-- checks whose refusals are all others do not give it
after-not-11 : (c : Check) (v : Verdict) → not11 c ≡ true → (number_of v ≡ refusal_number NoPlacing → ⊥)
    → number_of (after_check c.passes c.otherwise v) ≡ refusal_number NoPlacing → ⊥
after-not-11 c v other others =
    by_bool c.passes (λ t. number_of (after_check t c.otherwise v) ≡ refusal_number NoPlacing → ⊥) (λ _. others)
    (λ _. eqb-false _ _ (not-true (eqb (refusal_number c.otherwise) (refusal_number NoPlacing)) other))

none-is-11 : (cs : List Check) → list_all not11 cs ≡ true → number_of (first_failure cs) ≡ refusal_number NoPlacing → ⊥
unfolding first_failure
none-is-11 [] e = omega arith
none-is-11 (c ∷ cs) e = after-not-11 c (first_failure cs) (and-fst (not11 c) (list_all not11 cs) e) (none-is-11 cs (and-snd (not11 c) (list_all not11 cs) e))

-- so no check of a pass before its work gives 11
pub pass-not-11 : (limit : ℕ) (s : Strip) (g shortest named lent : ℕ)
    → number_of (pass_verdict limit s g shortest named lent) ≡ refusal_number NoPlacing → ⊥
unfolding pass_verdict
pass-not-11 limit s g shortest named lent = none-is-11 _ refl
