-- What the full pass says of the strip at a width. Where no length is over 240 the strip at that width passes the checks that the strip with
-- cells in place of lengths has passed: a cell has at least a dot, so no length is 0, and nothing else has changed. So the pass gives 0
-- exactly if it has a placing, and that is what it means to fit.
use mathlib.Core.Path.{◌≡◌, refl, sym, ◌∙◌, subst}
use mathlib.Core.Bool.{Bool, true, false, cond, false≢true}
use mathlib.Core.List.{List, [], ◌∷◌}
use mathlib.Core.Logic.{◌↔◌}
use mathlib.Core.Option.{Option, none, some}
use Prim.Native.Nat.{ℕ, ◌*◌, ◌≤◌}
use native.Mathlib.Nat.{mul-pos}
use native.Mathlib.Omega.{arith}
use lib.Dec.{leb, eqb}
use lib.ListN.{length, length-map}
use borrow.Author.Tests.{le-leb, eq-eqb, eqb-true}
use Rattle.std.specs.List.{list_all}
use Rattle.geometry.specs.Mark.{most_length, length_in_range_lem}
use Rattle.geometry.specs.Strip.{Strip, strip, marks_of, most_marks}
use Rattle.geometry.specs.Position.{Position}
use Rattle.geometry.specs.Placing.{first_placing}
use Rattle.geometry.specs.Refusal.{Verdict, accepted, refused, number_of}
use Rattle.geometry.proofs.Split.{both, and-fst, and-snd, one-to}
use Rattle.geometry.proofs.Accepted.{PassAccepted, pass-accepted, accepted-entry, accept-pass, first_good, rest-good}
use Rattle.geometry.proofs.Verdicts.{refusal-positive}
use Rattle.full.specs.Full.{work_named, FullLent, full_checks, full_verdict, FullContract}
use Rattle.largest.specs.Widths.{lengths_at, strip_at, none_over_lem, placing_at, is_there, fits_at}
use Rattle.largest.specs.inner.Cells.{ScaleReady}
use Rattle.largest.specs.inner.Trial.{Tried}

-- whether a placing is there
pub not_there : {A : Type 0} (o : Option A) → is_there o ≡ false → o ≡ none
not_there none e = refl
not_there (some x) e = absurd (false≢true (sym e))

pub is-there : {A : Type 0} (o : Option A) → is_there o ≡ true → (x : A) × (o ≡ some x)
is-there none e = absurd (false≢true e)
is-there (some x) e = (x, refl)

-- it is there only where no length is over 240
pub there-within : {A : Type 0} (within : Bool) (o : Option A) → is_there (cond within o none) ≡ true → within ≡ true
there-within true o e = refl
there-within false o e = e

module _ (width : ℕ) where
  -- cells in range make lengths in range where none is over 240
  lengths-good : (cells : List ℕ) → 1 ≤ width → list_all length_in_range_lem cells ≡ true → none_over_lem width cells ≡ true
      → list_all length_in_range_lem (lengths_at width cells) ≡ true
  lengths-good [] wide good within = refl
  lengths-good (c ∷ cells) wide good within =
      let here = leb (c * width) most_length in
      let positive = (one-to most_length c (first_good length_in_range_lem c cells good)).0 in
      both (length_in_range_lem (c * width)) _
      (both (leb 1 (c * width)) here (le-leb 1 (c * width) (mul-pos positive wide)) (and-fst here (none_over_lem width cells) within))
      (lengths-good cells wide (rest-good length_in_range_lem c cells good) (and-snd here (none_over_lem width cells) within))

  -- and lengths in range are not over 240
  good-within : (cells : List ℕ) → list_all length_in_range_lem (lengths_at width cells) ≡ true → none_over_lem width cells ≡ true
  good-within [] good = refl
  good-within (c ∷ cells) good =
      let rest = lengths_at width cells in
      both (leb (c * width) most_length) _
      (and-snd (leb 1 (c * width)) _ (first_good length_in_range_lem (c * width) rest good))
      (good-within cells (rest-good length_in_range_lem (c * width) rest good))

-- full gives 0 only where its checks are passed
checks-passed : (v : Verdict) (o : Option (List Position)) → number_of (full_verdict v o) ≡ 0 → v ≡ accepted
checks-passed accepted o e = refl
checks-passed (refused r) o e = absurd (refusal-positive r e)

module _ (s : Strip) (g width : ℕ) (entry : FullLent) (checked : full_checks s g entry ≡ accepted) (wide : 1 ≤ width) where
  parts : PassAccepted most_marks s g (length entry.positions) work_named (length entry.work)
  parts = pass-accepted most_marks s g _ work_named _ checked

  -- a list for every strip has room for its lengths
  pub ready-to-scale : none_over_lem width s.lengths ≡ true → {w : ℕ} {list : List ℕ} → w ≡ width → length list ≡ most_marks
      → ScaleReady s.lengths w list
  ready-to-scale within is long =
      let good = parts.entered in
      record { none_over = rw is within; roomy = omega (arith, good.few, good.same-lengths) }

  -- the strip at that width passes the checks too
  checked-at : none_over_lem width s.lengths ≡ true → full_checks (strip_at width s) g entry ≡ accepted
  checked-at within =
      let good = parts.entered in
      accept-pass most_marks (strip_at width s) g _ work_named _
      (accepted-entry most_marks (strip_at width s) (omega arith)
      (record {
        same-lengths = good.same-lengths ∙ sym (length-map s.lengths (λ c. c * width));
        same-weights = good.same-weights;
        few = good.few;
        places-good = good.places-good;
        places-rise = good.places-rise;
        lengths-good = lengths-good width s.lengths wide good.lengths-good within;
        weights-good = good.weights-good;
      }))
      parts.gap-narrow
      parts.list-long
      parts.work-long

  -- its placing is that of the width
  placing-is : none_over_lem width s.lengths ≡ true → placing_at g s width ≡ first_placing g (marks_of (strip_at width s))
  unfolding placing_at
  placing-is within = rw within refl

  zero-if-there : (o : Option (List Position)) → eqb (number_of (full_verdict accepted o)) 0 ≡ is_there o
  zero-if-there none = refl
  zero-if-there (some ps) = refl

  -- a call of the full pass with these lengths tries the width
  pub tried : none_over_lem width s.lengths ≡ true → (lengths : List ℕ) → lengths ≡ lengths_at width s.lengths → (exit : FullLent) (n : ℕ)
      → FullContract (strip s.places lengths s.weights) g entry exit n → Tried s g width entry exit (eqb n 0)
  tried within lengths are exit n met =
      let full = subst (λ (ls : List ℕ). FullContract (strip s.places ls s.weights) g entry exit n) are met in
      let accepted-at = checked-at within in
      let placing = placing-is within in
      record {
        fits-is = rw (placing, full.number_is, accepted-at) (zero-if-there (first_placing g (marks_of (strip_at width s))));
        positions-are = rw placing (full.positions-are ∙ rw accepted-at refl);
        work-is = rw within (full.work-is ∙ rw accepted-at refl);
      }

  -- where a length is over 240 none is made, and nothing has changed
  pub passed_over : none_over_lem width s.lengths ≡ false → Tried s g width entry entry false
  unfolding placing_at
  passed_over beyond = record { fits-is = rw beyond refl; positions-are = rw beyond refl; work-is = rw beyond refl }

  -- So a width fits exactly if the full pass gives 0 for the strip at it, whatever lists that pass its checks it is lent. At a length over
  -- 240 it refuses the strip, and that counts as not fitting.
  pub fits-as-full-says : (exit : FullLent) (n : ℕ) → FullContract (strip_at width s) g entry exit n → (n ≡ 0) ↔ (fits_at g s width ≡ true)
  unfolding placing_at
  fits-as-full-says exit n full =
      let says : none_over_lem width s.lengths ≡ true → eqb n 0 ≡ fits_at g s width =
      λ within. (tried within (lengths_at width s.lengths) refl exit n full).fits-is in (
        λ zero.
            let passed = checks-passed (full_checks (strip_at width s) g entry) _ (sym full.number_is ∙ zero) in
            let good = (pass-accepted most_marks (strip_at width s) g _ work_named _ passed).entered.lengths-good in
            sym (says (good-within width s.lengths good)) ∙ eq-eqb n 0 zero,
        λ fits. eqb-true n 0 (says (there-within (none_over_lem width s.lengths) _ fits) ∙ fits),
      )
