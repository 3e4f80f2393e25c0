-- The pass meets its contract, case by case: a refusal on entry, no placing, and the first placing.
-- Past the checks the marks rise, so the first placing is the walk's if the strip can be placed beside two sides without labels, and
-- there is none if it cannot; which of the two holds is what the first mark's count says. The work area is cleared in both cases.
use mathlib.Core.Path.{◌≡◌, refl, sym, ◌∙◌, ap, subst}
use mathlib.Core.Bool.{Bool, cond, not}
use mathlib.Core.List.{List, [], ◌∷◌}
use mathlib.Core.Logic.{⊎_elim}
use mathlib.Core.Option.{Option, none, some}
use Prim.Native.Nat.{ℕ, ◌≤◌, ◌<◌}
use native.Mathlib.Omega.{arith}
use lib.Dec.{eqb}
use lib.IntN.{ℤ, pos}
use lib.ListN.{length, drop, drop_of_length-le}
use borrow.Author.Tests.{eq-eqb, ne_eqb}
use Rattle.geometry.specs.Dot.{empty_reach}
use Rattle.geometry.specs.Strip.{Strip, marks_of, most_marks}
use Rattle.geometry.specs.Position.{Position}
use Rattle.geometry.specs.Placing.{first_placing}
use Rattle.geometry.specs.Refusal.{accepted, number_of, refusal_number}
use Rattle.geometry.specs.declared.refusal.Refusal.TheVariants.{NoPlacing}
use Rattle.geometry.specs.Pass.{cleared}
use Rattle.geometry.specs.inner.At.{mark_at}
use Rattle.geometry.specs.inner.Each.{Each}
use Rattle.geometry.proofs.Split.{lt-or-ge}
use Rattle.geometry.proofs.Lent.{cleared-again}
use Rattle.geometry.proofs.Accepted.{Accepted, PassAccepted, pass-accepted, accepted-rising, length-marks, marks-from}
use Rattle.full.specs.Full.{work_named, FullLent, full_checks, FullContract, full_verdict, positions_after}
use Rattle.full.specs.inner.Rest.{can, walk}
use Rattle.full.specs.inner.SixteenBits.{EndsHeld, Narrow}
use Rattle.full.specs.inner.Table.{Checked, Filled, WalkReady, Walked}
use Rattle.full.proofs.EndsHeld.{checked-held}
use Rattle.full.proofs.First.{first-placing-is}
use Rattle.full.proofs.Fits.{fits-by-count}

module _ (s : Strip) (g : ℕ) (entry : FullLent) where
  module _ (is-accepted : full_checks s g entry ≡ accepted) where
    -- past the checks the lent lists are long enough
    accepted-parts : PassAccepted most_marks s g (length entry.positions) work_named (length entry.work)
    accepted-parts = pass-accepted most_marks s g (length entry.positions) work_named (length entry.work) is-accepted

    good : Accepted most_marks s
    good = accepted-parts.entered

    narrow : Narrow g
    narrow = let gap = accepted-parts.gap-narrow in omega arith

    pub checked : Checked s.places s.lengths g
    checked =
        record {
          same-lengths = good.same-lengths;
          few = good.few;
          places-good = good.places-good;
          lengths-good = good.lengths-good;
          gap-narrow = narrow;
        }

    pub roomy : work_named ≤ length entry.work
    roomy = accepted-parts.work-long

    module _ (table : List ℤ) (count : ℕ) (filled : Filled s.places s.lengths g entry.work table count) where
      -- a table whose first mark keeps something is what the walk asks for
      pub ready-to-walk : length table ≡ length entry.work → (count ≡ 0 → ⊥) → WalkReady s.places s.lengths g table entry.positions
      ready-to-walk long kept =
          record {
            rows = filled.rows kept;
            held = filled.held kept;
            roomy = omega (arith, roomy);
            places-for-all = accepted-parts.list-long;
          }

      -- the count says whether the strip can be placed
      fits : can g empty_reach empty_reach (marks_of s) ≡ not (eqb count 0)
      unfolding can
      fits =
          ⊎_elim
          (λ (h : 0 < length s.places).
          let first : marks_of s ≡ mark_at s 0 ∷ drop 1 (marks_of s) = marks-from s 0 good.same-lengths good.same-weights h in
          let held = subst (Each (EndsHeld g)) first (checked-held checked s.weights) in
          ap (can g empty_reach empty_reach) first ∙ fits-by-count g (mark_at s 0) (drop 1 (marks_of s)) held
          ∙ ap (λ (n : ℕ). not (eqb n 0)) (sym (filled.first_count h s.weights good.same-weights)))
          (λ (h : length s.places ≤ 0).
          let no-marks : marks_of s ≡ [] =
          drop_of_length-le (marks_of s) {i = 0} (omega (arith, length-marks s good.same-lengths good.same-weights)) in
          rw (no-marks, filled.empty-count (omega arith)) refl)
          (lt-or-ge 0 (length s.places))

      -- the walk's placing
      abbrev placed : List Position
      placed = walk g empty_reach empty_reach (marks_of s)

      -- it is the first placing if the count is not 0, else there is none
      first-by-count : first_placing g (marks_of s) ≡ cond (not (eqb count 0)) (some placed) none
      first-by-count =
          first-placing-is g (marks_of s) (accepted-rising most_marks s good) ∙ ap (λ (t : Bool). cond t (some placed) none) fits

      -- what is settled past the checks, whichever placing there is
      settled : (o : Option (List Position)) (exit : FullLent) (n : ℕ) → first_placing g (marks_of s) ≡ o
          → n ≡ number_of (full_verdict accepted o) → exit.positions ≡ positions_after accepted o entry.positions
          → exit.work ≡ cleared work_named (pos 0) table → FullContract s g entry exit n
      settled o exit n first number positions work =
          record {
            number_is = rw (is-accepted, first) number;
            positions-are = rw (is-accepted, first) positions;
            work-is = rw is-accepted (cleared-again work_named (pos 0) exit.work table entry.work work filled.rest-kept);
          }

      -- the two cases: no placing, and the first placing
      pub no-placing-call : (exit : FullLent) (n : ℕ) → count ≡ 0 → n ≡ refusal_number NoPlacing → exit.positions ≡ entry.positions
          → exit.work ≡ cleared work_named (pos 0) table → FullContract s g entry exit n
      no-placing-call exit n none_kept number positions work =
          settled none exit n (first-by-count ∙ rw (eq-eqb count 0 none_kept) refl) number positions work

      pub placing-call : (exit : FullLent) (n : ℕ) → (count ≡ 0 → ⊥) → n ≡ 0
          → Walked s.places s.lengths g entry.positions exit.positions
          → exit.work ≡ cleared work_named (pos 0) table → FullContract s g entry exit n
      placing-call exit n some-kept number walked work =
          settled (some placed) exit n (first-by-count ∙ rw (ne_eqb count 0 some-kept) refl) number (walked s.weights good.same-weights) work
