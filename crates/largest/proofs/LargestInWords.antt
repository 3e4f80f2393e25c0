-- What document 02 says of number and width holds of every answer that meets the contract where the checks are passed. The first width that
-- fits is the greatest; since every smaller width fits too, none is found exactly if 1 dot does not fit; and a strip without marks fits
-- at every width.
use mathlib.Core.Path.{◌≡◌, refl, sym, ◌∙◌, ap}
use mathlib.Core.Bool.{true}
use mathlib.Core.List.{[]}
use mathlib.Core.Option.{Option, none, some}
use Prim.Native.Nat.{ℕ}
use native.Mathlib.Omega.{arith}
use lib.ListN.{length, drop_of_length-le}
use Rattle.geometry.specs.Lists.{first_of, words_of}
use Rattle.geometry.specs.Strip.{Strip, marks_of_lists, most_marks}
use Rattle.geometry.specs.Overlap.{free}
use Rattle.geometry.specs.Placing.{first_placing}
use Rattle.geometry.specs.Refusal.{accepted, refusal_number}
use Rattle.geometry.specs.declared.refusal.Refusal.TheVariants.{NoPlacing}
use Rattle.geometry.proofs.Split.{clash}
use Rattle.geometry.proofs.Words.{never-none}
use Rattle.geometry.proofs.Accepted.{pass-accepted}
use Rattle.full.specs.Full.{work_named, FullLent, full_checks}
use Rattle.largest.specs.Widths.{placing_at, fits_at, widest, largest_width}
use Rattle.largest.specs.Largest.{Largest, LargestContract, IsLargest, LargestInWords}
use Rattle.largest.proofs.FullAtWidth.{is-there}
use Rattle.largest.proofs.SmallerWidths.{smaller-fits}
use Rattle.largest.proofs.GreatestFirst.{first-greatest, greatest-first, none-fits-at-all}

-- no marks: no length is over 240, and the placing has no labels
empty-fits : (g : ℕ) (s : Strip) (width : ℕ) → s.places ≡ [] → s.lengths ≡ [] → fits_at g s width ≡ true
unfolding placing_at first_placing first_of words_of free marks_of_lists
empty-fits g s width no-places no_lengths = rw (no-places, no_lengths) refl

some_same : {v w : ℕ} → ◌≡◌ {A = Option ℕ} (some v) (some w) → v ≡ w
some_same e = cc

module _ (g : ℕ) (s : Strip) where
  only-largest : (width : ℕ) → IsLargest g s width → largest_width g s ≡ some width
  only-largest = greatest-first (fits_at g s) widest

  found-largest : (width : ℕ) → largest_width g s ≡ some width → IsLargest g s width
  found-largest = first-greatest (fits_at g s) widest

  module _ (entry exit : FullLent) (r : Largest) (checked : full_checks s g entry ≡ accepted) (met : LargestContract s g entry exit r) where
    empty-largest : s.places ≡ [] → IsLargest g s widest
    empty-largest no-places =
        let same = (pass-accepted most_marks s g _ work_named _ checked).entered.same-lengths in
        record {
          least = omega arith;
          most = omega arith;
          does = empty-fits g s widest no-places (drop_of_length-le s.lengths {i = 0} (omega (arith, same, ap length no-places)));
          greater-not = λ w more within. absurd (omega arith);
        }

    -- a width is found
    module _ (width : ℕ) (found : largest_width g s ≡ some width) where
      largest : IsLargest g s width
      largest = found-largest width found

      number-is-0 : r.number ≡ 0
      number-is-0 = met.number_is ∙ rw (checked, found, (is-there (placing_at g s width) largest.does).1) refl

      width_is : r.width ≡ width
      width_is = met.width_is ∙ rw (checked, found) refl

      one_found : LargestInWords s g r
      one_found =
          record {
            found = λ _. rw width_is largest;
            only = λ w is. (number-is-0, width_is ∙ some_same (sym found ∙ only-largest w is));
            none-exactly = (
              λ eleven. absurd (omega (arith, number-is-0)),
              λ not. clash (smaller-fits 1 width largest.least g s largest.does) not,
            );
            smaller-fit = λ _ w less. smaller-fits w width (omega (arith, width_is)) g s largest.does;
            no-marks = λ no-places. (number-is-0, width_is ∙ some_same (sym found ∙ only-largest widest (empty-largest no-places)));
          }

    -- none is
    module _ (none_found : largest_width g s ≡ none) where
      number-is-11 : r.number ≡ refusal_number NoPlacing
      number-is-11 = met.number_is ∙ rw (checked, none_found) refl

      none-is-largest : {X : Type 0} → (width : ℕ) → IsLargest g s width → X
      none-is-largest width is = never-none width (sym (only-largest width is) ∙ none_found)

      nothing-found : LargestInWords s g r
      nothing-found =
          record {
            found = λ zero. absurd (omega (arith, number-is-11));
            only = λ width is. none-is-largest width is;
            none-exactly = (λ _. none-fits-at-all (fits_at g s) widest none_found 1 (omega arith) (omega arith), λ _. number-is-11);
            smaller-fit = λ zero w less. absurd (omega (arith, number-is-11));
            no-marks = λ no-places. none-is-largest widest (empty-largest no-places);
          }

    either : (o : Option ℕ) → largest_width g s ≡ o → LargestInWords s g r
    either none e = nothing-found e
    either (some width) e = one_found width e

    pub largest-in-words : LargestInWords s g r
    largest-in-words = either (largest_width g s) refl
