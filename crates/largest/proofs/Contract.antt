-- The call meets its contract: a refusal on entry; the first width that fits, where the full pass has written its positions and cleared the
-- work area; and none, where the last width tried was 1 dot. At a width that does not fit the full pass leaves the positions alone and
-- the work area zero, or is not called, so nothing has to be undone.
use mathlib.Core.Path.{◌≡◌, refl, sym, ◌∙◌, ap}
use mathlib.Core.Bool.{Bool, true, false, cond}
use mathlib.Core.List.{List, [], ◌∷◌}
use mathlib.Core.Option.{none, some}
use Prim.Native.Nat.{ℕ, ◌*◌, ◌-◌, ◌≤◌, ◌<◌}
use native.Mathlib.Omega.{arith}
use lib.Dec.{leb}
use lib.IntN.{pos}
use lib.ListN.{length, drop}
use borrow.Author.Tests.{le-leb}
use Rattle.geometry.specs.Lists.{first_of}
use Rattle.std.specs.List.{list_all}
use Rattle.geometry.specs.Mark.{most_length, length_in_range_lem}
use Rattle.geometry.specs.Strip.{Strip, most_marks}
use Rattle.geometry.specs.Refusal.{accepted, refusal_number}
use Rattle.geometry.specs.declared.refusal.Refusal.TheVariants.{NoPlacing}
use Rattle.geometry.specs.Pass.{cleared}
use Rattle.geometry.proofs.Split.{both, one-to, by_bool}
use Rattle.geometry.proofs.Lent.{cleared-again, drop-cleared}
use Rattle.geometry.proofs.Accepted.{pass-accepted, first_good, rest-good}
use Rattle.full.specs.Full.{work_named, FullLent, full_checks}
use Rattle.largest.specs.Widths.{none_over_lem, placing_at, fits_at, widest, widths_from, largest_width}
use Rattle.largest.specs.Largest.{Largest, LargestContract}
use Rattle.largest.specs.inner.Cells.{most_of}
use Rattle.largest.specs.inner.Trial.{TrialReady, Tried}
use Rattle.largest.proofs.FullAtWidth.{not_there, is-there, there-within}
use Rattle.largest.proofs.InTurn.{first_fits, next-width, none_left}

-- at 1 dot no length is over 240
one-dot : (cells : List ℕ) → list_all length_in_range_lem cells ≡ true → none_over_lem 1 cells ≡ true
one-dot [] good = refl
one-dot (c ∷ cells) good =
    let few = (one-to most_length c (first_good length_in_range_lem c cells good)).1 in
    both (leb (c * 1) most_length) _ (le-leb (c * 1) most_length (omega arith)) (one-dot cells (rest-good length_in_range_lem c cells good))

-- what fits is not over 240
fits-within : (g : ℕ) (s : Strip) (width : ℕ) → fits_at g s width ≡ true → none_over_lem width s.lengths ≡ true
unfolding placing_at
fits-within g s width = there-within (none_over_lem width s.lengths) _

module _ (s : Strip) (g : ℕ) (entry : FullLent) where
  -- the widths so far did not fit: the first that does is among those left
  pub record Trying (lent : FullLent) (width : ℕ) : Type 0 where
    pub least : 1 ≤ width
    pub among-left : largest_width g s ≡ first_of (fits_at g s) (widths_from width)
    pub positions-kept : lent.positions ≡ entry.positions
    pub rest-kept : drop work_named lent.work ≡ drop work_named entry.work
    pub work-long : length lent.work ≡ length entry.work

  pub trying-starts : Trying entry widest
  trying-starts = record { least = omega arith; among-left = refl; positions-kept = refl; rest-kept = refl; work-long = refl }

  module _ (checked : full_checks s g entry ≡ accepted) (lent : FullLent) (width : ℕ) (trying : Trying lent width) where
    -- so the next can be tried
    pub ready-to-try : (most : ℕ) → most ≡ most_of s.lengths → TrialReady s g most width lent
    ready-to-try most is =
        record { checked = rw (trying.positions-kept, trying.work-long) checked; most-is = is; least = trying.least }

    module _ (exit : FullLent) (fits : Bool) (tried : Tried s g width lent exit fits) where
      rest-same : drop work_named exit.work ≡ drop work_named entry.work
      rest-same =
          by_bool (none_over_lem width s.lengths)
          (λ t. exit.work ≡ cond t (cleared work_named (pos 0) lent.work) lent.work → drop work_named exit.work ≡ drop work_named entry.work)
          (λ _ e. drop-cleared work_named (pos 0) exit.work lent.work e ∙ trying.rest-kept)
          (λ _ e. ap (drop work_named) e ∙ trying.rest-kept)
          tried.work-is

      -- a width at which the full pass was called leaves the work area zero
      work-cleared : none_over_lem width s.lengths ≡ true → exit.work ≡ cleared work_named (pos 0) entry.work
      work-cleared within =
          cleared-again work_named (pos 0) exit.work lent.work entry.work (tried.work-is ∙ rw within refl) trying.rest-kept

      module _ (not : fits ≡ false) where
        none-there : placing_at g s width ≡ none
        none-there = not_there (placing_at g s width) (sym tried.fits-is ∙ not)

        positions-same : exit.positions ≡ entry.positions
        positions-same = tried.positions-are ∙ rw none-there trying.positions-kept

        fewer : largest_width g s ≡ first_of (fits_at g s) (widths_from (width - 1))
        fewer = trying.among-left ∙ next-width (fits_at g s) width trying.least (sym tried.fits-is ∙ not)

        -- one dot less
        pub trying-on : 1 < width → length exit.work ≡ length lent.work → Trying exit (width - 1)
        trying-on more long =
            record {
              least = omega arith;
              among-left = fewer;
              positions-kept = positions-same;
              rest-kept = rest-same;
              work-long = long ∙ trying.work-long;
            }

        -- none fits
        pub none-fits : width ≡ 1 → (r : Largest) → r.number ≡ refusal_number NoPlacing → r.width ≡ 0 → LargestContract s g entry exit r
        none-fits last r number-11 width-0 =
            let none_found : largest_width g s ≡ none =
            fewer ∙ rw last (none_left (fits_at g s)) in
            let good = (pass-accepted most_marks s g _ work_named _ checked).entered.lengths-good in
            record {
              number_is = rw (checked, none_found) number-11;
              width_is = rw (checked, none_found) width-0;
              positions-are = rw (checked, none_found) positions-same;
              work-is = rw checked (work-cleared (rw last (one-dot s.lengths good)));
            }

      -- the first that fits
      pub one-fits : fits ≡ true → (r : Largest) → r.number ≡ 0 → r.width ≡ width → LargestContract s g entry exit r
      one-fits does r number-0 width_same =
          let there = sym tried.fits-is ∙ does in
          let placing = is-there (placing_at g s width) there in
          let found : largest_width g s ≡ some width =
          trying.among-left ∙ first_fits (fits_at g s) width trying.least there in
          record {
            number_is = rw (checked, found, placing.1) number-0;
            width_is = rw (checked, found) width_same;
            positions-are = rw (checked, found) (tried.positions-are ∙ rw trying.positions-kept refl);
            work-is = rw checked (work-cleared (fits-within g s width there));
          }
