-- The checks on entry, made two by two: the first that is not passed decides, and what passes them are marks that rise, with a position for
-- each.
use mathlib.Core.Path.{◌≡◌, refl, ◌∙◌}
use mathlib.Core.List.{[], ◌∷◌, ◌++◌}
use Prim.Native.Nat.{ℕ, ◌≤◌}
use lib.ListN.{length}
use borrow.Author.Tests.{leb-true, eqb-true}
use Rattle.std.specs.List.{list_all}
use Rattle.geometry.specs.Mark.{length_in_range_lem, place_in_range_lem}
use Rattle.geometry.specs.Refusal.{Check, Verdict, accepted, first_failure}
use Rattle.geometry.proofs.Split.{and-fst, and-snd}
use Rattle.geometry.proofs.Verdicts.{then, failure-append, both-passed, one-passed}
use Rattle.slope.specs.Track.{Track, good_coordinates_lem}
use Rattle.slope.specs.Slope.{list_checks, mark_checks, last_checks, slope_checks}
use Rattle.slope.specs.inner.Marks.{Checked}

-- two checks, one after the other
pub two-made : (c d : Check) {v w : Verdict} → first_failure (c ∷ []) ≡ v → first_failure (d ∷ []) ≡ w
    → first_failure (c ∷ d ∷ []) ≡ then v w
two-made c d first second = failure-append (c ∷ []) (d ∷ []) ∙ rw (first, second) refl

module _ (t : Track) where
  pub in-turn : (side lent : ℕ) {u v w : Verdict} → first_failure (list_checks t) ≡ u → first_failure (mark_checks t side) ≡ v
      → first_failure (last_checks t lent) ≡ w → slope_checks t side lent ≡ then (then u v) w
  unfolding slope_checks
  in-turn side lent lists marks last =
      failure-append (list_checks t ++ mark_checks t side) (last_checks t lent)
      ∙ rw (failure-append (list_checks t) (mark_checks t side), lists, marks, last) refl

  -- what the first four leave of a track
  pub marks-checked : (side : ℕ) → first_failure (list_checks t) ≡ accepted → first_failure (mark_checks t side) ≡ accepted → Checked t.xs t.ys
  marks-checked side lists marks =
      let equal = one-passed _ (both-passed (_ ∷ []) (_ ∷ []) lists).0 in
      let values = both-passed (_ ∷ []) (_ ∷ []) marks in
      let good = and-snd (length_in_range_lem side) _ (one-passed _ values.0) in
      record {
        same_length = eqb-true _ _ equal;
        short = leb-true _ _ (one-passed _ values.1);
        xs-rise = and-snd (list_all place_in_range_lem t.xs) _ (and-fst (good_coordinates_lem t.xs) _ good);
        ys-rise = and-snd (list_all place_in_range_lem t.ys) _ (and-snd (good_coordinates_lem t.xs) _ good);
      }

  -- and all of them
  pub record Passed (side lent : ℕ) : Type 0 where
    pub checked : Checked t.xs t.ys
    pub long : length t.xs ≤ lent

  pub passed : (side lent : ℕ) → slope_checks t side lent ≡ accepted → Passed side lent
  unfolding slope_checks
  passed side lent e =
      let parts = both-passed (list_checks t ++ mark_checks t side) (last_checks t lent) e in
      let first = both-passed (list_checks t) (mark_checks t side) parts.0 in
      record { checked = marks-checked side first.0 first.1; long = leb-true _ _ (one-passed _ (both-passed (_ ∷ []) (_ ∷ []) parts.1).1) }
