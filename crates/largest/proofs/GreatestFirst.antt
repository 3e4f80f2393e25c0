-- Going down from a width, the first that fits is the greatest that fits, and only that one is; where there is none, none fits. Each is an
-- induction on the width, with a case split on whether it fits.
use mathlib.Core.Path.{◌≡◌, refl, sym, ◌∙◌, ap}
use mathlib.Core.Bool.{Bool, true, false, cond}
use mathlib.Core.Logic.{⊎_elim}
use mathlib.Core.Option.{Option, none, some}
use Prim.Native.Nat.{ℕ, zero, suc, ◌≤◌, ◌<◌}
use native.Mathlib.Omega.{arith}
use Rattle.geometry.specs.Lists.{first_of}
use Rattle.geometry.proofs.Split.{by_bool, lt-or-ge}
use Rattle.geometry.proofs.Words.{never-none}
use Rattle.largest.specs.Widths.{widths_from}
use Rattle.largest.specs.Largest.{Greatest}

module _ (fits : ℕ → Bool) where
  -- the greatest of smaller widths, where the next one does not fit
  with-next : (limit width : ℕ) → fits (suc limit) ≡ false → Greatest fits limit width → Greatest fits (suc limit) width
  with-next limit width not greatest =
      record {
        least = greatest.least;
        most = omega (arith, greatest.most);
        does = greatest.does;
        greater-not = λ w more within.
            ⊎_elim (λ (h : limit < w). let next : w ≡ suc limit = omega arith in rw next not) (greatest.greater-not w more) (lt-or-ge limit w);
      }

  -- the first of one width more, by whether that one fits
  abbrev first-if : Bool → ℕ → Option ℕ
  first-if does limit = cond does (some (suc limit)) (first_of fits (widths_from limit))

  pub first-greatest : (limit width : ℕ) → first_of fits (widths_from limit) ≡ some width → Greatest fits limit width
  unfolding first_of widths_from
  first-greatest zero width e = never-none width (sym e)
  first-greatest (suc limit) width e =
      by_bool (fits (suc limit)) (λ t. fits (suc limit) ≡ t → first-if t limit ≡ some width → Greatest fits (suc limit) width)
      (λ _ does found.
      let is : width ≡ suc limit = cc in
      record { least = omega arith; most = omega arith; does = rw is does; greater-not = λ w more within. absurd (omega arith) })
      (λ _ not found. with-next limit width not (first-greatest limit width found))
      refl
      e

  pub greatest-first : (limit width : ℕ) → Greatest fits limit width → first_of fits (widths_from limit) ≡ some width
  unfolding first_of widths_from
  greatest-first zero width greatest = absurd (omega (arith, greatest.least, greatest.most))
  greatest-first (suc limit) width greatest =
      ⊎_elim
      (λ (h : width < suc limit).
      rw (greatest.greater-not (suc limit) h (omega arith))
      (greatest-first limit width
      (record {
        least = greatest.least;
        most = omega arith;
        does = greatest.does;
        greater-not = λ w more within. greatest.greater-not w more (omega arith);
      })))
      (λ (h : suc limit ≤ width).
      let is : width ≡ suc limit = omega (arith, greatest.most) in
      let does : fits (suc limit) ≡ true = sym (ap fits is) ∙ greatest.does in
      rw (does, is) refl)
      (lt-or-ge width (suc limit))

  pub none-fits-at-all : (limit : ℕ) → first_of fits (widths_from limit) ≡ none → (width : ℕ) → 1 ≤ width → width ≤ limit
      → fits width ≡ false
  unfolding first_of widths_from
  none-fits-at-all zero e width least most = absurd (omega arith)
  none-fits-at-all (suc limit) e width least most =
      by_bool (fits (suc limit)) (λ t. fits (suc limit) ≡ t → first-if t limit ≡ none → fits width ≡ false)
      (λ _ does found. never-none (suc limit) found)
      (λ _ not none_found.
      ⊎_elim
      (λ (h : limit < width). let is : width ≡ suc limit = omega arith in rw is not)
      (λ (h : width ≤ limit). none-fits-at-all limit none_found width least h)
      (lt-or-ge limit width))
      refl
      e
