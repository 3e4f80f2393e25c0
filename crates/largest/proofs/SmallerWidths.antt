-- Every smaller width fits too: at a smaller width every label is shorter, or as long, at its own place, so a placing of the strip at the
-- greater width is one at the smaller, and a length that is not over 240 dots is not over it there either.
use mathlib.Core.Path.{◌≡◌, refl, sym, ◌∙◌}
use mathlib.Core.Bool.{true}
use mathlib.Core.List.{List, [], ◌∷◌}
use Prim.Native.Nat.{ℕ, ◌*◌, ◌≤◌}
use native.Mathlib.Nat.{mul-le-mul_left}
use native.Mathlib.Omega.{arith}
use lib.IntN.{ℤ}
use borrow.Author.Tests.{le-leb, leb-true}
use Rattle.geometry.specs.Mark.{most_length}
use Rattle.geometry.specs.Strip.{Strip, marks_of_lists, marks_of}
use Rattle.geometry.specs.Placing.{first_placing}
use Rattle.geometry.proofs.Shorter.{AllShorter, placing-shorter}
use Rattle.largest.specs.Widths.{lengths_at, strip_at, none_over_lem, placing_at, fits_at}
use Rattle.largest.specs.inner.Cells.{most_of}
use Rattle.largest.proofs.MostCells.{most-decides}
use Rattle.largest.proofs.FullAtWidth.{is-there, there-within}

module _ (v w : ℕ) (less : v ≤ w) where
  -- so many cells are not longer
  shorter : (c : ℕ) → c * v ≤ c * w
  shorter c = mul-le-mul_left c less

  -- and so the greatest count, which decides whether a length is over 240
  within-smaller : (cells : List ℕ) → none_over_lem w cells ≡ true → none_over_lem v cells ≡ true
  within-smaller cells e =
      let within = leb-true (most_of cells * w) most_length (most-decides cells w ∙ e) in
      sym (most-decides cells v) ∙ le-leb (most_of cells * v) most_length (omega (arith, shorter (most_of cells)))

  marks-shorter : (zs : List ℤ) (cells ws : List ℕ) → AllShorter (marks_of_lists zs (lengths_at v cells) ws) (marks_of_lists zs (lengths_at w cells) ws)
  unfolding marks_of_lists
  marks-shorter [] cells ws = tt
  marks-shorter (z ∷ zs) [] ws = tt
  marks-shorter (z ∷ zs) (c ∷ cells) [] = tt
  marks-shorter (z ∷ zs) (c ∷ cells) (x ∷ ws) = (record { same_place = refl; no_longer = shorter c }, marks-shorter zs cells ws)

  -- "It follows that every smaller width fits too", for any three lists and any gap
  pub smaller-fits : (g : ℕ) (s : Strip) → fits_at g s w ≡ true → fits_at g s v ≡ true
  unfolding placing_at
  smaller-fits g s fits =
      let found = first_placing g (marks_of (strip_at w s)) in
      let within = there-within (none_over_lem w s.lengths) found fits in
      let long = is-there found (rw within at fits) in
      let short = placing-shorter g (marks_of (strip_at v s)) (marks_of (strip_at w s))
      (marks-shorter s.places s.lengths s.weights) long.0 long.1 in
      rw (within-smaller s.lengths within, short.1) refl
