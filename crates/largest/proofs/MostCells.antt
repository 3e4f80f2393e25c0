-- The greatest cell count decides whether some length is over 240: at one width a label with more cells is not shorter, so all are within
-- 240 dots exactly if that one is.
use mathlib.Core.Path.{◌≡◌, ◌∙◌, ap}
use mathlib.Core.Bool.{Bool, ◌&&◌}
use mathlib.Core.List.{List, [], ◌∷◌}
use mathlib.Core.Logic.{⊎_elim}
use Prim.Native.Nat.{ℕ, ◌*◌, ◌≤◌, ◌<◌, max}
use native.Mathlib.Nat.{mul-le-mul_right}
use native.Mathlib.Omega.{arith}
use lib.Dec.{leb}
use borrow.Author.Tests.{le-leb, lt-leb}
use Rattle.std.specs.List.{fold}
use Rattle.geometry.specs.Mark.{most_length}
use Rattle.geometry.proofs.Split.{by-leb, same_test, lt-or-ge}
use Rattle.largest.specs.Widths.{none_over_lem}
use Rattle.largest.specs.inner.Cells.{most_of, WithinMost}

-- the greatest count, found cell by cell
pub most-folded : (most : ℕ) (cells : List ℕ) → fold max most cells ≡ max most (most_of cells)
unfolding most_of
most-folded most [] = omega arith
most-folded most (c ∷ cells) = most-folded (max most c) cells ∙ omega arith

-- at a width the greater count has the greater length
times_more : (c d width : ℕ) → c ≤ d → c * width ≤ d * width
times_more c d width h = mul-le-mul_right width h

max-times : (c d width : ℕ) → max c d * width ≡ max (c * width) (d * width)
max-times c d width =
    ⊎_elim
    (λ (h : c < d). let greater : max c d ≡ d = omega arith in rw greater (omega (arith, times_more c d width (omega arith))))
    (λ (h : d ≤ c). let greater : max c d ≡ c = omega arith in rw greater (omega (arith, times_more d c width h)))
    (lt-or-ge c d)

-- the greater of two numbers is within a bound exactly if both are
max-within : (x y most : ℕ) → leb (max x y) most ≡ (leb x most && leb y most)
max-within x y most =
    by-leb x most (λ t. leb (max x y) most ≡ (t && leb y most))
    (λ h. same_test (max x y) most y most (omega arith) (omega arith))
    (λ h. lt-leb (max x y) most (omega arith))

pub most-decides : (cells : List ℕ) (width : ℕ) → leb (most_of cells * width) most_length ≡ none_over_lem width cells
unfolding most_of
most-decides [] width = le-leb (0 * width) most_length (omega arith)
most-decides (c ∷ cells) width =
    ap (λ k. leb k most_length) (max-times c (most_of cells) width) ∙ max-within (c * width) (most_of cells * width) most_length
    ∙ ap (λ t. leb (c * width) most_length && t) (most-decides cells width)

-- so does a number that is it
pub within-decides : (most dots : ℕ) {within : Bool} → within ≡ leb (most * dots) most_length → WithinMost most dots within
within-decides most dots says cells width most-is dots-are = says ∙ rw (most-is, dots-are) (most-decides cells width)
