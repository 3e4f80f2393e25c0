-- The kept part layouts of a mark, as dots: for each of its positions the greatest reach of the other side with which all later
-- marks can still be placed, 0 if there is none and 65,535 if no mark is left.
use Rattle.std.specs.Prelude.{ℕ, ◌+◌, max, List, [], ◌∷◌, cond, leb, eqb, drop}
use Rattle.geometry.specs.Mark.{Mark}
use Rattle.geometry.specs.Strip.{Strip, marks_of}
use Rattle.geometry.specs.Position.{leftward, rightward}
use Rattle.geometry.specs.Overlap.{left_end, right_end}
use Rattle.geometry.specs.inner.At.{mark_at}
use Rattle.geometry.specs.inner.Outside.{no_reach, no_bound}

-- The greatest reach of the other side beside a side that reaches to t, from the next mark's two left ends and from what its label
-- to the left and its label to the right leave to their other side: on this side they leave that to the other one, on the other
-- side they ask that t is within it.
abbrev pub candidates : ℕ → ℕ → ℕ → ℕ → ℕ → ℕ
candidates t left right kept_left kept_right =
    max (max (cond (leb t left) kept_left no_reach) (cond (leb t right) kept_right no_reach))
    (max (cond (leb t kept_left) left no_reach) (cond (leb t kept_right) right no_reach))

unfoldable pub greatest : ℕ → ℕ → List Mark → ℕ
greatest g t [] = no_bound
greatest g t (m ∷ ms) =
    candidates t (left_end m leftward) (left_end m rightward) (greatest g (right_end m leftward + g) ms) (greatest g (right_end m rightward + g) ms)

-- by the mirror a label above leaves below what the same label below leaves above: a row of four from two
abbrev pub alike {ℓ} : {A : Type ℓ} → A → A → List A
alike kept_left kept_right = kept_left ∷ kept_left ∷ kept_right ∷ kept_right ∷ []

-- the reaches that the four positions of m, in the order 2, 3, 1, 4, leave to the other side
abbrev pub row_of : ℕ → Mark → List Mark → List ℕ
row_of g m ms = alike (greatest g (right_end m leftward + g) ms) (greatest g (right_end m rightward + g) ms)

-- those of the mark with index j of a strip
abbrev pub row_in : ℕ → Strip → ℕ → List ℕ
row_in g s j = row_of g (mark_at s j) (drop (j + 1) (marks_of s))

-- 1 if a part layout is kept
abbrev pub kept_one : ℕ → ℕ
kept_one x = cond (eqb x no_reach) 0 1

-- the number of positions for which one is kept
unfoldable pub count_of : List ℕ → ℕ
count_of [] = 0
count_of (x ∷ xs) = kept_one x + count_of xs
