-- The rows of the table: the last one, one from the next, one behind a mark that keeps nothing, and the table after a store.
-- The row of a mark is computed from the next mark's row by the very candidates of its definition. Where the next mark keeps nothing,
-- its four bounds are 0: they allow nothing on the own side, and no reach, which is at least 1, is within them on the other side. So
-- the mark before it keeps nothing either, and by induction the first mark does not.
use mathlib.Core.Path.{◌≡◌, refl, sym, ◌∙◌, ap}
use mathlib.Core.Bool.{true, cond}
use mathlib.Core.Logic.{⊎_elim}
use mathlib.Core.List.{List, [], ◌∷◌, ◌++◌, map, append_assoc}
use Prim.Native.Nat.{ℕ, zero, suc, ◌+◌, ◌*◌, ◌≤◌, ◌<◌}
use native.Mathlib.Omega.{arith}
use native.Mathlib.Numerals.{add-one}
use lib.IntN.{ℤ, pos}
use lib.ListN.{length, get_or, take, drop, set, drop_of_length-le, get_or-map}
use lib.Seq.{sets, sets-eq, drop-set-lt, drop_at, take_at, length-take-le, get_or-take, get_or-drop}
use Rattle.geometry.specs.Dot.{dot}
use Rattle.std.specs.List.{list_all}
use Rattle.geometry.specs.Mark.{Mark, place_in_range_lem}
use Rattle.geometry.specs.Strip.{Strip, marks_of}
use Rattle.geometry.specs.Position.{leftward, rightward}
use Rattle.geometry.specs.Overlap.{right_end}
use Rattle.geometry.specs.inner.At.{mark_at}
use Rattle.geometry.specs.inner.Outside.{no_reach, no_bound}
use Rattle.geometry.proofs.Split.{by_eqb, lt-or-ge}
use Rattle.geometry.proofs.Dots.{range-dots}
use Rattle.geometry.proofs.Accepted.{length-marks, marks-from, every-at}
use Rattle.full.specs.inner.Row.{greatest, alike, row_of, row_in, kept_one, count_of}
use Rattle.full.specs.inner.OneMark.{four, row_before}
use Rattle.full.specs.inner.Table.{row_at, RowsFrom}
use Rattle.full.proofs.Candidates.{none_beside}

-- the row of a mark from the row of the next one
before : (g : ℕ) (m n : Mark) (rest : List Mark) (next : List ℤ) → map dot (four next) ≡ row_of g n rest
    → row_before g m.place m.label_length n.place n.label_length next ≡ row_of g m (n ∷ rest)
unfolding greatest
before g m n rest next e =
    let kept-left : dot (get_or next 0 (pos 0)) ≡ greatest g (right_end n leftward + g) rest = ap (λ (xs : List ℕ). get_or xs 0 0) e in
    let kept-right : dot (get_or next 2 (pos 0)) ≡ greatest g (right_end n rightward + g) rest = ap (λ (xs : List ℕ). get_or xs 2 0) e in
    rw (kept-left, kept-right) refl

-- a position that keeps nothing counts 0, and no other does
not-kept : (x : ℕ) → kept_one x ≡ 0 → x ≡ no_reach
not-kept x = by_eqb x no_reach (λ t. ◌≡◌ {A = ℕ} (cond t 0 1) 0 → x ≡ no_reach) (λ e z. e) (λ n z. absurd (omega arith))

-- beside a mark that keeps nothing the mark before it keeps nothing
none-kept-before : (g : ℕ) (m n : Mark) (rest : List Mark) → 1 ≤ m.place → count_of (row_of g n rest) ≡ 0 → count_of (row_of g m (n ∷ rest)) ≡ 0
unfolding count_of greatest
none-kept-before g m n rest some e =
    let left-none : greatest g (right_end n leftward + g) rest ≡ no_reach = not-kept _ (omega arith) in
    let right-none : greatest g (right_end n rightward + g) rest ≡ no_reach = not-kept _ (omega arith) in
    rw (left-none, right-none, none_beside (right_end m leftward + g) _ _ (omega arith), none_beside (right_end m rightward + g) _ _ (omega arith))
    refl

module _ (g : ℕ) (s : Strip) (same : length s.places ≡ length s.lengths) (weighed : length s.places ≡ length s.weights) where
  -- the last mark leaves no bound
  pub last_row : (k : ℕ) → k + 1 ≡ length s.places → row_in g s k ≡ alike no_bound no_bound
  unfolding greatest
  last_row k last = rw (drop_of_length-le (marks_of s) {i = k + 1} (omega (arith, length-marks s same weighed))) refl

  -- the marks behind the one with index k begin with the next
  behind : (k : ℕ) → k + 1 < length s.places → drop (k + 1) (marks_of s) ≡ mark_at s (k + 1) ∷ drop (k + 1 + 1) (marks_of s)
  behind k few = rw (add-one (k + 1)) (marks-from s (k + 1) same weighed few)

  pub row_before_lem : (k : ℕ) (next : List ℤ) → k + 1 < length s.places → map dot (four next) ≡ row_in g s (k + 1)
      → row_before g (dot (get_or s.places k (pos 0))) (get_or s.lengths k 0) (dot (get_or s.places (k + 1) (pos 0))) (get_or s.lengths (k + 1) 0) next
      ≡ row_in g s k
  row_before_lem k next few row =
      rw (behind k few) (before g (mark_at s k) (mark_at s (k + 1)) (drop (k + 1 + 1) (marks_of s)) next row)

  -- a mark that keeps nothing: the first mark keeps nothing
  pub none-kept-first : list_all place_in_range_lem s.places ≡ true → (i : ℕ) → i < length s.places → count_of (row_in g s i) ≡ 0
      → count_of (row_in g s 0) ≡ 0
  none-kept-first good zero inside e = e
  none-kept-first good (suc k) inside e =
      let placed = range-dots (get_or s.places k (pos 0)) (every-at place_in_range_lem s.places (pos 0) k good (omega arith)) in
      let next = rw (← add-one k) at e in
      none-kept-first good k (omega arith)
      (rw (behind k (omega arith)) (none-kept-before g (mark_at s k) (mark_at s (k + 1)) (drop (k + 1 + 1) (marks_of s)) (omega arith) next))

-- a store of some numbers changes nothing behind them
pub drop-sets : (vs l : List ℤ) (i n : ℕ) → i + length vs ≤ n → drop n (sets l i vs) ≡ drop n l
drop-sets [] l i n h = refl
drop-sets (v ∷ vs) l i n h = drop-sets vs (set l i v) (suc i) n (omega arith) ∙ drop-set-lt n l i v (omega arith)

-- and puts them where it says
stored_row : (l vs : List ℤ) (i : ℕ) → length vs ≡ 4 → i + 4 ≤ length l → take 4 (drop i (sets l i vs)) ≡ vs
stored_row l vs i long h =
    ap (λ (xs : List ℤ). take 4 (drop i xs)) (sets-eq vs l i (omega arith) ∙ append_assoc (take i l) vs (drop (i + length vs) l))
    ∙ ap (take 4) (drop_at (take i l) (vs ++ drop (i + length vs) l) i (length-take-le i l (omega arith)))
    ∙ take_at vs (drop (i + length vs) l) 4 long

-- the table with one more row
pub one-more-row : (g : ℕ) (s : Strip) (work : List ℤ) (k : ℕ) (reaches : List ℤ) → 4 * k + 4 ≤ length work → RowsFrom g (k + 1) work s
    → map dot (four reaches) ≡ row_in g s k → RowsFrom g k (sets work (4 * k) (four reaches)) s
one-more-row g s work k reaches room rows row j low high =
    ⊎_elim
    (λ (later : k < j).
    ap (λ (xs : List ℤ). map dot (take 4 xs)) (drop-sets (four reaches) work (4 * k) (4 * j) (omega arith)) ∙ rows j (omega arith) high)
    (λ (here : j ≤ k).
    let same : j ≡ k = omega arith in rw same (ap (map dot) (stored_row work (four reaches) (4 * k) refl room) ∙ row))
    (lt-or-ge k j)

-- a number of a row, read from the work area
pub row_number : (work : List ℤ) (i q : ℕ) (row : List ℕ) → map dot (row_at work i) ≡ row → q < 4
    → dot (get_or work (4 * i + q) (pos 0)) ≡ get_or row q (dot (pos 0))
row_number work i q row e h =
    ap dot (sym (get_or-take 4 (drop (4 * i) work) q (pos 0) h ∙ get_or-drop (4 * i) work q (pos 0)))
    ∙ sym (get_or-map dot (row_at work i) q (pos 0))
    ∙ ap (λ (xs : List ℕ). get_or xs q (dot (pos 0))) e
