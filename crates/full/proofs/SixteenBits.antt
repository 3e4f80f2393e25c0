-- None of the pass's numbers leaves signed 16 bits. A number of the table is one of the candidates, and these are numbers of the next row, left
-- edges of the next mark, or none; so by induction from the last mark, which leaves no bound, each is a left edge or one of the two outside.
-- The walk begins beside two sides without labels, and at each mark one of its reaches becomes a right end plus the gap.
use mathlib.Core.Path.{◌≡◌, refl}
use mathlib.Core.Bool.{Bool, true, false, cond}
use mathlib.Core.Logic.{⊎_elim}
use mathlib.Core.List.{List, [], ◌∷◌}
use Prim.Native.Nat.{ℕ, ◌+◌, ◌≤◌, ◌<◌, max}
use native.Mathlib.Omega.{arith}
use lib.Dec.{leb}
use lib.ListN.{drop}
use Rattle.geometry.specs.Dot.{empty_reach}
use Rattle.geometry.specs.Mark.{Mark}
use Rattle.geometry.specs.Strip.{marks_of, most_marks}
use Rattle.geometry.specs.Position.{above, below, leftward, rightward, Position, unlabelled, at}
use Rattle.geometry.specs.Overlap.{right_end}
use Rattle.geometry.specs.inner.At.{mark_at}
use Rattle.geometry.specs.inner.Machine.{next_above, next_below}
use Rattle.geometry.specs.inner.Outside.{no_reach}
use Rattle.geometry.specs.inner.Each.{Each}
use Rattle.geometry.proofs.Split.{lt-or-ge}
use Rattle.geometry.proofs.Each.{each-drop}
use Rattle.geometry.proofs.Accepted.{entry-accepted}
use Rattle.full.specs.inner.Row.{candidates, greatest, row_of}
use Rattle.full.specs.inner.Rest.{pick, steps}
use Rattle.full.specs.inner.SixteenBits.{LeftEdge, Stored, is_edge, is_none, is_unbounded, Carried, is_reach, is_empty, EndsHeld}
use Rattle.full.specs.inner.SixteenBits.{Number, is_left_edge, is_right_end, is_stored, is_carried, Between, least_signed, most_signed, SixteenBits}
use Rattle.full.proofs.EndsHeld.{marks-held}

-- of two numbers of the table the greater is one, and so is one of them or none, as a test says
stored-max : (x y : ℕ) → Stored x → Stored y → Stored (max x y)
stored-max x y sx sy =
    ⊎_elim
    (λ (h : x < y). let is : max x y ≡ y = omega arith in rw is sy)
    (λ (h : y ≤ x). let is : max x y ≡ x = omega arith in rw is sx)
    (lt-or-ge x y)

stored-if : (t : Bool) (x : ℕ) → Stored x → Stored (cond t x no_reach)
stored-if true x s = s
stored-if false x s = is_none refl

-- so the greatest candidate is one
pub candidates-stored : (t left right kl kr : ℕ) → LeftEdge left → LeftEdge right → Stored kl → Stored kr
    → Stored (candidates t left right kl kr)
candidates-stored t left right kl kr hl hr sl sr =
    stored-max _ _ (stored-max _ _ (stored-if (leb t left) kl sl) (stored-if (leb t right) kr sr))
    (stored-max _ _ (stored-if (leb t kl) left (is_edge hl)) (stored-if (leb t kr) right (is_edge hr)))

-- and by induction on the marks each number of each row
greatest-stored : (g t : ℕ) (ms : List Mark) → Each (EndsHeld g) ms → Stored (greatest g t ms)
unfolding greatest
greatest-stored g t [] h = is_unbounded refl
greatest-stored g t (m ∷ ms) h =
    candidates-stored t _ _ _ _ (h.0.left-edge leftward) (h.0.left-edge rightward)
    (greatest-stored g (right_end m leftward + g) ms h.1) (greatest-stored g (right_end m rightward + g) ms h.1)

pub row-stored : (g : ℕ) (m : Mark) (ms : List Mark) → Each (EndsHeld g) ms → Each Stored (row_of g m ms)
row-stored g m ms h =
    let kept-left = greatest-stored g (right_end m leftward + g) ms h in
    let kept-right = greatest-stored g (right_end m rightward + g) ms h in
    (kept-left, (kept-left, (kept-right, (kept-right, tt))))

-- a label leaves its side's reach at its right end plus the gap, and the other side's as it was
pub next-carried : (g a b : ℕ) (m : Mark) (p : Position) → EndsHeld g m → Carried a → Carried b
    → Carried (next_above g a m p) × Carried (next_below g b m p)
next-carried g a b m unlabelled h ca cb = (ca, cb)
next-carried g a b m (at above d) h ca cb = (is_reach (h.reach d), cb)
next-carried g a b m (at below d) h ca cb = (ca, is_reach (h.reach d))

walk-carried : (g a b : ℕ) (ms : List Mark) → Each (EndsHeld g) ms → Carried a → Carried b
    → Each (λ t. Carried t.reach_above × Carried t.reach_below) (steps g a b ms)
unfolding steps
walk-carried g a b [] h ca cb = tt
walk-carried g a b (m ∷ ms) h ca cb =
    let p = pick g a b m ms in
    let next = next-carried g a b m p h.0 ca cb in
    (next, walk-carried g (next_above g a m p) (next_below g b m p) ms h.1 next.0 next.1)

-- where a number of the pass lies among those of 16 bits
stored-bits : (d : ℕ) → Stored d → Between least_signed most_signed d
stored-bits d (is_edge h) = omega arith
stored-bits d (is_none e) = omega arith
stored-bits d (is_unbounded e) = omega arith

pub carried-bits : (d : ℕ) → Carried d → Between least_signed most_signed d
carried-bits d (is_reach h) = omega arith
carried-bits d (is_empty e) = omega arith

number-bits : (d : ℕ) → Number d → Between least_signed most_signed d
number-bits d (is_left_edge h) = omega arith
number-bits d (is_right_end h) = omega arith
number-bits d (is_stored s) = stored-bits d s
number-bits d (is_carried c) = carried-bits d c

-- The theorem.
pub sixteen-bits : SixteenBits
sixteen-bits =
    record {
      in-range = λ s g good narrow.
          let a = entry-accepted most_marks s good in
          let ends = marks-held g s narrow a.places-good a.lengths-good in
          record {
            ends = ends;
            table = λ j here. row-stored g (mark_at s j) (drop (j + 1) (marks_of s)) (each-drop (EndsHeld g) (j + 1) (marks_of s) ends);
            walk = walk-carried g empty_reach empty_reach (marks_of s) ends (is_empty refl) (is_empty refl);
          };
      none-leaves = number-bits;
    }
