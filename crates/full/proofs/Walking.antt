-- The walk over the table is the walk of the definition. Before each mark the numbers written so far, followed by the walk from here on,
-- are the whole walk's: at the mark the row picks what the definition picks, and the step leaves the reaches that the definition leaves.
use mathlib.Core.Path.{◌≡◌, refl, sym, ◌∙◌, ap, subst}
use mathlib.Core.List.{List, [], ◌∷◌, ◌++◌, map, append-nil}
use Prim.Native.Nat.{ℕ, ◌+◌, ◌-◌, ◌*◌, ◌≤◌, ◌<◌}
use native.Mathlib.Omega.{arith}
use native.Mathlib.Numerals.{add-one}
use lib.IntN.{ℤ, pos}
use lib.ListN.{length, get_or, take, drop, set, length-set, drop_of_length-le}
use lib.Seq.{append_snoc, length-take-le}
use Rattle.geometry.specs.Dot.{dot, empty_reach}
use Rattle.geometry.specs.Mark.{Mark}
use Rattle.geometry.specs.Strip.{Strip, strip, marks_of}
use Rattle.geometry.specs.Position.{Position, code}
use Rattle.geometry.specs.inner.At.{mark_at}
use Rattle.geometry.specs.inner.Each.{Each}
use Rattle.geometry.proofs.Lent.{take_more, drop_more, written-whole}
use Rattle.geometry.proofs.Each.{each-drop}
use Rattle.geometry.proofs.Accepted.{length-marks, marks-from}
use Rattle.full.specs.inner.Rest.{pick, steps, walk, pick_by_row}
use Rattle.full.specs.inner.Row.{row_of}
use Rattle.full.specs.inner.SixteenBits.{Carried, is_empty, EndsHeld}
use Rattle.full.specs.inner.OneMark.{StepReady, Stepped}
use Rattle.full.specs.inner.Table.{AnyWeights, row_at, Checked, WalkReady, Walked}
use Rattle.full.proofs.EndsHeld.{checked-held}
use Rattle.full.proofs.Rows.{row_number}
use Rattle.full.proofs.RowPicks.{row-picks}

-- the numbers of the positions that the walk takes from the mark with index i on, beside the reaches a and b
abbrev pub numbers_from : ℕ → Strip → ℕ → ℕ → ℕ → List ℕ
numbers_from g s i a b = map code (walk g a b (drop i (marks_of s)))

-- what holds before the mark with index i
pub record Walking (places : List ℤ) (lengths : List ℕ) (g : ℕ) (entry positions : List ℕ)
    (above below : ℤ) (i : ℕ) : Type 0 where
  pub inside : i ≤ length places
  pub long : length positions ≡ length entry
  pub above-held : Carried (dot above)
  pub below-held : Carried (dot below)
  pub so_far : AnyWeights places lengths
      (λ s. numbers_from g s 0 empty_reach empty_reach ≡ take i positions ++ numbers_from g s i (dot above) (dot below))
  pub untouched : drop i positions ≡ drop i entry

module _ (places : List ℤ) (lengths : List ℕ) (g : ℕ) (checked : Checked places lengths g) (work : List ℤ) (entry : List ℕ)
    (ready : WalkReady places lengths g work entry) where
  -- before the first mark nothing is written and both sides are empty
  pub walking_start : (above below : ℤ) → dot above ≡ empty_reach → dot below ≡ empty_reach
      → Walking places lengths g entry entry above below 0
  walking_start above below above-empty below-empty =
      record {
        inside = omega arith;
        long = refl;
        above-held = is_empty above-empty;
        below-held = is_empty below-empty;
        so_far = λ ws same. rw (above-empty, below-empty) refl;
        untouched = refl;
      }

  module _ (positions : List ℕ) (above below : ℤ) (i : ℕ) (w : Walking places lengths g entry positions above below i) where
    -- the place of the mark here, and a number of its row
    abbrev here : ℤ
    here = get_or places i (pos 0)

    abbrev cell : ℕ → ℕ
    cell n = dot (get_or work n (pos 0))

    -- the position that the numbers of the row pick
    abbrev taken : Position
    taken = pick_by_row (dot above) (dot below) (dot here - get_or lengths i 0) (dot here) (cell (4 * i)) (cell (4 * i + 1)) (cell (4 * i + 2))

    module _ (more : i < length places) where
      -- what the step at the mark here asks
      pub step-ready : let number : ℕ → ℤ = λ n. get_or work n (pos 0) in
          StepReady above below (number (4 * i)) (number (4 * i + 1)) (number (4 * i + 2))
      step-ready =
          let first : 4 * i + 0 ≡ 4 * i = omega arith in
          let held = ready.held i in
          record {
            above-held = w.above-held;
            below-held = w.below-held;
            row-held = (rw first at (held 0 more (omega arith)), (held 1 more (omega arith), (held 2 more (omega arith), tt)));
          }

      -- whatever the weights are, the row picks what the definition picks
      module _ (ws : List ℕ) (same : length places ≡ length ws) where
        -- the strip with these weights, and the marks behind the one here
        abbrev whole : Strip
        whole = strip places lengths ws

        abbrev behind : List Mark
        behind = drop (i + 1) (marks_of whole)

        -- what is left is the mark here and those behind it, their ends all in range
        from-here : drop i (marks_of whole) ≡ mark_at whole i ∷ behind
        from-here = rw (add-one i) (marks-from whole i checked.same-lengths same more)

        held-here : Each (EndsHeld g) (mark_at whole i ∷ behind)
        held-here = subst (Each (EndsHeld g)) from-here (each-drop (EndsHeld g) i (marks_of whole) (checked-held checked ws))

        -- the row in the work area is the mark's, so it picks what the definition picks
        taken_is : taken ≡ pick g (dot above) (dot below) (mark_at whole i) behind
        taken_is =
            let row = row_of g (mark_at whole i) behind in
            let stored : map dot (row_at work i) ≡ row = ready.rows ws same i (omega arith) more in
            let first : 4 * i + 0 ≡ 4 * i = omega arith in
            rw (
              rw first at (row_number work i 0 row stored (omega arith)),
              row_number work i 1 row stored (omega arith),
              row_number work i 2 row stored (omega arith),
            )
            (row-picks g (dot above) (dot below) (mark_at whole i) behind w.above-held w.below-held held-here)

      module _ (position : Position) (above' below' : ℤ) (s : Stepped g above below here (get_or lengths i 0) taken position above' below') where
        -- so the walk from here on begins with the number that the step gives
        numbers-here : AnyWeights places lengths
            (λ s. numbers_from g s i (dot above) (dot below) ≡ code position ∷ numbers_from g s (i + 1) (dot above') (dot below'))
        unfolding steps
        numbers-here ws same =
            let weight = get_or ws i 0 in
            rw (from-here ws same, sym (taken_is ws same), s.position-is, s.above-is weight, s.below-is weight) refl

        -- one mark more
        pub walking-more : Walking places lengths g entry (set positions i (code position)) above' below' (i + 1)
        walking-more =
            let room = ready.places-for-all in
            let long = w.long in
            record {
              inside = omega arith;
              long = length-set positions i (code position) ∙ long;
              above-held = s.above-held;
              below-held = s.below-held;
              so_far = λ ws same.
                  w.so_far ws same
                  ∙ rw (numbers-here ws same, take_more i (code position) positions (omega arith))
                  (sym (append_snoc (take i positions) (code position) (numbers_from g (strip places lengths ws) (i + 1) (dot above') (dot below'))));
              untouched = drop_more i (code position) positions entry w.untouched;
            }

    -- behind the last mark the numbers are those of the whole walk
    pub walking-done : i ≡ length places → Walked places lengths g entry positions
    unfolding steps
    walking-done all ws same =
        let room = ready.places-for-all in
        let long = w.long in
        let s = strip places lengths ws in
        let none_left : drop i (marks_of s) ≡ [] =
        drop_of_length-le (marks_of s) {i = i} (omega (arith, length-marks s checked.same-lengths same)) in
        let numbers : take i positions ≡ numbers_from g s 0 empty_reach empty_reach =
        sym (w.so_far ws same ∙ rw none_left (append-nil (take i positions))) in
        written-whole i positions (numbers_from g s 0 empty_reach empty_reach) entry numbers w.untouched
        (sym (ap length numbers) ∙ length-take-le i positions (omega arith))
