-- The walk after i marks: what is written so far and the walk of the rest are the whole answer. A label as the table gives it is the one
-- with which the walk of the rest begins, so writing it moves it from the one part to the other; and the rest still goes.
use mathlib.Core.Path.{◌≡◌, refl, sym, ◌∙◌, ap, subst}
use mathlib.Core.Bool.{Bool, true, false}
use mathlib.Core.List.{List, [], ◌∷◌, map}
use Prim.Native.Nat.{ℕ, suc, ◌+◌, ◌*◌, ◌≤◌, ◌<◌}
use native.Mathlib.Omega.{arith}
use lib.Dec.{ltb}
use lib.IntN.{ℤ}
use lib.ListN.{length, drop, set, length-map}
use Rattle.geometry.specs.Dot.{empty_reach}
use Rattle.geometry.specs.Mark.{Mark}
use Rattle.geometry.specs.Position.{Side, side_code, own_reach, above_after, below_after}
use Rattle.geometry.specs.Sliding.{leftmost_edge, edges_from}
use Rattle.geometry.specs.Pass.{written}
use Rattle.geometry.specs.inner.Place.{place_of_lem}
use Rattle.geometry.specs.inner.Outside.{no_bound}
use Rattle.geometry.proofs.Each.{each-drop}
use Rattle.slide.specs.inner.Plain.{plain_marks, plain_at, Checked}
use Rattle.slide.specs.inner.Room.{slideable}
use Rattle.slide.specs.inner.Table.{row_cells, cell_in, RowHolds, TableHolds}
use Rattle.slide.specs.inner.Walk.{takes_above, side_if, side_before, sides_from, LabelOn, StepReady, fits_plain}
use Rattle.slide.proofs.ExactCells.{LabelInside, Inside, cells_of}
use Rattle.slide.proofs.WalkAllowed.{Goes, walk-goes, below-small, walk-length}
use Rattle.slide.proofs.PlainMarks.{marks-inside, marks-length, marks-from, marks-end}
use Rattle.slide.proofs.FilledRows.{own_same}
use Rattle.slide.proofs.RowByRow.{rows-from}
use Rattle.slide.proofs.WrittenSoFar.{WrittenTo, written_none, written-more, written_all}

-- as many edges as sides
edges-length : (g a b : ℕ) (ms : List Mark) (ss : List Side) → length ss ≡ length ms → length (edges_from g a b ms ss) ≡ length ms
unfolding edges_from
edges-length g a b [] ss e = refl
edges-length g a b (m ∷ ms) [] e = absurd (omega arith)
edges-length g a b (m ∷ ms) (s ∷ ss) e =
    let x : ℕ = leftmost_edge m (own_reach s a b) + (m.label_length + g) in
    ap suc (edges-length g (above_after s x a) (below_after s x b) ms ss (omega arith))

-- where above is not taken, below is free
below_free : (t : Bool) (g a b : ℕ) (m : Mark) (ms : List Mark) → Goes g a b m ms (side_if t) → t ≡ false → b ≤ m.place
below_free true g a b m ms goes e = absurd (mathlib.Core.Bool.true≢false e)
below_free false g a b m ms goes e = goes.0

-- what the walk of the rest writes: numbers of sides, and places of left edges
abbrev sides_left : ℕ → ℕ → ℕ → List Mark → List ℕ
sides_left g a b ms = map side_code (sides_from g a b ms)

abbrev edges_left : ℕ → ℕ → ℕ → List Mark → List ℤ
edges_left g a b ms = map place_of_lem (edges_from g a b ms (sides_from g a b ms))

-- it begins with the next label
module _ (g : ℕ) (m : Mark) (ms : List Mark) (a b : ℕ) (side : Side) (edge c d : ℕ) (label : LabelOn g (side_before g a b m ms) m a b side edge c d) where
  next-side : sides_left g a b (m ∷ ms) ≡ side_code side ∷ sides_left g c d ms
  unfolding sides_from
  next-side = rw (label.side-is, label.above-is, label.below-is) refl

  next_edge : edges_left g a b (m ∷ ms) ≡ place_of_lem edge ∷ edges_left g c d ms
  unfolding sides_from edges_from
  next_edge = rw (label.edge-is, label.above-is, label.below-is) refl

module _ (places : List ℤ) (lengths : List ℕ) (g : ℕ) where
  -- the marks, and what the walk writes of all of them
  abbrev marks : List Mark
  marks = plain_marks places lengths

  abbrev all_sides : List ℕ
  all_sides = sides_left g empty_reach empty_reach marks

  abbrev all_edges : List ℤ
  all_edges = edges_left g empty_reach empty_reach marks

  -- where the walk stands after i marks, with the reaches a above and b below
  pub record WalkedTo (old_sides sides : List ℕ) (old_edges edges : List ℤ) (a b i : ℕ) : Type 0 where
    pub small : b < no_bound
    pub going : slideable g a b (drop i marks) ≡ true
    pub sides-so-far : WrittenTo all_sides sides old_sides i (sides_left g a b (drop i marks))
    pub edges-so-far : WrittenTo all_edges edges old_edges i (edges_left g a b (drop i marks))

  -- at the start nothing is written, both sides are empty, and the strip fits
  pub walked_none : (sides : List ℕ) (edges : List ℤ) (i : ℕ) → i ≡ 0 → fits_plain places lengths g ≡ true
      → WalkedTo sides sides edges edges empty_reach empty_reach i
  walked_none sides edges i none fits =
      rw none
      (record { small = omega arith; going = fits; sides-so-far = written_none all_sides sides; edges-so-far = written_none all_edges edges })

  module _ (checked : Checked places lengths g) where
    -- a side and an edge for each mark
    sides-count : length all_sides ≡ length places
    sides-count =
        length-map (sides_from g empty_reach empty_reach marks) side_code
        ∙ walk-length g empty_reach empty_reach marks
        ∙ marks-length places lengths g checked

    edges-count : length all_edges ≡ length places
    edges-count =
        let sides : List Side = sides_from g empty_reach empty_reach marks in
        length-map (edges_from g empty_reach empty_reach marks sides) place_of_lem
        ∙ edges-length g empty_reach empty_reach marks sides (walk-length g empty_reach empty_reach marks)
        ∙ marks-length places lengths g checked

    -- all marks are walked
    pub walked_all : (old_sides sides : List ℕ) (old_edges edges : List ℤ) (a b i : ℕ) → WalkedTo old_sides sides old_edges edges a b i
        → length places ≡ i → (sides ≡ written all_sides old_sides) × (edges ≡ written all_edges old_edges)
    unfolding sides_from edges_from
    walked_all old_sides sides old_edges edges a b i walked all =
        let end = marks-end places lengths g checked i (omega arith) in (
          written_all all_sides sides old_sides i (rw end at walked.sides-so-far) (sides-count ∙ all),
          written_all all_edges edges old_edges i (rw end at walked.edges-so-far) (edges-count ∙ all),
        )

    module _
        (work old_sides sides : List ℕ)
        (old_edges edges : List ℤ)
        (a b i : ℕ)
        (table : TableHolds g work marks)
        (walked : WalkedTo old_sides sides old_edges edges a b i)
        (more : i < length places)
      where
        -- the mark at hand, those behind it, and its row in the work area
        abbrev here : Mark
        here = plain_at places lengths i

        abbrev rest : List Mark
        rest = drop (i + 1) marks

        abbrev row : ℕ → ℕ
        row = cell_in (drop (i * row_cells) work)

        -- what is left begins with it, inside the coordinates, and goes on with the side that the walk takes
        left-marks : drop i marks ≡ here ∷ rest
        left-marks = marks-from places lengths g checked i more

        inside : Inside g (here ∷ rest)
        inside = subst (Inside g) left-marks (each-drop (LabelInside g) i marks (marks-inside places lengths g checked))

        goes : Goes g a b here rest (side_before g a b here rest)
        goes = walk-goes g a b here rest inside walked.small (rw left-marks at walked.going)

        -- the row in the work area gives the side that the definition gives
        row-holds : RowHolds g (drop (i * row_cells) work) here rest
        row-holds = (rw left-marks at (rows-from g work marks i table)).0

        -- so the test by the row is the test of the definition
        same_test : takes_above a b here row ≡ takes_above a b here (cells_of g here rest)
        same_test =
            ap (ltb b)
            (own_same here a row (cells_of g here rest) inside.0.left row-holds)

        -- what the step asks of the mark and the row that the code finds
        pub step-ready : (m : Mark) (cells : List ℕ) → m ≡ here → cells ≡ drop (i * row_cells) work → StepReady cells m g a b
        step-ready m cells m-is cells-are =
            rw (m-is, cells-are)
            (record {
              gap-narrow = checked.gap-narrow;
              one_free = λ e. below_free _ g a b here rest goes (sym same_test ∙ e);
            })

        -- the state after the label that the code makes
        pub walked_more : (m : Mark) (cells : List ℕ) → m ≡ here → cells ≡ drop (i * row_cells) work → (side : Side) (edge c d : ℕ)
            → LabelOn g (side_if (takes_above a b m (cell_in cells))) m a b side edge c d → i < length sides → i < length edges
            → WalkedTo old_sides (set sides i (side_code side)) old_edges (set edges i (place_of_lem edge)) c d (i + 1)
        walked_more m cells m-is cells-are side edge c d made sides-long edges-long =
            let at-row = rw (m-is, cells-are) at made in
            let label : LabelOn g (side_before g a b here rest) here a b side edge c d = rw same_test at at-row in
            record {
              small = rw label.below-is (below-small g (side_before g a b here rest) here rest a b inside goes.0 walked.small);
              going = rw (label.above-is, label.below-is) goes.1;
              sides-so-far = written-more all_sides sides old_sides i (side_code side) (sides_left g c d rest)
                  (rw (left-marks, next-side g here rest a b side edge c d label) at walked.sides-so-far) sides-long;
              edges-so-far = written-more all_edges edges old_edges i (place_of_lem edge) (edges_left g c d rest)
                  (rw (left-marks, next_edge g here rest a b side edge c d label) at walked.edges-so-far) edges-long;
            }
