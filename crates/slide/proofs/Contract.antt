-- The slide pass meets its contract. A refusal by the checks is the number and changes nothing. Past them the answer is by the plain
-- marks; weights change nothing, so it is 0 exactly if the strip slides at whole dots, and by geometry's theorem that is whether it slides
-- at any denominator. The sides of the walk have leftmost edges that are all allowed, and such edges are a placing.
use mathlib.Core.Path.{◌≡◌, refl, sym, ◌∙◌, ap, ap₂}
use mathlib.Core.Bool.{Bool, true, false}
use mathlib.Core.Logic.{◌↔◌}
use mathlib.Core.List.{List, [], ◌∷◌, map}
use Prim.Native.Nat.{ℕ, min}
use native.Mathlib.Omega.{arith}
use lib.ListN.{length}
use Rattle.geometry.specs.Dot.{dot, empty_reach}
use Rattle.geometry.specs.Mark.{Mark}
use Rattle.geometry.specs.Strip.{Strip, marks_of, most_short}
use Rattle.geometry.specs.Position.{Side}
use Rattle.geometry.specs.Sliding.{leftmost_edges, none_beyond, slides_whole}
use Rattle.geometry.specs.Refusal.{Verdict, accepted, number_of, refusal_number}
use Rattle.geometry.specs.declared.refusal.Refusal.TheVariants.{NoPlacing as no_placing}
use Rattle.geometry.specs.inner.Place.{place_of_lem}
use Rattle.geometry.specs.inner.Rising.{Rising}
use Rattle.geometry.specs.Pass.{pass_verdict}
use Rattle.geometry.proofs.Accepted.{Accepted, PassAccepted, pass-accepted, accepted-rising, length-marks}
use Rattle.geometry.proofs.Places.{dot-of-place}
use Rattle.geometry.proofs.Split.{by_bool}
use Rattle.geometry.proofs.Verdicts.{zero-accepted}
use Rattle.geometry.proofs.WholeEdges.{leftmost-placing, whole-slides, none-slides}
use Rattle.slide.specs.Slide.{SlideLent, slide_checks, slide_verdict, work_named, NoPlacing, Placed, SlideContract}
use Rattle.slide.specs.inner.Answer.{AnswerReady, Answer}
use Rattle.slide.specs.inner.Plain.{plain_marks, Checked}
use Rattle.slide.specs.inner.Walk.{fits_plain, walk_sides}
use Rattle.slide.proofs.WalkAllowed.{walk-allowed, walk-length}
use Rattle.slide.proofs.PlainMarks.{marks-inside, marks-length}
use Rattle.slide.proofs.WeightsIdle.{plain-edges, plain-beyond, plain_fits}

-- what the number past the checks says
zero-slides : (t : Bool) (n : ℕ) → n ≡ number_of (slide_verdict accepted t) → n ≡ 0 → t ≡ true
zero-slides true n e z = refl
zero-slides false n e z = absurd (omega arith)

eleven-misses : (t : Bool) (n : ℕ) → n ≡ number_of (slide_verdict accepted t) → (n ≡ refusal_number no_placing) ↔ (t ≡ false)
eleven-misses true n e = (λ eleven. absurd (omega arith), λ no. absurd (mathlib.Core.Bool.true≢false no))
eleven-misses false n e = (λ _. refl, λ _. e)

-- without a placing at any denominator there is none at whole dots
not-whole : (g : ℕ) (ms : List Mark) → NoPlacing g ms → slides_whole g ms ≡ false
not-whole g ms none =
    by_bool (slides_whole g ms) (λ t. slides_whole g ms ≡ t → slides_whole g ms ≡ false)
    (λ _ e. absurd (none 1 (omega arith) (whole-slides g ms e))) (λ _ e. e) refl

-- edges go out as places and come back as dots
dots-back : (es : List ℕ) → map dot (map place_of_lem es) ≡ es
dots-back [] = refl
dots-back (e ∷ es) = ap₂ ◌∷◌ (dot-of-place e) (dots-back es)

module _ (s : Strip) (g : ℕ) (entry : SlideLent) where
  -- checks 6, 12 and 7 to 10, passed
  abbrev Passed : Type 0
  Passed = PassAccepted most_short s g (min (length entry.sides) (length entry.edges)) work_named (length entry.work)

  passed : slide_checks s g entry ≡ accepted → Passed
  passed e = pass-accepted most_short s g (min (length entry.sides) (length entry.edges)) work_named (length entry.work) e

  -- what the inner functions ask of the lists and the gap
  pub checked : slide_checks s g entry ≡ accepted → Checked s.places s.lengths g
  checked past =
      let p = passed past in
      let good = p.entered in
      record {
        same_count = sym good.same-lengths;
        few = good.few;
        places-good = good.places-good;
        lengths-good = good.lengths-good;
        gap-narrow = p.gap-narrow;
      }

  -- what the checks gave, from the shorter answer list as the code finds it
  pub checks-made : (shortest : ℕ) {v : Verdict} → v ≡ pass_verdict most_short s g shortest work_named (length entry.work)
      → shortest ≡ min (length entry.sides) (length entry.edges) → v ≡ slide_checks s g entry
  checks-made shortest is short = is ∙ ap (λ (k : ℕ). pass_verdict most_short s g k work_named (length entry.work)) short

  -- so a call of theirs that gives number 0 has passed
  pub checks-passed : (shortest : ℕ) {v : Verdict} → v ≡ pass_verdict most_short s g shortest work_named (length entry.work)
      → shortest ≡ min (length entry.sides) (length entry.edges) → number_of v ≡ 0 → slide_checks s g entry ≡ accepted
  checks-passed shortest is short zero_number = sym (checks-made shortest is short) ∙ zero-accepted _ zero_number

  -- past them they are what the answer asks
  pub answer-ready : slide_checks s g entry ≡ accepted → AnswerReady s.places entry
  answer-ready past =
      let p = passed past in
      record { sides-long = omega (arith, p.list-long); edges-long = omega (arith, p.list-long); work-long = p.work-long }

  -- an answer past the checks
  module _ (past : slide_checks s g entry ≡ accepted) (exit : SlideLent) (n : ℕ) (answer : Answer s.places s.lengths g entry exit n) where
    -- the strip is accepted, so its marks rise
    good : Accepted most_short s
    good = (passed past).entered

    rise : Rising (marks_of s)
    rise = accepted-rising most_short s good

    -- the sides of the walk
    abbrev sides : List Side
    sides = walk_sides s.places s.lengths g

    -- weights change neither their edges nor the number
    same_edges : leftmost_edges g (plain_marks s.places s.lengths) sides ≡ leftmost_edges g (marks_of s) sides
    same_edges = plain-edges s good.same-lengths good.same-weights g sides

    number_is : n ≡ number_of (slide_verdict accepted (slides_whole g (marks_of s)))
    number_is = rw (← plain_fits s good.same-lengths good.same-weights g) answer.number_is

    one-side-each : length sides ≡ length (marks_of s)
    one-side-each =
        walk-length g empty_reach empty_reach (plain_marks s.places s.lengths)
        ∙ marks-length s.places s.lengths g (checked past)
        ∙ sym (length-marks s good.same-lengths good.same-weights)

    -- the leftmost edges of the walk's sides are allowed
    none-beyond : fits_plain s.places s.lengths g ≡ true → none_beyond (marks_of s) (leftmost_edges g (marks_of s) sides) ≡ true
    none-beyond fits =
        let marks : List Mark = plain_marks s.places s.lengths in
        rw (← same_edges)
        (sym (plain-beyond s good.same-lengths good.same-weights (leftmost_edges g marks sides))
        ∙ walk-allowed g empty_reach empty_reach marks (marks-inside s.places s.lengths g (checked past)) (omega arith) fits)

    -- number 0: the answer lists hold a placing
    placed : n ≡ 0 → Placed g (marks_of s) entry exit
    placed z =
        let fits = zero-slides (fits_plain s.places s.lengths g) n answer.number_is z in
        record {
          sides = sides;
          one-for-each = one-side-each;
          placing = leftmost-placing g (marks_of s) sides one-side-each (none-beyond fits);
          sides-written = (answer.where-placed z).sides;
          edges = map place_of_lem (leftmost_edges g (plain_marks s.places s.lengths) sides);
          leftmost = dots-back (leftmost_edges g (plain_marks s.places s.lengths) sides) ∙ same_edges;
          edges-written = (answer.where-placed z).edges;
        }

    -- the contract past the checks
    pub answered-right : SlideContract s g entry exit n
    answered-right =
        let misses = eleven-misses (slides_whole g (marks_of s)) n number_is in
        record {
          number_is = rw past number_is;
          none-exactly = λ _. (λ eleven. none-slides g (marks_of s) rise (misses.0 eleven), λ none. misses.1 (not-whole g (marks_of s) none));
          where-placed = placed;
          where-refused = answer.where-none;
          work-is = rw past answer.work-cleared;
        }
