-- The page on runs, proved for both passes. A placing of marks, or a sliding one, places their runs (geometry's Runs); so the number of either
-- pass is one of those of which SmallestRun proves the search, and it is what each call gives that is past its checks.
use mathlib.Core.Path.{◌≡◌, refl}
use mathlib.Core.Bool.{Bool, true, false}
use mathlib.Core.Logic.{⊎_elim}
use mathlib.Core.List.{List, []}
use mathlib.Core.Option.{Option, none, some}
use Prim.Native.Nat.{ℕ, ◌-◌, ◌≤◌}
use native.Mathlib.Omega.{arith}
use lib.ListN.{take, drop}
use Rattle.geometry.specs.Lists.{any_of, first_of, prefixed, words_of}
use Rattle.geometry.specs.Mark.{Mark, rising}
use Rattle.geometry.specs.Strip.{Strip, marks_of_lists, most_marks}
use Rattle.geometry.specs.Position.{Position}
use Rattle.geometry.specs.Overlap.{apart, free}
use Rattle.geometry.specs.Placing.{first_placing}
use Rattle.geometry.specs.Sliding.{edges_from, none_beyond, slides_whole}
use Rattle.geometry.specs.Refusal.{accepted, number_of, first_failure}
use Rattle.geometry.specs.Entry.{entry}
use Rattle.geometry.specs.Pass.{pass_verdict}
use Rattle.geometry.specs.inner.Rising.{Rising}
use Rattle.geometry.proofs.Accepted.{Accepted, entry-accepted, pass-accepted, accepted-entry, accept-pass}
use Rattle.geometry.proofs.AcceptedRun.{length-run, accepted-run}
use Rattle.geometry.proofs.Whole.{placing-found, found-placing}
use Rattle.geometry.proofs.Runs.{run-placed, run-slides}
use Rattle.geometry.proofs.Sliding.{slides-whole}
use Rattle.geometry.proofs.WholeEdges.{whole-slides}
use Rattle.full.specs.Full.{full_verdict}
use Rattle.slide.specs.Slide.{slide_verdict}
use Rattle.demands.specs.Runs.{run_of, Runs, Examples}
use Rattle.demands.proofs.SmallestRun.{fit}
use Rattle.demands.proofs.FullNumber.{zero-or-11}
use Rattle.demands.proofs.Demands.{slide-zero-or-11}

-- the full pass: a placing of the marks places a run of them
full-less : (o p : Option (List Position)) → ((ps : List Position) → o ≡ some ps → (qs : List Position) × (p ≡ some qs))
    → number_of (full_verdict accepted p) ≤ number_of (full_verdict accepted o)
full-less none p finds = ⊎_elim (λ zero. omega (arith, zero)) (λ eleven. omega (arith, eleven)) (zero-or-11 p _ refl)
full-less (some ps) p finds = rw (finds ps refl).1 (omega arith)

full-none : (g : ℕ) → number_of (full_verdict accepted (first_placing g [])) ≡ 0
unfolding first_placing first_of words_of free
full-none g = refl

run-found : (g i j : ℕ) (ms : List Mark) (ps : List Position) → first_placing g ms ≡ some ps
    → (qs : List Position) × (first_placing g (drop i (take j ms)) ≡ some qs)
run-found g i j ms ps found =
    let placed = run-placed g i j ms ps (found-placing g ms ps found) in
    placing-found g (drop i (take j ms)) (drop i (take j ps)) placed.is_free placed.labels-all

-- the slide pass: if the marks slide, a run of them does, and in whole dots, since it rises
slide-less : (t u : Bool) → (t ≡ true → u ≡ true) → number_of (slide_verdict accepted u) ≤ number_of (slide_verdict accepted t)
slide-less true u slides = rw (slides refl) (omega arith)
slide-less false true slides = omega arith
slide-less false false slides = omega arith

slide-none : (g : ℕ) → number_of (slide_verdict accepted (slides_whole g [])) ≡ 0
unfolding slides_whole any_of words_of none_beyond
slide-none g = refl

run-whole : (g i j : ℕ) (ms : List Mark) → Rising (drop i (take j ms)) → slides_whole g ms ≡ true → slides_whole g (drop i (take j ms)) ≡ true
run-whole g i j ms rise slides = slides-whole g 1 (drop i (take j ms)) (omega arith) rise (run-slides g 1 i j ms (whole-slides g ms slides))

-- a run passes the checks
module _ (limit i j : ℕ) (s : Strip) (few : limit ≤ most_marks) where
  run-enters : Accepted limit s → entry limit (run_of i j s) ≡ accepted
  unfolding run_of
  run-enters good = accepted-entry limit _ few (accepted-run limit (i - 1) j s good)

  run-passes : (gap shortest named lent : ℕ) → pass_verdict limit s gap shortest named lent ≡ accepted
      → pass_verdict limit (run_of i j s) gap shortest named lent ≡ accepted
  unfolding run_of
  run-passes gap shortest named lent e =
      let p = pass-accepted limit s gap shortest named lent e in
      let run_length = length-run (i - 1) j s.places in
      accept-pass limit _ gap shortest named lent (run-enters p.entered) p.gap-narrow (omega (arith, run_length, p.list-long)) p.work-long

pub runs : Runs
runs =
    record {
      marks-placed = λ g i j. run-placed g (i - 1) j;
      marks-slide = λ g n i j. run-slides g n (i - 1) j;
      full-runs = λ gap s e.
          fit (λ ms. number_of (full_verdict accepted (first_placing gap ms))) (λ ms. zero-or-11 (first_placing gap ms) _ refl) (full-none gap)
          (λ i j ms _. full-less (first_placing gap ms) (first_placing gap (drop i (take j ms))) (run-found gap i j ms))
          s
          (entry-accepted most_marks s e);
      slide-runs = λ gap s e.
          fit (λ ms. number_of (slide_verdict accepted (slides_whole gap ms))) (λ ms. slide-zero-or-11 (slides_whole gap ms) _ refl) (slide-none gap)
          (λ i j ms rise. slide-less (slides_whole gap ms) (slides_whole gap (drop i (take j ms))) (run-whole gap i j ms rise))
          s
          (entry-accepted most_marks s e);
      full-gives = λ s gap lent left number call e. rw e at call.number_is;
      slide-gives = λ s gap lent left number call e. rw e at call.number_is;
      run-accepted = λ limit i j s few e. run-enters limit i j s few (entry-accepted limit s e);
      run-passes = λ limit i j s gap shortest named lent few. run-passes limit i j s few gap shortest named lent;
    }

-- the examples, computed
pub examples : Examples
unfolding run_of entry first_failure rising first_placing first_of prefixed words_of marks_of_lists apart free slides_whole any_of edges_from none_beyond
examples =
    record {
      whole-full = record { good = refl; smallest = record { gives-11 = refl; without-first = refl; without-last = refl } };
      whole-slide = record { good = refl; smallest = record { gives-11 = refl; without-first = refl; without-last = refl } };
      inner-full = record { good = refl; smallest = record { gives-11 = refl; without-first = refl; without-last = refl } };
      inner-slide = record { good = refl; smallest = record { gives-11 = refl; without-first = refl; without-last = refl } };
    }
