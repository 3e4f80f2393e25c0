-- Why halving finds a smallest run. The marks of a run are a run of the marks, and a run within a run is a run of it. What places marks places
-- a run of them (geometry's Runs), so a run is given no greater number than its strip, and a run within a run no greater one than that. Each
-- number is 0 or 11, and the rest is arithmetic. A run of no marks gives 0; so where all marks give 11, of the beginnings one gives 11 while the
-- one before it gives 0, and of that one's ends, taken from the shortest on, the same is true: these are the two ends of a smallest run.
use mathlib.Core.Path.{◌≡◌, refl, sym, ◌∙◌}
use mathlib.Core.Logic.{◌⊎◌, ⊎_elim}
use mathlib.Core.List.{List, []}
use Prim.Native.Nat.{ℕ, zero, suc, ◌-◌, ◌+◌, ◌≤◌, ◌<◌}
use native.Mathlib.Omega.{arith}
use lib.ListN.{length, take, drop, length-take, drop_of_length-le}
use lib.Seq.{take-take, take-length, drop-nil}
use Rattle.std.proofs.lemmas.List.{drop-drop, drop-take}
use Rattle.geometry.specs.Mark.{Mark}
use Rattle.geometry.specs.Strip.{Strip, marks_of, most_marks}
use Rattle.geometry.specs.Refusal.{refusal_number}
use Rattle.geometry.specs.declared.refusal.Refusal.TheVariants.{NoPlacing}
use Rattle.geometry.specs.inner.Rising.{Rising}
use Rattle.geometry.proofs.Split.{lt-or-ge}
use Rattle.geometry.proofs.Accepted.{Accepted, length-marks, accepted-rising}
use Rattle.geometry.proofs.AcceptedRun.{accepted-run}
use Rattle.geometry.proofs.Runs.{run-listed}
use Rattle.demands.specs.Runs.{from_to, run_of, HasSmallest, RunsFit}

-- the marks of a run are a run of the marks
marks-of-run : (i j : ℕ) (s : Strip) → marks_of (run_of i j s) ≡ from_to i j (marks_of s)
unfolding run_of
marks-of-run i j s = run-listed (i - 1) j s.places s.lengths s.weights

-- and a run within another is a run of that
within : {A : Type 0} (a b c d : ℕ) (xs : List A) → a ≤ c → d ≤ b → drop c (take d xs) ≡ drop (c - a) (take (d - a) (drop a (take b xs)))
within a b c d xs h k =
    ⊎_elim
    (λ less.
    let none_left : drop c (take d xs) ≡ [] = drop_of_length-le (take d xs) (omega (arith, length-take d xs)) in
    let no_room : d - a ≡ 0 = omega (arith, less) in
    rw (none_left, no_room) (sym (drop-nil (c - a))))
    (λ some_left.
    let to-d : a + (d - a) ≡ d = omega (arith, some_left) in
    let to-c : a + (c - a) ≡ c = omega (arith, h) in
    rw (sym (drop-take a (d - a) (take b xs)), to-d, take-take d b xs k, drop-drop (c - a) a (take d xs), to-c) refl)
    (lt-or-ge d a)

-- among numbers that are each 0 or 11, from a first 0 to a last 11, there is an 11 right behind a 0
record Turn (f : ℕ → ℕ) (n : ℕ) : Type 0 where
  k : ℕ
  from-1 : 1 ≤ k
  to-n : k ≤ n
  before : f (k - 1) ≡ 0
  here : f k ≡ refusal_number NoPlacing

turns : (f : ℕ → ℕ) → ((k : ℕ) → (f k ≡ 0) ⊎ (f k ≡ refusal_number NoPlacing)) → (n : ℕ) → f 0 ≡ 0
    → f n ≡ refusal_number NoPlacing
    → Turn f n
turns f each zero first last = absurd (omega (arith, first, last))
turns f each (suc n) first last =
    let previous : suc n - 1 ≡ n = omega arith in
    ⊎_elim
    (λ zero. record { k = suc n; from-1 = omega arith; to-n = omega arith; before = rw previous zero; here = last })
    (λ eleven.
    let t = turns f each n first eleven in
    record { k = t.k; from-1 = t.from-1; to-n = omega (arith, t.to-n); before = t.before; here = t.here })
    (each n)

-- a number for each list of marks: 0 or 11, 0 for no marks, and for a run no greater than for the marks
module _ (number : List Mark → ℕ) (each : (ms : List Mark) → (number ms ≡ 0) ⊎ (number ms ≡ refusal_number NoPlacing)) (none : number [] ≡ 0)
    (less : (i j : ℕ) (ms : List Mark) → Rising (drop i (take j ms)) → number (drop i (take j ms)) ≤ number ms)
    (s : Strip) (good : Accepted most_marks s) where
  -- that of marks i to j
  abbrev of : ℕ → ℕ → ℕ
  of i j = number (marks_of (run_of i j s))

  -- the runs of the strip rise
  rises : (i j : ℕ) → Rising (from_to i j (marks_of s))
  unfolding run_of
  rises i j = rw (sym (marks-of-run i j s)) (accepted-rising most_marks (run_of i j s) (accepted-run most_marks (i - 1) j s good))

  run-less : (i j : ℕ) → of i j ≤ number (marks_of s)
  run-less i j = rw (marks-of-run i j s) (less (i - 1) j (marks_of s) (rises i j))

  within-less : (i j k l : ℕ) → i ≤ k → l ≤ j → of k l ≤ of i j
  within-less i j k l h e =
      let same = within (i - 1) j (k - 1) l (marks_of s) (omega (arith, h)) e in
      rw (marks-of-run k l s, marks-of-run i j s, same)
      (less (k - 1 - (i - 1)) (l - (i - 1)) (from_to i j (marks_of s)) (rw (sym same) (rises k l)))

  -- a run of no marks gives 0, and one of all marks what the strip does
  no-run : (i j : ℕ) → j < i → of i j ≡ 0
  no-run i j h =
      let nothing : from_to i j (marks_of s) ≡ [] = drop_of_length-le (take j (marks_of s)) (omega (arith, length-take j (marks_of s))) in
      rw (marks-of-run i j s, nothing) none

  whole-run : of 1 (length s.places) ≡ number (marks_of s)
  whole-run = rw (marks-of-run 1 (length s.places) s, sym (length-marks s good.same-lengths good.same-weights), take-length (marks_of s)) refl

  -- so of the beginnings one is the first to give 11, and of its ends, from the shortest on, one is too
  first-end : number (marks_of s) ≡ refusal_number NoPlacing → Turn (λ j. of 1 j) (length s.places)
  first-end fails = turns (λ j. of 1 j) (λ j. each (marks_of (run_of 1 j s))) (length s.places) (no-run 1 0 (omega arith)) (whole-run ∙ fails)

  last-begin : (j : ℕ) → of 1 j ≡ refusal_number NoPlacing → Turn (λ k. of (j + 1 - k) j) j
  last-begin j fails =
      let one : j + 1 - j ≡ 1 = omega arith in
      turns (λ k. of (j + 1 - k) j) (λ k. each (marks_of (run_of (j + 1 - k) j s))) j (no-run (j + 1 - 0) j (omega arith)) (rw one fails)

  -- from that mark to that end it is a smallest run
  smallest : number (marks_of s) ≡ refusal_number NoPlacing → HasSmallest (λ t. number (marks_of t)) s
  smallest fails =
      let first = first-end fails in
      let last = last-begin first.k first.here in
      let i = first.k + 1 - last.k in
      let next : first.k + 1 - (last.k - 1) ≡ i + 1 = omega (arith, last.from-1, last.to-n) in
      let above-0 : 1 ≤ i = omega (arith, last.to-n) in
      record {
        i = i;
        j = first.k;
        from-1 = above-0;
        in-order = omega (arith, last.from-1);
        to-last = first.to-n;
        smallest = record {
          gives-11 = last.here;
          without-first = rw next at last.before;
          without-last = omega (arith, within-less 1 (first.k - 1) i (first.k - 1) above-0 (omega arith), first.before);
        };
      }

  -- all of it is arithmetic
  pub fit : RunsFit (λ t. number (marks_of t)) s
  fit =
      record {
        run-fits = λ i j fits. omega (arith, run-less i j, fits);
        run-fails = λ i j fails. ⊎_elim (λ zero. absurd (omega (arith, run-less i j, fails, zero))) (λ eleven. eleven) (each (marks_of s));
        within-fits = λ i j k l h e fits. omega (arith, within-less i j k l h e, fits);
        found = λ i j h before fails behind.
            record {
              gives-11 = omega (arith, fails);
              without-first = omega (arith, behind);
              without-last = omega (arith, within-less 1 (j - 1) i (j - 1) h (omega arith), before);
            };
        no-marks = no-run;
        ends-first = λ j k l h before least.
            ⊎_elim
            (λ sooner. absurd (omega (arith, within-less 1 (j - 1) k l h (omega (arith, sooner)), before, least.gives-11)))
            (λ not_sooner. omega (arith, not_sooner))
            (lt-or-ge l j);
        some-smallest = smallest;
        smaller-fits = λ i j k l least h e other.
            ⊎_elim
            (λ later. omega (arith, within-less (i + 1) j k l (omega (arith, later)) e, least.without-first))
            (λ sooner. omega (arith, within-less i (j - 1) k l h (omega (arith, sooner)), least.without-last))
            other;
      }
