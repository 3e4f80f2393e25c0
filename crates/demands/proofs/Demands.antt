-- The three demands, proved. What the checks refuse is in Refusals; what holds past them is what FullNumber, BestAndFull and TripsByContracts
-- say of the calls, and what geometry's theorems say of the definitions.
use mathlib.Core.Path.{◌≡◌}
use mathlib.Core.Bool.{Bool, true, false}
use mathlib.Core.Logic.{◌⊎◌, inl, inr}
use Prim.Native.Nat.{ℕ}
use native.Mathlib.Omega.{arith}
use Rattle.geometry.specs.Strip.{marks_of}
use Rattle.geometry.specs.Sliding.{slides_whole}
use Rattle.geometry.specs.Refusal.{refusal_number, accepted, number_of}
use Rattle.geometry.specs.declared.refusal.Refusal.TheVariants.{NoPlacing}
use Rattle.geometry.proofs.TwoUnbeaten.{at-most-two-unbeaten, fitting-begins-unbeaten}
use Rattle.slide.specs.Slide.{slide_verdict}
use Rattle.demands.specs.Demands.{Demand1, Demand2, Demand3}
use Rattle.demands.proofs.Refusals.{full-refused, slide-refused, best-refused}
use Rattle.demands.proofs.FullNumber.{answers, first-placed, none-listed, none-exactly}
use Rattle.demands.proofs.BestAndFull.{best-chosen, best-and-full}
use Rattle.demands.proofs.TripsByContracts.{not-read, strip-read, not_written, job-written, job-back, strip-back}

-- the number of the slide pass past its checks
pub slide-zero-or-11 : (slides : Bool) (n : ℕ) → n ≡ number_of (slide_verdict accepted slides) → (n ≡ 0) ⊎ (n ≡ refusal_number NoPlacing)
slide-zero-or-11 true n e = inl e
slide-zero-or-11 false n e = inr e

-- what document 01 says of refusals and of lent memory, call by call
pub demand-1 : Demand1
demand-1 =
    record {
      full_refuses = λ s gap lent left number r. full-refused s gap r lent left number;
      full-answers = answers;
      full-at-11 = λ s gap lent left number call _ eleven. none-listed s gap lent left number call eleven;
      full-clears = λ s gap lent left number call e. rw e at call.work-is;
      slide-refuses = λ s gap lent left number r. slide-refused s gap r lent left number;
      slide-answers = λ s gap lent left number call e. slide-zero-or-11 (slides_whole gap (marks_of s)) number (rw e at call.number_is);
      slide-at-11 = λ s gap lent left number call e eleven.
          let same = call.where-refused (λ zero. omega arith) in
          (same.sides-unchanged, same.edges-unchanged);
      slide-clears = λ s gap lent left number call e. rw e at call.work-is;
      best-refuses = λ s gap lent left answer r. best-refused s gap r lent left answer;
      best-clears = λ s gap lent left answer call e. (rw e at call.number_is, (call.where-accepted e).work-cleared);
      read-refuses = λ job lent left answer r call. not-read job lent left answer call r;
      read-answers = λ job lent left answer s call. strip-read job lent left answer call s;
      write-refuses = λ s lent left answer r call. not_written s lent left answer call r;
      write-answers = λ s lent left answer job call. job-written s lent left answer call job;
    }

-- placings where there are any, and the round trips
pub demand-2 : Demand2
demand-2 =
    record {
      full-places = first-placed;
      full-none-exactly = none-exactly;
      slide-places = λ s gap lent left number call. call.where-placed;
      slide-none-exactly = λ s gap lent left number call. call.none-exactly;
      job-there-and-back = λ job lent left read output copy made bytes call zero write.
          job-back job bytes lent left read call zero output copy made write;
      strip-there-and-back = λ s output job made lent left read call zero reading.
          strip-back s output job made call zero lent left read reading;
    }

-- the best pass, alone and against the full pass, and the unbeaten part layouts
pub demand-3 : Demand3
demand-3 =
    record {
      best-chooses = best-chosen;
      best-labels-all-where-full-fits = λ s gap lent left answer full_entry full_exit number call zero full-call passed.
          best-and-full s gap lent left answer call zero full_entry full_exit number full-call passed;
      at-most-two-unbeaten = λ s gap k good one few. at-most-two-unbeaten s good gap k few one;
      begins-unbeaten = λ s gap k good few ps placed. fitting-begins-unbeaten s good gap k few ps placed;
    }
