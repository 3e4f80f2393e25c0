-- The reader meets its contract. Its number is that of the header's refusal, of list 9, or of the records' refusal, whichever comes first,
-- and a refusal leaves the lists as they were; else the lists hold the marks of the records.
use mathlib.Core.Path.{◌≡◌, refl, sym, ◌∙◌, ap}
use mathlib.Core.Bool.{true}
use mathlib.Core.List.{List}
use Prim.Native.Nat.{ℕ}
use lib.Dec.{leb}
use lib.IntN.{ℤ}
use lib.ListN.{drop}
use Rattle.std.specs.Prelude.{Result, Ok, Err, IsErrAnd}
use Rattle.geometry.specs.Strip.{Strip}
use Rattle.geometry.specs.declared.refusal.Refusal.{Refusal}
use Rattle.geometry.specs.declared.refusal.Refusal.TheVariants.{ListTooShort}
use Rattle.geometry.specs.Refusal.{accepted, refused, number_of, after_check}
use Rattle.job.specs.Outcome.{given, refusal, verdict_of}
use Rattle.job.specs.Format.{header_length}
use Rattle.job.specs.Decode.{header_of, decode_header, decode_records, decode}
use Rattle.job.specs.Calls.{ReadContract, read_answer, shortest, read_into, used_of}
use Rattle.job.specs.inner.Step.{Filled}
use Rattle.job.proofs.Outcomes.{accepted-given, check-refused, check-passed}
use Rattle.job.proofs.AllRecords.{count-marks}

-- from what was read of the header
module _ (lent : Strip) (job : List ℕ) where
  -- the header is refused
  pub header_refused : (r : Refusal) → decode_header job ≡ refusal r → read_into lent job ≡ refusal r
  unfolding decode
  header_refused r e = rw e refl

  -- the header is good: the lists are too short, or the records decide
  module _ (n : ℕ) (z : ℤ) (good : decode_header job ≡ given (header_of n z)) where
    pub lists-short : (r : Refusal) → refused r ≡ after_check (leb n (shortest lent)) ListTooShort accepted → read_into lent job ≡ refusal r
    unfolding decode
    lists-short r short = rw good (check-refused (leb n (shortest lent)) ListTooShort r _ short)

    pub records-left : accepted ≡ after_check (leb n (shortest lent)) ListTooShort accepted
        → read_into lent job ≡ decode_records n true z (drop header_length job)
    unfolding decode
    records-left enough = rw good (check-passed (leb n (shortest lent)) ListTooShort _ enough)

-- what a refusal leaves
pub refused-read : (job : List ℕ) (lent : Strip) (answer : Result ℕ Refusal) (r : Refusal) → IsErrAnd answer (λ e. e ≡ r)
    → read_into lent job ≡ refusal r → ReadContract job lent lent (read_answer answer)
refused-read job lent (Ok n) r same e = absurd same
refused-read job lent (Err q) r same e =
    record {
      number_is = rw (e, same) refl;
      count-is = rw e refl;
      places-are = rw e refl;
      lengths-are = rw e refl;
      weights-are = rw e refl;
    }

-- as many marks are used as the header counts
used-count : (n : ℕ) (z : ℤ) (bs : List ℕ) → verdict_of (decode_records n true z bs) ≡ accepted
    → n ≡ used_of (λ s. s.places) (decode_records n true z bs)
used-count n z bs acc =
    let g = accepted-given (decode_records n true z bs) acc in
    rw g.is (sym (count-marks n true z bs g.value g.is).places_count)

-- what an accepted call leaves
pub accepted-read : (job : List ℕ) (entry exit : Strip) (n : ℕ) (z : ℤ) (bs : List ℕ) → read_into entry job ≡ decode_records n true z bs
    → verdict_of (decode_records n true z bs) ≡ accepted → Filled (decode_records n true z bs) entry exit
    → ReadContract job entry exit (read_answer (Ok n))
accepted-read job entry exit n z bs e acc f =
    record {
      number_is = sym (ap number_of (ap verdict_of e ∙ acc));
      count-is = rw e (used-count n z bs acc);
      places-are = rw e f.places-are;
      lengths-are = rw e f.lengths-are;
      weights-are = rw e f.weights-are;
    }
