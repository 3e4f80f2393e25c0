-- Both trips meet their contracts, by what the first call answers: where it refuses, the second is not made and nothing is changed; where
-- it accepts, the second call's contract is about what the first one left, and the laws of the round trips apply.
use mathlib.Core.Path.{◌≡◌, refl}
use mathlib.Core.List.{List}
use Prim.Native.Nat.{ℕ}
use lib.ListN.{take}
use Rattle.geometry.specs.Strip.{Strip, first_marks}
use Rattle.job.specs.Number.{Bytes}
use Rattle.job.specs.Calls.{Read, Written, ReadContract, WriteContract}
use Rattle.demands.specs.Trips.{JobThereAndBack, MarksThereAndBack}
use Rattle.demands.proofs.TripsByContracts.{job-back, too-long-back, strip-back, too-short-back}

-- a job that is read, and written back
module _ {job : List ℕ} {lent left : Strip} (read : Read) (call : ReadContract job lent left read) {output : List ℕ} where
  -- the reader refuses, so the output is unchanged
  pub reader-refuses : (read.number ≡ 0 → ⊥)
      → JobThereAndBack job lent left output output
      (record { read = read.number; written = read.number; count = read.count; length = 0 })
  reader-refuses nonzero =
      record {
        read-ran = call;
        where-refused = λ _. record { number_is = refl; length-zero = refl; unchanged = refl };
        where-too-long = λ zero. absurd (nonzero zero);
        there_and_back = λ zero. absurd (nonzero zero);
      }

  -- the reader accepts, and the writer is given what it left
  pub reader-accepts : {copy : List ℕ} (made : Written) → Bytes job → read.number ≡ 0
      → WriteContract (first_marks read.count left) output copy made
      → JobThereAndBack job lent left output copy
      (record { read = read.number; written = made.number; count = read.count; length = made.length })
  reader-accepts {copy} made bytes zero write =
      record {
        read-ran = call;
        where-refused = λ nonzero. absurd (nonzero zero);
        where-too-long = λ _. too-long-back job bytes lent left read call zero output copy made write;
        there_and_back = λ _. job-back job bytes lent left read call zero output copy made write;
      }

-- a strip that is written, and read back
module _ {s : Strip} {output job : List ℕ} (made : Written) (call : WriteContract s output job made) {lent : Strip} where
  -- the writer refuses, so the lent lists are unchanged
  pub writer-refuses : (made.number ≡ 0 → ⊥)
      → MarksThereAndBack s output job lent lent
      (record { read = made.number; written = made.number; count = 0; length = made.length })
  writer-refuses nonzero =
      record {
        write-ran = call;
        where-refused = λ _. record { number_is = refl; count-zero = refl; unchanged = refl };
        where-too-short = λ zero. absurd (nonzero zero);
        there_and_back = λ zero. absurd (nonzero zero);
      }

  -- the writer accepts, and the reader is given what it left
  pub writer-accepts : {left : Strip} (read : Read) → made.number ≡ 0 → ReadContract (take made.length job) lent left read
      → MarksThereAndBack s output job lent left
      (record { read = read.number; written = made.number; count = read.count; length = made.length })
  writer-accepts {left} read zero reading =
      record {
        write-ran = call;
        where-refused = λ nonzero. absurd (nonzero zero);
        where-too-short = λ _. too-short-back s output job made call zero lent left read reading;
        there_and_back = λ _. strip-back s output job made call zero lent left read reading;
      }
