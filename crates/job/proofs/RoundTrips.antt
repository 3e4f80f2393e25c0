-- Both round trips, about the definitions that the contracts of `read` and `write` cite; and "each list of marks has one job".
-- A strip that the writer takes follows mark by mark, so its records are read back behind its header. A job that the reader takes has a
-- header and records that are written with the same bytes, and its marks follow one another, so the writer takes them.
use mathlib.Core.Path.{◌≡◌, refl, sym, ◌∙◌, ap}
use mathlib.Core.Bool.{true, not, ◌||◌}
use mathlib.Core.List.{List, [], ◌∷◌}
use Prim.Native.Nat.{ℕ, ◌≤◌, ◌<◌}
use native.Mathlib.Omega.{arith}
use borrow.Author.Tests.{le-leb, lt-leb, eq-eqb}
use lib.Dec.{leb, eqb}
use lib.IntN.{ℤ}
use lib.ListN.{length, drop}
use Rattle.geometry.specs.Mark.{place_in_range_lem}
use Rattle.geometry.specs.Strip.{Strip, most_marks}
use Rattle.geometry.specs.declared.refusal.Refusal.TheVariants.{ListTooShort}
use Rattle.geometry.specs.Refusal.{accepted}
use Rattle.geometry.specs.Entry.{entry}
use Rattle.geometry.proofs.Accepted.{entry-accepted, accepted-entry}
use Rattle.job.specs.Number.{Bytes}
use Rattle.job.specs.Outcome.{given, refusal, checked}
use Rattle.job.specs.Format.{header_length}
use Rattle.job.specs.Decode.{decode_records, zero_place, Header, decode_header, decode}
use Rattle.job.specs.Encode.{first_place_lem, records_of, encode, job_for}
use Rattle.job.proofs.Outcomes.{checked-given, then-given}
use Rattle.job.proofs.AllRecords.{count-marks}
use Rattle.job.proofs.WriteContract.{job-inverse, job-made}
use Rattle.job.proofs.MarksAfter.{MarksAfter, accepted-after, after-accepted}
use Rattle.job.proofs.WrittenRead.{records-back}
use Rattle.job.proofs.FieldsReadWritten.{bytes_drop}
use Rattle.job.proofs.ReadWritten.{RecordsBack, records-inverse}
use Rattle.job.proofs.HeaderTrips.{header-back, behind-header, HeaderBack, header-inverse, zero-place-is, header-same}

-- the first place of marks that follow one another is in range; with no marks it is 0
first-in-range : (z : ℤ) (zs : List ℤ) (ls ws : List ℕ) → MarksAfter true z zs ls ws → place_in_range_lem (first_place_lem zs) ≡ true
first-in-range z [] ls ws h = refl
first-in-range z (y ∷ zs) [] ws h = absurd h
first-in-range z (y ∷ zs) (l ∷ ls) [] h = absurd h
first-in-range z (y ∷ zs) (l ∷ ls) (w ∷ ws) h = h.0.place

-- a strip that the writer takes, written and read back, is the same strip
module _ (s : Strip) (good : entry most_marks s ≡ accepted) where
  -- its marks follow one another, from the header's place on
  after : MarksAfter true (first_place_lem s.places) s.places s.lengths s.weights
  after = accepted-after most_marks s (entry-accepted most_marks s good)

  fits : place_in_range_lem (first_place_lem s.places) ≡ true
  fits = first-in-range (first_place_lem s.places) s.places s.lengths s.weights after

  pub same-strip : (shortest : ℕ) → length s.places ≤ shortest → decode shortest (encode s) ≡ given s
  unfolding decode encode
  same-strip shortest enough =
      let few = (entry-accepted most_marks s good).few in
      rw (
        header-back s.places (records_of s) few fits,
        le-leb (length s.places) shortest enough,
        behind-header s.places (records_of s) few fits,
      ) (records-back true (first_place_lem s.places) s.places s.lengths s.weights fits after)

-- the header's place is the first mark's, or 0
first-is-header : (z : ℤ) (n : ℕ) (zs : List ℤ) (ls ws : List ℕ) → MarksAfter true z zs ls ws → n ≡ length zs
    → (not (eqb n 0) || zero_place z) ≡ true → first_place_lem zs ≡ z
first-is-header z n [] [] [] h k e = zero-place-is z (rw (eq-eqb n 0 k) at e)
first-is-header z n [] [] (w ∷ ws) h k e = absurd h
first-is-header z n [] (l ∷ ls) ws h k e = absurd h
first-is-header z n (y ∷ zs) [] ws h k e = absurd h
first-is-header z n (y ∷ zs) (l ∷ ls) [] h k e = absurd h
first-is-header z n (y ∷ zs) (l ∷ ls) (w ∷ ws) h k e = sym h.0.follows

-- a job that the reader takes
module _ (shortest : ℕ) (job : List ℕ) (s : Strip) (read : decode shortest job ≡ given s) where
  -- its header, and the records behind it
  record Parts : Type 0 where
    header : Header
    header-good : HeaderBack job header
    records : decode_records header.count true header.place (drop header_length job) ≡ given s

  -- it has them, since neither was refused
  parts : Parts
  unfolding decode
  parts =
      let p = then-given (decode_header job)
      (λ h. checked (leb h.count shortest) ListTooShort (decode_records h.count true h.place (drop header_length job))) s read in
      let h = p.first in
      let q = checked-given (leb h.count shortest) ListTooShort (decode_records h.count true h.place (drop header_length job)) s p.after in
      record { header = h; header-good = header-inverse job h p.is; records = q.after }

  -- the header counts the marks
  counted : parts.header.count ≡ length s.places
  counted = sym (count-marks parts.header.count true parts.header.place (drop header_length job) s parts.records).places_count

  module _ (bytes : Bytes job) where
    -- its records are written back with the same bytes, and the header's place is the first mark's
    back : RecordsBack true parts.header.place (drop header_length job) s
    back =
        records-inverse parts.header.count true parts.header.place (drop header_length job) s parts.header-good.in-range
        (bytes_drop header_length job bytes) parts.records

    first : first_place_lem s.places ≡ parts.header.place
    first =
        first-is-header parts.header.place parts.header.count s.places s.lengths s.weights back.marks-after counted
        parts.header-good.zero-at-none

    -- read and written back it has the same bytes
    pub same-job : encode s ≡ job
    unfolding encode
    same-job =
        let h = parts.header-good in
        rw (first, back.same_bytes) (header-same job s.places bytes h.whole (sym counted ∙ h.count-is) (first ∙ h.place_is))

    -- and the writer takes its marks
    pub read-accepted : entry most_marks s ≡ accepted
    read-accepted =
        accepted-entry most_marks s (omega arith)
        (after-accepted most_marks true parts.header.place s.places s.lengths s.weights (omega (arith, counted, parts.header-good.few))
        back.marks-after)

-- the same of what the two calls give: a job that `write` gives is read as the strip, and a strip that `read` gives is written as the job
pub written-then-read : (room shortest : ℕ) (s : Strip) (job : List ℕ) → job_for room s ≡ given job → length s.places ≤ shortest
    → decode shortest job ≡ given s
written-then-read room shortest s job e h =
    let m = job-inverse room s job e in
    rw (← m.bytes-are) (same-strip s m.writable shortest h)

pub read-then-written : (shortest room : ℕ) (job : List ℕ) (s : Strip) → Bytes job → decode shortest job ≡ given s → length job ≤ room
    → job_for room s ≡ given job
read-then-written shortest room job s bytes e h =
    let same = same-job shortest job s e bytes in
    job-made room s (read-accepted shortest job s e bytes) (rw same h) ∙ ap given same

-- a job that is read with enough room is refused 9 with less
pub read-too-short : (enough shortest : ℕ) (job : List ℕ) (s : Strip) → decode enough job ≡ given s → shortest < length s.places
    → decode shortest job ≡ refusal ListTooShort
unfolding decode
read-too-short enough shortest job s read h =
    let p = then-given (decode_header job)
    (λ h. checked (leb h.count enough) ListTooShort (decode_records h.count true h.place (drop header_length job))) s read in
    let q = checked-given (leb p.first.count enough) ListTooShort _ s p.after in
    let n = (count-marks p.first.count true p.first.place (drop header_length job) s q.after).places_count in
    rw (p.is, lt-leb p.first.count shortest (omega arith)) refl

-- "each list of marks has one job"
pub one-job : (shortest other : ℕ) (job copy : List ℕ) (s : Strip) → Bytes job → Bytes copy → decode shortest job ≡ given s
    → decode other copy ≡ given s → job ≡ copy
one-job shortest other job copy s b c e f = sym (same-job shortest job s e b) ∙ same-job other copy s f c
