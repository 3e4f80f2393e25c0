-- The writer meets its contract. Its number is that of the checks on entry, or 9 if the job is longer than the output, and a refusal leaves
-- the output as it was; else the header's two words and the records are put one after the other, which is the whole job.
use mathlib.Core.Path.{◌≡◌, refl, sym, ◌∙◌, ap}
use mathlib.Core.List.{List}
use Prim.Native.Nat.{ℕ, ◌≤◌}
use native.Mathlib.Omega.{arith}
use borrow.Author.Tests.{leb-true, le-leb}
use lib.Dec.{leb}
use lib.IntN.{ℤ}
use lib.ListN.{length}
use lib.Seq.{sets}
use Rattle.geometry.specs.Strip.{Strip, most_marks}
use Rattle.geometry.specs.declared.refusal.Refusal.TheVariants.{ListTooShort}
use Rattle.geometry.specs.Refusal.{Verdict, accepted, refused, number_of, after_check}
use Rattle.geometry.specs.declared.refusal.Refusal.{Refusal}
use Rattle.geometry.proofs.Verdicts.{refusal-positive}
use Rattle.std.specs.Prelude.{Result, Ok, Err, IsErrAnd}
use Rattle.geometry.specs.Entry.{entry}
use Rattle.job.specs.Number.{bytes_of, word_of}
use Rattle.job.specs.Outcome.{Outcome, given, refusal, checked}
use Rattle.job.specs.Format.{word_width, header_length}
use Rattle.job.specs.Encode.{first_place_lem, header_bytes, records_of, encode, after_entry, job_for}
use Rattle.job.specs.Calls.{WriteContract, written_answer}
use Rattle.job.specs.inner.Put.{Writable}
use Rattle.job.proofs.Outcomes.{never, given-same, checked-given, check-refused}
use Rattle.job.proofs.Numbers.{bytes-length}
use Rattle.job.proofs.StoredMarks.{stores-append, stores-written}
use Rattle.job.proofs.RecordsToWrite.{header-size}

-- a refusal on entry is the writer's
after-refused : {A : Type 0} (r : Refusal) (v : Verdict) (o : Outcome A) → refused r ≡ v → after_entry v o ≡ refusal r
after-refused r accepted o e = absurd (refusal-positive r (ap number_of e))
after-refused r (refused q) o e = let same : r ≡ q = cc in ap (λ (r : Refusal). refusal r) (sym same)

module _ (room : ℕ) (s : Strip) where
  -- the three outcomes of the writer: refused on entry, refused 9, or the job
  pub entry-refused : (r : Refusal) → refused r ≡ entry most_marks s → job_for room s ≡ refusal r
  unfolding job_for
  entry-refused r e = after-refused r (entry most_marks s) _ e

  pub job-too-long : (r : Refusal) → Writable s → refused r ≡ after_check (leb (length (encode s)) room) ListTooShort accepted
      → job_for room s ≡ refusal r
  unfolding job_for
  job-too-long r e h = rw e (check-refused (leb (length (encode s)) room) ListTooShort r _ h)

  pub job-made : Writable s → length (encode s) ≤ room → job_for room s ≡ given (encode s)
  unfolding job_for
  job-made e h = rw (e, le-leb (length (encode s)) room h) refl

-- what a refusal leaves
pub refused-write : (s : Strip) (old : List ℕ) (answer : Result ℕ Refusal) (r : Refusal) → IsErrAnd answer (λ e. e ≡ r)
    → job_for (length old) s ≡ refusal r → WriteContract s old old (written_answer answer)
refused-write s old (Ok n) r same e = absurd same
refused-write s old (Err q) r same e = record { number_is = rw (e, same) refl; length-is = rw e refl; job_is = rw e refl }

-- what an accepted call leaves
pub accepted-write : (s : Strip) (old new : List ℕ) (n : ℕ) → Writable s → n ≡ length (encode s) → n ≤ length old
    → new ≡ sets old 0 (encode s)
    → WriteContract s old new (written_answer (Ok n))
accepted-write s old new n good e h j =
    let made = job-made (length old) s good (omega arith) in
    record { number_is = rw made refl; length-is = rw made e; job_is = rw made (j ∙ stores-written (encode s) old (omega arith)) }

-- the header's two words, put one after the other, and then the records
pub header-stores : (places : List ℤ) (old one two : List ℕ) (word : ℕ) → word ≡ word_of (first_place_lem places)
    → one ≡ sets old 0 (bytes_of word_width (length places)) → two ≡ sets one word_width (bytes_of word_width word)
    → two ≡ sets old 0 (header_bytes places)
unfolding header_bytes
header-stores places old one two word w p q =
    let count = bytes_of word_width (length places) in
    q ∙ sym (stores-append count (bytes_of word_width (word_of (first_place_lem places))) old 0 ∙ rw (bytes-length word_width (length places), p, w) refl)

pub job-stores : (s : Strip) (old one two : List ℕ) → one ≡ sets old 0 (header_bytes s.places) → two ≡ sets one header_length (records_of s)
    → two ≡ sets old 0 (encode s)
unfolding encode
job-stores s old one two p q = q ∙ sym (stores-append (header_bytes s.places) (records_of s) old 0 ∙ rw (header-size s.places, p) refl)

-- a job that is given was accepted on entry
after-given : {A : Type 0} (v : Verdict) (o : Outcome A) (a : A) → after_entry v o ≡ given a → (v ≡ accepted) × (o ≡ given a)
after-given accepted o a e = (refl, e)
after-given (refused r) o a e = never r a e

-- a job that is given comes from a strip that the writer takes, is its job, and has room
pub record Made (room : ℕ) (s : Strip) (job : List ℕ) : Type 0 where
  pub writable : Writable s
  pub bytes-are : encode s ≡ job
  pub enough : length job ≤ room

pub job-inverse : (room : ℕ) (s : Strip) (job : List ℕ) → job_for room s ≡ given job → Made room s job
unfolding job_for
job-inverse room s job e =
    let p = after-given (entry most_marks s) (checked (leb (length (encode s)) room) ListTooShort (given (encode s))) job e in
    let q = checked-given (leb (length (encode s)) room) ListTooShort (given (encode s)) job p.1 in
    let same = given-same q.after in
    record { writable = p.0; bytes-are = same; enough = rw same at (leb-true (length (encode s)) room q.passes) }
