-- The records of a strip, written one a turn, are all its records: those from a mark on are the mark's own record and those from the next
-- mark on. So what was put and what is to come stay together the whole, in bytes and in length, and room for the whole is room for each.
use mathlib.Core.Path.{◌≡◌, refl, sym, ◌∙◌, ap}
use mathlib.Core.List.{List, [], ◌++◌}
use Prim.Native.Nat.{ℕ, suc, ◌+◌, ◌-◌, ◌≤◌, ◌<◌}
use native.Mathlib.Numerals.{add-one}
use native.Mathlib.Omega.{arith}
use borrow.Author.Tests.{ne_eqb}
use lib.Dec.{eqb}
use lib.IntN.{ℤ, pos}
use lib.ListN.{length, get_or, drop, length-append}
use lib.Seq.{drop-cons, drop-length, sets}
use Rattle.geometry.specs.Strip.{Strip, most_marks}
use Rattle.geometry.proofs.Accepted.{entry-accepted}
use Rattle.job.specs.Number.{bytes_of, word_of}
use Rattle.job.specs.Format.{word_width, header_length}
use Rattle.job.specs.Encode.{encode_records, first_place_lem, header_bytes, records_of, encode}
use Rattle.job.specs.inner.Put.{PutAt, Writable, bytes_of_record, RecordOf}
use Rattle.job.specs.declared.marks.Record.{Record}
use Rattle.job.proofs.Numbers.{bytes-length}
use Rattle.job.proofs.StoredMarks.{stores-append}
use Rattle.job.proofs.PutBytes.{put-length}

-- the records from mark i on
abbrev pub records_from : Strip → ℕ → List ℕ
records_from s i = encode_records (eqb i 0) (get_or s.places (i - 1) (pos 0)) (drop i s.places) (drop i s.lengths) (drop i s.weights)

-- behind the last mark there is none
pub none_from : (s : Strip) (i : ℕ) → i ≡ length s.places → records_from s i ≡ []
unfolding encode_records
none_from s i e = rw (e, drop-length s.places) refl

-- an output that held `old` and holds `cur`; the records from mark i on are to be put at a position
pub record Putting (s : Strip) (i : ℕ) (old cur : List ℕ) (at : ℕ) : Type 0 where
  pub as_long : length cur ≡ length old
  pub room : at + length (records_from s i) ≤ length old
  pub stores : sets old header_length (records_of s) ≡ sets cur at (records_from s i)

-- when none is to come the output holds all records behind the header
pub putting-ends : (s : Strip) (i : ℕ) (old cur : List ℕ) (at : ℕ) → i ≡ length s.places → Putting s i old cur at
    → cur ≡ sets old header_length (records_of s)
putting-ends s i old cur at e p = sym (rw (none_from s i e) at p.stores)

-- the header's 4 bytes and the records
pub header-size : (places : List ℤ) → length (header_bytes places) ≡ header_length
unfolding header_bytes
header-size places =
    rw (
      length-append (bytes_of word_width (length places)) (bytes_of word_width (word_of (first_place_lem places))),
      bytes-length word_width (length places),
      bytes-length word_width (word_of (first_place_lem places)),
    ) refl

pub encode-size : (s : Strip) → length (encode s) ≡ header_length + length (records_of s)
unfolding encode
encode-size s = length-append (header_bytes s.places) (records_of s) ∙ ap (λ (n : ℕ). n + length (records_of s)) (header-size s.places)

module _ (s : Strip) (good : Writable s) (i : ℕ) (more : i < length s.places) (r : Record) (own : RecordOf s i r) where
  -- those from a mark on are its own record and those from the next mark on
  one_more : records_from s i ≡ bytes_of_record r ++ records_from s (i + 1)
  unfolding encode_records
  one_more =
      let a = entry-accepted most_marks s good in
      let in_lengths : i < length s.lengths = omega arith in
      let in_weights : i < length s.weights = omega arith in
      let back : suc i - 1 ≡ i = omega arith in
      rw (
        own.step_is,
        own.length-is,
        own.weight_is,
        ne_eqb (i + 1) 0 (omega arith),
        add-one,
        back,
        drop-cons s.places i (pos 0) more,
        drop-cons s.lengths i 0 in_lengths,
        drop-cons s.weights i 0 in_weights,
      ) refl

  -- and so are their lengths
  sizes : length (records_from s i) ≡ length (bytes_of_record r) + length (records_from s (i + 1))
  sizes = ap length one_more ∙ length-append (bytes_of_record r) (records_from s (i + 1))

  -- the length so far and that of the records to come are together the whole
  pub size-next : (total size : ℕ) → header_length + length (records_of s) ≡ total + length (records_from s i) → size ≡ length (bytes_of_record r)
      → header_length + length (records_of s) ≡ total + size + length (records_from s (i + 1))
  size-next total size h k = omega (arith, sizes)

  -- what was put and what is to come are together the whole
  pub putting-next : {old cur new : List ℕ} {at next : ℕ} → Putting s i old cur at → PutAt cur at (bytes_of_record r) next new
      → Putting s (i + 1) old new next
  putting-next {old} {cur} {new} {at} {next} p put =
      record {
        as_long = put-length put ∙ p.as_long;
        room = omega (arith, p.room, sizes, put.next-is);
        stores = p.stores ∙ rw (one_more, put.job_is, put.next-is) (stores-append (bytes_of_record r) (records_from s (i + 1)) cur at);
      }

  -- the record at hand has room
  pub own_room : {old cur : List ℕ} {at : ℕ} → Putting s i old cur at → at + length (bytes_of_record r) ≤ length cur
  own_room p = omega (arith, p.as_long, p.room, sizes)
