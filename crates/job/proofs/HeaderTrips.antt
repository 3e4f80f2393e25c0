-- The header, written and read back, is the same count and place; read and written back, it is the same bytes.
-- Its two words are read as the numbers that were written: the count, at most 4,000, and the first place, in range, as two's complement.
-- Of no marks the writer writes place 0, and the reader takes no other there, so the bytes are decided by the strip in this case too.
use mathlib.Core.Path.{◌≡◌, refl, sym, ◌∙◌, ap}
use mathlib.Core.Bool.{true, not, ◌&&◌, ◌||◌}
use mathlib.Core.List.{List, [], ◌∷◌, ◌++◌}
use Prim.Native.Nat.{ℕ, ◌≤◌, ◌<◌}
use native.Mathlib.Omega.{arith}
use borrow.Author.Tests.{leb-true, le-leb, ne_eqb}
use lib.Dec.{leb, eqb}
use lib.IntN.{ℤ, pos, negsuc}
use lib.ListN.{length, drop, length-append}
use lib.Seq.{drop_at}
use Rattle.geometry.specs.Mark.{place_in_range_lem}
use Rattle.geometry.specs.Strip.{most_marks}
use Rattle.geometry.specs.declared.refusal.Refusal.TheVariants.{BytesEnd, OutOfRange}
use Rattle.geometry.proofs.Split.{and-fst, and-snd}
use Rattle.geometry.proofs.Dots.{range-mag}
use Rattle.job.specs.Number.{big_endian, signed, word_of, Bytes}
use Rattle.job.specs.Outcome.{Outcome, given, checked}
use Rattle.job.specs.Format.{header_length}
use Rattle.job.specs.Decode.{header_count, header_place, zero_place, Header, header_of, header_in_range_lem, decode_header}
use Rattle.job.specs.Encode.{first_place_lem, header_bytes}
use Rattle.job.proofs.Numbers.{two_bytes, bytes-two, back-two, same-two}
use Rattle.job.proofs.SignedWords.{signed_word, word-signed, word_fits}
use Rattle.job.proofs.Outcomes.{checked-given, given-same}
use Rattle.job.proofs.RecordsToWrite.{header-size}

-- the first place of no marks is 0, as the reader wants it
zero-if-none : (places : List ℤ) → (not (eqb (length places) 0) || zero_place (first_place_lem places)) ≡ true
zero-if-none [] = refl
zero-if-none (z ∷ zs) = rw (ne_eqb (length (z ∷ zs)) 0 (omega arith)) refl

-- written and read back, with some bytes behind it
module _ (places : List ℤ) (rest : List ℕ) (few : length places ≤ most_marks) (fits : place_in_range_lem (first_place_lem places) ≡ true) where
  -- the header and what stands behind it
  abbrev bytes : List ℕ
  bytes = header_bytes places ++ rest

  -- the two words, the header as a whole, and the bytes behind it
  count-back : header_count bytes ≡ length places
  unfolding header_bytes
  count-back = rw (bytes-two (length places)) (ap big_endian (sym (bytes-two (length places))) ∙ back-two (length places) (omega arith))

  place-back : header_place bytes ≡ first_place_lem places
  unfolding header_bytes
  place-back =
      let word = word_of (first_place_lem places) in
      let small = range-mag (first_place_lem places) fits in
      rw (bytes-two (length places), bytes-two word)
      (ap (λ (bs : List ℕ). signed (big_endian bs)) (sym (bytes-two word))
      ∙ ap signed (back-two word (word_fits (first_place_lem places) small))
      ∙ signed_word (first_place_lem places) small)

  pub header-back : decode_header bytes ≡ given (header_of (length places) (first_place_lem places))
  unfolding decode_header
  header-back =
      let whole : header_length ≤ length bytes = omega (arith, length-append (header_bytes places) rest, header-size places) in
      rw (
        le-leb header_length (length bytes) whole,
        count-back,
        place-back,
        le-leb (length places) most_marks few,
        fits,
        zero-if-none places,
      ) refl

  pub behind-header : drop header_length bytes ≡ rest
  behind-header = drop_at (header_bytes places) rest header_length (header-size places)

-- what holds of a header that was read
pub record HeaderBack (bs : List ℕ) (h : Header) : Type 0 where
  pub whole : header_length ≤ length bs
  pub count-is : h.count ≡ header_count bs
  pub place_is : h.place ≡ header_place bs
  pub few : h.count ≤ most_marks
  pub in-range : place_in_range_lem h.place ≡ true
  pub zero-at-none : (not (eqb h.count 0) || zero_place h.place) ≡ true

-- it holds of every header that is read
pub header-inverse : (bs : List ℕ) (h : Header) → decode_header bs ≡ given h → HeaderBack bs h
unfolding decode_header
header-inverse bs h e =
    let n = header_count bs in
    let z = header_place bs in
    let good : Outcome Header = given (header_of n z) in
    let p = checked-given (leb header_length (length bs)) BytesEnd (checked (header_in_range_lem n z) OutOfRange good) h e in
    let q = checked-given (header_in_range_lem n z) OutOfRange good h p.after in
    let r = and-snd (leb n most_marks) (place_in_range_lem z && (not (eqb n 0) || zero_place z)) q.passes in
    rw (← given-same q.after)
    (record {
      whole = leb-true header_length (length bs) p.passes;
      count-is = refl;
      place_is = refl;
      few = leb-true n most_marks (and-fst (leb n most_marks) (place_in_range_lem z && (not (eqb n 0) || zero_place z)) q.passes);
      in-range = and-fst (place_in_range_lem z) (not (eqb n 0) || zero_place z) r;
      zero-at-none = and-snd (place_in_range_lem z) (not (eqb n 0) || zero_place z) r;
    })

-- the test of place 0 is passed by 0 alone
pub zero-place-is : (z : ℤ) → zero_place z ≡ true → pos 0 ≡ z
zero-place-is (pos n) e = let h : n ≤ 0 = leb-true n 0 (and-snd (leb 0 n) (leb n 0) e) in ap pos (omega arith)
zero-place-is (negsuc n) e = absurd (mathlib.Core.Bool.false≢true e)

-- read and written back: the same bytes
pub header-same : (bs : List ℕ) (places : List ℤ) → Bytes bs → header_length ≤ length bs → length places ≡ header_count bs
    → first_place_lem places ≡ header_place bs → header_bytes places ++ drop header_length bs ≡ bs
unfolding header_bytes
header-same [] places h k n z = absurd (omega arith)
header-same (a ∷ []) places h k n z = absurd (omega arith)
header-same (a ∷ b ∷ []) places h k n z = absurd (omega arith)
header-same (a ∷ b ∷ c ∷ []) places h k n z = absurd (omega arith)
header-same (a ∷ b ∷ c ∷ d ∷ bs) places h k n z =
    let word : big_endian (c ∷ d ∷ []) < 65536 = omega (arith, two_bytes c d, h 2, h 3) in
    rw (n, z, word-signed (big_endian (c ∷ d ∷ [])) word, same-two a b (h 0) (h 1), same-two c d (h 2) (h 3)) refl
