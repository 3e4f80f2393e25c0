-- No text is longer than 25,000 bytes, so that an output of so many is never too small, and no text is empty. A number has at most five
-- digits. A refused job has one line of 14 bytes at most. Else there is a count (12), the word of the full line with at most 4,000 numbers,
-- each of six bytes with its space (24,005, or 10 for "none"), and the slide, best and out line (11, 20 and 364: at most 60 marks are left
-- out, since each of them is listed once), or the two lines of a strip that is too long (31).
use mathlib.Core.Path.{◌≡◌, refl, ap}
use mathlib.Core.Bool.{cond}
use mathlib.Core.List.{List, [], ◌∷◌, ◌++◌}
use Prim.Native.Nat.{ℕ, ◌+◌, ◌*◌, ◌≤◌}
use native.Mathlib.Omega.{arith}
use lib.Dec.{lit≤}
use borrow.Author.Tests.{le-leb}
use lib.ListN.{length, take, length-append}
use Rattle.geometry.specs.Strip.{Strip, marks_of, most_marks, most_short}
use Rattle.geometry.specs.Lists.{sum_list}
use Rattle.geometry.specs.Placing.{best_sum}
use Rattle.geometry.specs.Refusal.{refusal_number}
use Rattle.geometry.specs.Pass.{written}
use Rattle.geometry.proofs.Split.{by-leb}
use Rattle.geometry.proofs.Verdicts.{refusal-positive}
use Rattle.geometry.proofs.Accepted.{Accepted, entry-accepted, length-marks}
use Rattle.geometry.proofs.Best.{free-length}
use Rattle.geometry.proofs.Lent.{used-is, used-within}
use Rattle.best.proofs.ListedFew.{few-left-out}
use Rattle.job.specs.Number.{Bytes}
use Rattle.job.specs.Outcome.{Outcome, given, refusal}
use Rattle.job.proofs.RoundTrips.{read-accepted}
use Rattle.listing.specs.Text.{listing_gap, decimal, marks_word, refused_word, marks_line, full_line, slide_line, best_line, out_line}
use Rattle.listing.specs.Text.{too_long_lines, short_lines, strip_lines, listing_of}
use Rattle.listing.proofs.Lengths.{spaced-most, line-most, full-most, slide-most, best-most}
use Rattle.listing.specs.Listing.{said_by, TextOf, text_most, ListingContract}
use Rattle.std.specs.Prelude.{Result, Ok, Err, IsOk}
use Rattle.geometry.specs.declared.refusal.Refusal.{Refusal}
use Rattle.listing.specs.Listing.{Listed, listed_answer}

-- two pieces together, and a bound that is wider than need be
joined-most : (xs ys : List ℕ) {m n : ℕ} → length xs ≤ m → length ys ≤ n → length (xs ++ ys) ≤ m + n
joined-most xs ys {m} {n} h k = omega (arith, length-append xs ys)

within : {k m n : ℕ} → k ≤ m → m ≤ n → k ≤ n
within {k} {m} {n} h l = omega arith

-- the other lines one by one
out-most : (out : List ℕ) → length (out_line out) ≤ 6 * length out + 9
out-most [] = omega arith
out-most (n ∷ ns) = simp length-append (omega (arith, spaced-most (n ∷ ns)))

too-long-most : length too_long_lines ≤ 31
unfolding decimal
too-long-most = lit≤ tt

-- a text of some job
module _ (job text : List ℕ) (bytes : Bytes job) (t : TextOf job text) where
  -- a job that says a strip
  module _ (s : Strip) (says : said_by job ≡ given s) where
    -- the strip that the job says is accepted
    good : Accepted most_marks s
    good = entry-accepted most_marks s (read-accepted most_marks job s says bytes)

    -- at most 60 marks are left out
    few-out : length s.places ≤ most_short → length t.out ≤ most_short
    few-out short =
        let chosen = t.out-chosen s says short in
        let marks = free-length listing_gap (marks_of s) chosen.choice chosen.overlap-free in
        let few = few-left-out s.weights chosen.choice in
        omega (arith, few, ap length chosen.left_out, marks, length-marks s good.same-lengths good.same-weights)

    -- all lines of a strip below its count
    strip-most : length (strip_lines s t.fits t.out) ≤ 24500
    strip-most =
        let full = full_line (marks_of s) in
        let slide = slide_line t.fits in
        let best = best_line (best_sum listing_gap (marks_of s)) (sum_list s.weights) in
        let out = out_line t.out in
        by-leb (length s.places) most_short
        (λ is-short. length (full ++ cond is-short (short_lines s t.fits t.out) too_long_lines) ≤ 24500)
        (λ short.
        let out_within : length out ≤ 369 = omega (arith, out-most t.out, few-out short) in
        let two = joined-most slide best (slide-most t.fits) (best-most (best_sum listing_gap (marks_of s)) (sum_list s.weights)) in
        let three = joined-most (slide ++ best) out two out_within in
        within (joined-most full (slide ++ best ++ out) (full-most s good) three) (lit≤ tt))
        (λ long. within (joined-most full too_long_lines (full-most s good) too-long-most) (lit≤ tt))

  -- the whole text, by what the job says
  by-outcome : (o : Outcome Strip) → said_by job ≡ o → length (listing_of o t.fits t.out) ≤ text_most
  unfolding listing_of
  by-outcome (refusal r) e = omega (arith, line-most refused_word (refusal_number r))
  by-outcome (given s) e =
      let lines = strip_lines s t.fits t.out in
      omega (arith, length-append (marks_line (length s.places)) lines, line-most marks_word (length s.places), strip-most s e)

  -- No text is longer than `text_most`.
  pub text-fits : length text ≤ text_most
  text-fits = rw t.text-is (by-outcome (said_by job) refl)

  -- each text begins with a word
  some-by : (o : Outcome Strip) → 1 ≤ length (listing_of o t.fits t.out)
  unfolding listing_of
  some-by (refusal r) = omega arith
  some-by (given s) = omega arith

  -- and none is empty
  pub text-some : 1 ≤ length text
  text-some = rw t.text-is (some-by (said_by job))

-- So a call whose output holds the longest text is never refused.
pub never-too-small : {job entry exit : List ℕ} {r : Listed} (call : ListingContract job entry exit r) → Bytes job → text_most ≤ length entry
    → (r.number ≡ 0) × (r.length ≡ length call.text) × (exit ≡ written call.text entry)
never-too-small {job} {entry} call bytes room =
    let text = call.text in
    let fits = le-leb (length text) (length entry) (omega (arith, text-fits job text bytes call.text_of)) in
    (rw fits at call.number_is, rw fits at call.length-is, rw fits at call.output-is)

-- and the used part of the output is the whole text
pub text-used : {job entry exit : List ℕ} {r : Listed} (call : ListingContract job entry exit r) → Bytes job → text_most ≤ length entry
    → (take r.length exit ≡ call.text) × (r.length ≤ length exit) × (1 ≤ r.length)
text-used {job} {entry} call bytes room =
    let done = never-too-small call bytes room in
    let some = text-some job call.text bytes call.text_of in
    (used-is call.text entry done.2 done.1, used-within call.text entry done.2 done.1, omega (arith, some, done.1))

-- and such a call gives a length
pub listed-given : (answer : Result ℕ Refusal) → (listed_answer answer).number ≡ 0 → IsOk answer
listed-given (Ok length) zero = refl
listed-given (Err r) zero = absurd (refusal-positive r zero)
