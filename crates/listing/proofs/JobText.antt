-- The text of a whole job is the one line of a refused job, or the count and the lines of the strip that the job says.
-- The reader is lent lists with room for the most marks, so its answer is what the job says: its refusal gives the line's number, and its
-- count and the used part of its lists are the strip. The lines below the count are those of that strip.
use mathlib.Core.Path.{◌≡◌, sym, ◌∙◌, ap, subst}
use mathlib.Core.Bool.{true, false}
use mathlib.Core.Logic.{◌↔◌}
use mathlib.Core.List.{List, [], ◌++◌}
use Prim.Native.Nat.{ℕ, ◌≤◌}
use native.Mathlib.Omega.{arith}
use lib.ListN.{length}
use Rattle.geometry.specs.Strip.{Strip, first_marks, marks_of, most_marks, most_short}
use Rattle.geometry.specs.Sliding.{slides_whole}
use Rattle.geometry.specs.Refusal.{accepted}
use Rattle.geometry.specs.Entry.{entry}
use Rattle.geometry.proofs.Accepted.{entry-accepted, accepted-rising}
use Rattle.geometry.proofs.Sliding.{slides-whole}
use Rattle.geometry.proofs.WholeEdges.{whole-slides}
use Rattle.job.specs.Outcome.{Outcome, given, refusal}
use Rattle.job.specs.Decode.{decode}
use Rattle.job.specs.Calls.{shortest, read_into, Read, ReadContract}
use Rattle.job.proofs.Outcomes.{never, given-same}
use Rattle.job.proofs.ReadStrip.{ReadStrip, read-refused}
use Rattle.listing.specs.Text.{listing_gap, decimal, refused_word, line_end, marks_line, strip_lines, listing_of}
use Rattle.listing.specs.Listing.{said_by, SlidesSomehow, Chosen, TextOf}
use Rattle.listing.specs.inner.Lines.{StripLines}

-- lent lists with room for the most marks say what the job says
module _ (job : List ℕ) (lent : Strip) (roomy : shortest lent ≡ most_marks) where
  -- the reader's outcome is what the job says
  said : (o : Outcome Strip) → read_into lent job ≡ o → said_by job ≡ o
  said o e = ap (λ (n : ℕ). decode n job) (sym roomy) ∙ e

  -- a refused job has the line "refused" with its number
  pub refused-listing : (left : Strip) (r : Read) (text : List ℕ) → ReadContract job lent left r → (r.number ≡ 0 → ⊥)
      → text ≡ refused_word ++ decimal r.number ++ line_end → TextOf job text
  unfolding listing_of
  refused-listing left r text call nonzero p =
      let q = read-refused job lent left r call nonzero in
      let says = said (refusal q.which) q.says in
      record {
        fits = false;
        out = [];
        text-is = p ∙ ap (λ (n : ℕ). refused_word ++ decimal n ++ line_end) q.number_is ∙ sym (ap (λ (o : Outcome Strip). listing_of o false []) says);
        fits-exactly = λ s e. never q.which s (sym says ∙ e);
        out-chosen = λ s e. never q.which s (sym says ∙ e);
      }

  -- the strip that was read
  module _ (left : Strip) (r : Read) (m : ReadStrip job lent left r) where
    -- the job says it; it has at most 4,000 marks, and a pass accepts it
    says-found : said_by job ≡ given m.found
    says-found = said (given m.found) m.says

    pub few-marks : r.count ≤ most_marks
    few-marks = omega (arith, m.count-is, (entry-accepted most_marks m.found m.takes).few)

    pub good-marks : entry most_marks (first_marks r.count left) ≡ accepted
    good-marks = rw m.used m.takes

    -- it slides at whole dots exactly if it slides at some denominator
    slides-exactly : (slides_whole listing_gap (marks_of m.found) ≡ true) ↔ SlidesSomehow m.found
    slides-exactly =
        let marks = marks_of m.found in
        let rising = accepted-rising most_marks m.found (entry-accepted most_marks m.found m.takes) in (
          λ t. record { denominator = 1; whole = omega arith; placing = whole-slides listing_gap marks t },
          λ a. slides-whole listing_gap a.denominator marks a.whole rising a.placing,
        )

    -- its text is the count and the lines below it
    pub accepted-listing : (middle after : List ℕ) → middle ≡ marks_line r.count → StripLines (first_marks r.count left) middle after
        → TextOf job after
    unfolding listing_of
    accepted-listing middle after p lines =
        let s = m.found in
        let fits = slides_whole listing_gap (marks_of s) in
        let q : StripLines s middle after = rw m.used at lines in
        record {
          fits = fits;
          out = q.out;
          text-is = q.appended ∙ ap (λ (xs : List ℕ). xs ++ strip_lines s fits q.out) (p ∙ ap marks_line m.count-is)
              ∙ sym (ap (λ (o : Outcome Strip). listing_of o fits q.out) says-found);
          fits-exactly = λ t e. subst (λ (u : Strip). (fits ≡ true) ↔ SlidesSomehow u) (given-same (sym says-found ∙ e)) slides-exactly;
          out-chosen = λ t e short.
              let same = given-same (sym says-found ∙ e) in
              subst (λ (u : Strip). length u.places ≤ most_short → Chosen u q.out) same q.chosen short;
        }
