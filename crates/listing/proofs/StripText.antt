-- Lines one behind the other: what was put behind a text piece by piece was put behind it as a whole.
use mathlib.Core.Path.{◌≡◌, sym, ◌∙◌, ap}
use mathlib.Core.Bool.{Bool, true, false, cond}
use mathlib.Core.List.{List, [], ◌++◌, append_assoc}
use Prim.Native.Nat.{ℕ, ◌+◌, ◌≤◌, ◌<◌}
use native.Mathlib.Omega.{arith}
use lib.Dec.{leb}
use lib.ListN.{length, length-append}
use borrow.Author.Tests.{le-leb, lt-leb}
use Rattle.geometry.specs.Strip.{Strip, marks_of, most_marks, most_short}
use Rattle.geometry.specs.Sliding.{slides_whole}
use Rattle.std.specs.Prelude.{Option, None, Some, IfSome}
use Rattle.std.specs.Borrow.{Bor}
use Rattle.listing.specs.Text.{listing_gap, full_word, line_end, full_line, too_long_lines, short_lines}
use Rattle.geometry.proofs.Accepted.{Accepted}
use Rattle.listing.specs.Listing.{text_most}
use Rattle.listing.proofs.Lengths.{full-most}
use Rattle.listing.specs.inner.Lines.{tail_of, FullFound, ShortLines, StripLines}

-- a piece and one behind it are one piece
pub joined : (before s t : List ℕ) {middle after : List ℕ} → middle ≡ before ++ s → after ≡ middle ++ t → after ≡ before ++ (s ++ t)
joined before s t p q = q ∙ ap (λ (xs : List ℕ). xs ++ t) p ∙ append_assoc before s t

-- no more positions than so many
pub few-found : {s : Strip} {found : Option (Bor (List ℕ))} {most : ℕ} → FullFound s found → length s.places ≤ most
    → IfSome found (λ positions. length positions.now ≤ most)
few-found {found = None} p few = tt
few-found {found = Some positions} p few = omega (arith, p.few)

-- the full line by what the full pass says
pub full-line : (s : Strip) (before : List ℕ) {after : List ℕ} {found : Option (Bor (List ℕ))} → FullFound s found
    → after ≡ before ++ (full_word ++ tail_of found ++ line_end) → after ≡ before ++ full_line (marks_of s)
full-line s before found p = p ∙ ap (λ (tail : List ℕ). before ++ (full_word ++ tail ++ line_end)) found.tail

-- the room behind the full line
pub full-room : (s : Strip) (before : List ℕ) {after : List ℕ} → Accepted most_marks s → after ≡ before ++ full_line (marks_of s)
    → length before + 24500 ≤ text_most → length after + 420 ≤ text_most
full-room s before good p room = omega (arith, ap length p, length-append before (full_line (marks_of s)), full-most s good)

module _ (s : Strip) (before : List ℕ) where
  -- the lines of a strip behind a text, by whether it is short
  abbrev lines : List ℕ → Bool → List ℕ
  lines out short = before ++ (full_line (marks_of s) ++ cond short (short_lines s (slides_whole listing_gap (marks_of s)) out) too_long_lines)

  -- the lines of a strip that is too long for the slide and the best pass
  pub long-strip : {middle after : List ℕ} → middle ≡ before ++ full_line (marks_of s) → most_short < length s.places
      → after ≡ middle ++ too_long_lines → StripLines s before after
  long-strip full long q =
      let is-long : leb (length s.places) most_short ≡ false = lt-leb (length s.places) most_short long in
      record {
        out = [];
        chosen = λ short. absurd (omega arith);
        appended = joined before (full_line (marks_of s)) too_long_lines full q ∙ sym (ap (lines []) is-long);
      }

  -- and those of a short one
  pub short-strip : {middle after : List ℕ} → middle ≡ before ++ full_line (marks_of s) → length s.places ≤ most_short
      → ShortLines s middle after → StripLines s before after
  short-strip full short q =
      let is-short : leb (length s.places) most_short ≡ true = le-leb (length s.places) most_short short in
      let below = short_lines s (slides_whole listing_gap (marks_of s)) q.out in
      record {
        out = q.out;
        chosen = λ _. q.chosen;
        appended = joined before (full_line (marks_of s)) below full q.appended ∙ sym (ap (lines q.out) is-short);
      }
