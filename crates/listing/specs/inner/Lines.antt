-- What the functions that ask the passes and write the lines give.
use Rattle.std.specs.Prelude.{ℕ, ◌≤◌, ◌≡◌, List, ◌∷◌, ◌++◌, length, take, Option, None, Some, IfSome}
use Rattle.std.specs.Borrow.{Bor}
use Rattle.geometry.specs.Strip.{Strip, marks_of, most_short}
use Rattle.geometry.specs.Placing.{first_placing, best_sum}
use Rattle.geometry.specs.Sliding.{slides_whole}
use Rattle.listing.specs.Text.{listing_gap, spaced, none_word, full_tail, short_lines, strip_lines}
use Rattle.listing.specs.Listing.{Chosen}

-- the end of the full line, by the positions that the full pass finds, if it finds some
abbrev pub tail_of : Option (Bor (List ℕ)) → List ℕ
tail_of None = 32 ∷ none_word
tail_of (Some positions) = spaced positions.now

-- what the full pass says of a strip, in the words of its line, and that it has no more positions than the strip has marks
pub record FullFound (s : Strip) (found : Option (Bor (List ℕ))) : Type 0 where
  pub tail : tail_of found ≡ full_tail (first_placing listing_gap (marks_of s))
  pub few : IfSome found (λ positions. length positions.now ≤ length s.places)

-- what the best pass says of it: the sum, and how many numbers of the list are those of left-out marks
pub record BestFound (s : Strip) (sum count : ℕ) (left_out : List ℕ) : Type 0 where
  pub sum_is : sum ≡ best_sum listing_gap (marks_of s)
  pub listed : count ≤ length left_out
  pub chosen : Chosen s (take count left_out)

-- a text with the lines of a strip below its count behind it, for some choice of the greatest sum
pub record StripLines (s : Strip) (before after : List ℕ) : Type 0 where
  pub out : List ℕ
  pub chosen : length s.places ≤ most_short → Chosen s out
  pub appended : after ≡ before ++ strip_lines s (slides_whole listing_gap (marks_of s)) out

-- one with those below the full line, of a short strip
pub record ShortLines (s : Strip) (before after : List ℕ) : Type 0 where
  pub out : List ℕ
  pub chosen : Chosen s out
  pub appended : after ≡ before ++ short_lines s (slides_whole listing_gap (marks_of s)) out
