-- The longest beginning. Byte after byte is taken from the room of 240 dots as long as it has room; where it stops, the text is at its
-- end or the next byte passes the room. Widths of beginnings grow with their counts, so no longer one is at most 240 dots, and two
-- counts that are longest are the same.
use mathlib.Core.Path.{◌≡◌, refl, sym, ◌∙◌, ap}
use mathlib.Core.Bool.{true, cond}
use mathlib.Core.List.{List, [], ◌∷◌}
use mathlib.Core.Logic.{◌⊎◌, inl, inr, ⊎_elim}
use Prim.Native.Nat.{ℕ, zero, suc, ◌+◌, ◌-◌, ◌≤◌, ◌<◌}
use native.Mathlib.Numerals.{add-one}
use native.Mathlib.Omega.{arith}
use lib.ListN.{length, get_or, take, drop}
use lib.Seq.{drop-cons, drop-length, take-length}
use borrow.Author.Tests.{le-leb, lt-leb}
use Rattle.geometry.specs.Lists.{sum_list}
use Rattle.geometry.specs.Mark.{most_length, length_in_range_lem}
use Rattle.geometry.proofs.Split.{by-leb, lt-or-ge, one-to}
use Rattle.font.specs.Letters.{width_of}
use Rattle.font.specs.Text.{text_width, IsLongest, bytes_within, longest_beginning_lem}

-- what holds of the count that has room in so many dots
abbrev HasRoom : ℕ → List ℕ → ℕ → Type 0
HasRoom room text n =
    (n ≤ length text) × (text_width (take n text) ≤ room) × ((n ≡ length text) ⊎ (room < text_width (take (suc n) text)))

has_room : (room : ℕ) (text : List ℕ) → HasRoom room text (bytes_within room text)
unfolding bytes_within text_width sum_list
has_room room [] = (omega arith, omega arith, inl refl)
has_room room (b ∷ text) =
    by-leb (width_of b) room (λ t. HasRoom room (b ∷ text) (cond t (suc (bytes_within (room - width_of b) text)) 0))
    (λ fits.
    let rest = has_room (room - width_of b) text in
    (omega arith, omega arith, ⊎_elim (λ (e : _). inl (omega arith)) (λ (h : _). inr (omega arith)) rest.2))
    (λ over. (omega arith, omega arith, inr (omega arith)))

-- so the computed count is longest
pub longest-is : (text : List ℕ) → IsLongest text (longest_beginning_lem text)
longest-is text =
    let r = has_room most_length text in
    record { of-the-text = r.0; at_most = r.1; all-or-over = rw add-one r.2 }

-- a longer beginning is no narrower
wider : (text : List ℕ) (k n : ℕ) → k ≤ n → text_width (take k text) ≤ text_width (take n text)
unfolding text_width sum_list
wider [] zero zero h = omega arith
wider [] zero (suc n) h = omega arith
wider [] (suc k) zero h = absurd (omega arith)
wider [] (suc k) (suc n) h = omega arith
wider (b ∷ text) zero n h = omega arith
wider (b ∷ text) (suc k) zero h = absurd (omega arith)
wider (b ∷ text) (suc k) (suc n) h = omega (arith, wider text k n (omega arith))

-- a longest beginning is the greatest of all that are at most 240 dots
pub longest-greatest : (text : List ℕ) (n k : ℕ) → IsLongest text n → k ≤ length text → text_width (take k text) ≤ most_length → k ≤ n
longest-greatest text n k longest within narrow =
    ⊎_elim
    (λ (h : n < k).
    ⊎_elim (λ (all : _). omega arith) (λ (over : _). absurd (omega (arith, wider text (n + 1) k (omega arith)))) longest.all-or-over)
    (λ (h : k ≤ n). h)
    (lt-or-ge n k)

-- so there is one
pub one-longest : (text : List ℕ) (n m : ℕ) → IsLongest text n → IsLongest text m → n ≡ m
one-longest text n m a b =
    omega (arith, longest-greatest text n m a b.of-the-text b.at_most, longest-greatest text m n b a.of-the-text a.at_most)

-- a text of at most 240 dots, as every one that has a length as a label, is its own longest beginning
pub narrow-whole : (text : List ℕ) → text_width text ≤ most_length → longest_beginning_lem text ≡ length text
narrow-whole text narrow =
    one-longest text _ (length text) (longest-is text)
    (record { of-the-text = omega arith; at_most = rw (take-length text) narrow; all-or-over = inl refl })

pub whole-beginning : (text : List ℕ) → length_in_range_lem (text_width text) ≡ true → longest_beginning_lem text ≡ length text
whole-beginning text good = narrow-whole text (one-to most_length (text_width text) good).1

-- bytes that have room together are passed at once
room-behind : (k room : ℕ) (text : List ℕ) → k ≤ length text → text_width (take k text) ≤ room
    → bytes_within room text ≡ k + bytes_within (room - text_width (take k text)) (drop k text)
unfolding bytes_within text_width sum_list
room-behind zero room text h fits = let same : room - 0 ≡ room = omega arith in rw same (omega arith)
room-behind (suc k) room [] h fits = absurd (omega arith)
room-behind (suc k) room (b ∷ text) h fits =
    let behind = text_width (take k text) in
    let same : room - (width_of b + behind) ≡ room - width_of b - behind = omega arith in
    rw (le-leb (width_of b) room (omega arith), same) (omega (arith, room-behind k (room - width_of b) text (omega arith) (omega arith)))

-- the loop: what is left of the text, with so many dots left
module _ (text : List ℕ) (i room : ℕ) where
  abbrev pub WithRoom : Type 0
  WithRoom = longest_beginning_lem text ≡ i + bytes_within room (drop i text)

  -- it begins behind bytes that have room
  pub room-starts : i ≤ length text → text_width (take i text) ≤ most_length → room ≡ most_length - text_width (take i text) → WithRoom
  room-starts within fits is = rw is (room-behind i most_length text within fits)

  -- the next byte has room
  pub room_next : WithRoom → i < length text → width_of (get_or text i 0) ≤ room
      → longest_beginning_lem text ≡ i + 1 + bytes_within (room - width_of (get_or text i 0)) (drop (i + 1) text)
  unfolding bytes_within
  room_next so_far h fits =
      so_far ∙ rw (add-one, drop-cons text i 0 h, le-leb (width_of (get_or text i 0)) room fits) (omega arith)

  -- or it has none
  pub room-none : WithRoom → i < length text → room < width_of (get_or text i 0) → i ≡ longest_beginning_lem text
  unfolding bytes_within
  room-none so_far h over = sym (so_far ∙ rw (drop-cons text i 0 h, lt-leb (width_of (get_or text i 0)) room over) (omega arith))

  -- or there is none
  pub room-ends : WithRoom → i ≡ length text → i ≡ longest_beginning_lem text
  unfolding bytes_within
  room-ends so_far e = sym (so_far ∙ rw (ap (λ (k : ℕ). drop k text) e ∙ drop-length text) (omega arith))
