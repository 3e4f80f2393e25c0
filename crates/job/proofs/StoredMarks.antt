-- Lists that are filled mark by mark. What stands already and what is still to be stored are together the whole: storing the first mark
-- that is left keeps this, and when none is left the lists hold the whole, unchanged beyond it.
use mathlib.Core.Path.{◌≡◌, refl, sym, ◌∙◌, ap}
use mathlib.Core.List.{List, [], ◌∷◌, ◌++◌}
use Prim.Native.Nat.{ℕ, suc, ◌+◌, ◌≤◌}
use native.Mathlib.Nat.{zero-add, add-zero}
use native.Mathlib.Numerals.{add-one}
use native.Mathlib.Omega.{arith}
use lib.ListN.{length, drop, set, length-set}
use lib.Seq.{sets, sets-eq}
use Rattle.geometry.specs.Strip.{Strip, strip}
use Rattle.geometry.specs.Pass.{written}
use Rattle.job.specs.Outcome.{given}
use Rattle.job.specs.Decode.{SignedMark, no_marks, cons_mark}
use Rattle.job.specs.inner.Step.{Filled}

module _ {A : Type 0} where
  -- storing a list is storing its first element, then the others behind it
  store-one : (cur xs ys : List A) (i : ℕ) (v : A) → xs ≡ v ∷ ys → sets cur i xs ≡ sets (set cur i v) (i + 1) ys
  store-one cur xs ys i v e = rw (e, add-one) refl

  -- storing two lists one behind the other is storing both at once
  pub stores-append : (xs ys old : List A) (i : ℕ) → sets old i (xs ++ ys) ≡ sets (sets old i xs) (i + length xs) ys
  stores-append [] ys old i = rw (add-zero i) refl
  stores-append (x ∷ xs) ys old i =
      stores-append xs ys (set old i x) (suc i) ∙ ap (λ (k : ℕ). sets (sets (set old i x) (suc i) xs) k ys) (omega arith)

  -- stored from the front, a list is written there and what stands beyond it is unchanged
  pub stores-written : (xs old : List A) → length xs ≤ length old → sets old 0 xs ≡ written xs old
  stores-written xs old h = sets-eq xs old 0 (omega arith) ∙ ap (λ (k : ℕ). xs ++ drop k old) (zero-add (length xs))

-- one of the lists: it held `old`, holds `cur`, and the elements from i on are still to be stored
pub record Storing {A : Type 0} (whole left : List A) (i : ℕ) (old cur : List A) : Type 0 where
  pub as_long : length cur ≡ length old
  pub stores : sets old 0 whole ≡ sets cur i left

module _ {A : Type 0} (whole left : List A) (i : ℕ) (old cur : List A) where
  -- the next element is stored; when none is left the list is written
  store-next : (v : A) (others : List A) → left ≡ v ∷ others → Storing whole left i old cur → Storing whole others (i + 1) old (set cur i v)
  store-next v others e s = record { as_long = simp length-set s.as_long; stores = s.stores ∙ store-one cur left others i v e }

  store-all : left ≡ [] → length whole ≤ length old → Storing whole left i old cur → cur ≡ written whole old
  store-all e h s = sym (rw e at s.stores) ∙ stores-written whole old h

-- all three lists of a strip
pub record StoringMarks (whole left : Strip) (i : ℕ) (old cur : Strip) : Type 0 where
  pub places : Storing whole.places left.places i old.places cur.places
  pub lengths : Storing whole.lengths left.lengths i old.lengths cur.lengths
  pub weights : Storing whole.weights left.weights i old.weights cur.weights

-- the first mark that is left is stored
pub storing-next : (whole left : Strip) (i : ℕ) (old cur : Strip) (m : SignedMark) (others : Strip) → left ≡ cons_mark m others
    → StoringMarks whole left i old cur
    → StoringMarks whole others (i + 1) old
    (strip (set cur.places i m.place) (set cur.lengths i m.label_length) (set cur.weights i m.weight))
storing-next whole left i old cur m others e s =
    record {
      places = store-next _ _ i _ _ m.place others.places (ap (λ (s : Strip). s.places) e) s.places;
      lengths = store-next _ _ i _ _ m.label_length others.lengths (ap (λ (s : Strip). s.lengths) e) s.lengths;
      weights = store-next _ _ i _ _ m.weight others.weights (ap (λ (s : Strip). s.weights) e) s.weights;
    }

-- no mark is left: the three lists are filled
pub storing-ends : (whole left : Strip) (i : ℕ) (old cur : Strip) → left ≡ no_marks → length whole.places ≤ length old.places
    → length whole.lengths ≤ length old.lengths → length whole.weights ≤ length old.weights → StoringMarks whole left i old cur
    → Filled (given whole) old cur
storing-ends whole left i old cur e p l w s =
    record {
      places-are = store-all _ _ i _ _ (ap (λ (s : Strip). s.places) e) p s.places;
      lengths-are = store-all _ _ i _ _ (ap (λ (s : Strip). s.lengths) e) l s.lengths;
      weights-are = store-all _ _ i _ _ (ap (λ (s : Strip). s.weights) e) w s.weights;
    }
