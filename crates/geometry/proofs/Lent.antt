-- Lent lists: a part that is cleared or written, one store a turn, and the rest as it was.
use mathlib.Core.Path.{◌≡◌, refl, sym, ◌∙◌, ap}
use mathlib.Core.List.{List, [], ◌∷◌, ◌++◌}
use Prim.Native.Nat.{ℕ, zero, suc, ◌+◌, ◌-◌, ◌≤◌, ◌<◌, min}
use native.Mathlib.Omega.{arith}
use native.Mathlib.Numerals.{add-one}
use lib.ListN.{length, take, drop, set, replicate, take-append-drop, length-replicate, length-append}
use borrow.Rule.Slice.PartMut.{put_mid}
use lib.Seq.{take_at, drop_at, take-suc-set, drop-set-lt, drop-drop}
use Rattle.geometry.specs.Pass.{written, cleared}

module _ {A : Type 0} where
  -- one element more of the cleared part
  clear-one : (n : ℕ) (v : A) (old : List A) → n < length old → set (cleared n v old) n v ≡ cleared (suc n) v old
  clear-one n v [] h = absurd (omega arith)
  clear-one zero v (x ∷ old) h = refl
  clear-one (suc n) v (x ∷ old) h = ap (λ (l : List A). v ∷ l) (clear-one n v old (omega arith))

  part : (n : ℕ) (v : A) (old : List A) → n ≤ length old → cleared n v (take n old) ++ drop n old ≡ cleared n v old
  part zero v old h = refl
  part (suc n) v [] h = absurd (omega arith)
  part (suc n) v (x ∷ old) h = ap (λ (l : List A). v ∷ l) (part n v old (omega arith))

  -- a turn of a loop that clears
  pub cleared_more : (n : ℕ) (v : A) (xs old : List A) → xs ≡ cleared n v old → n < length old → set xs n v ≡ cleared (n + 1) v old
  cleared_more n v xs old e h = rw (add-one n, e) (clear-one n v old h)

  -- a beginning that is cleared, with what stands behind it
  pub cleared-part : (n i : ℕ) (v : A) (xs old : List A) → n ≤ length old → i ≡ n → xs ≡ cleared i v (take n old)
      → xs ++ drop n old ≡ cleared n v old
  cleared-part n i v xs old h e is = rw (is, e) (part n v old h)

  -- and with what stands before it, which is nothing
  pub cleared-from : (a n i : ℕ) (v : A) (xs old : List A) → n ≤ length old → a ≡ 0 → i ≡ n → xs ≡ cleared i v (take (n - a) (drop a old))
      → put_mid a (n - a) old xs ≡ cleared n v old
  cleared-from a n i v xs old h z e is = let size : n - a ≡ n = omega arith in rw (is, e, size, z) (part n v old h)

  -- a list that holds the named part has it cleared as a whole
  pub cleared-named : (n : ℕ) (v : A) (xs old : List A) → xs ≡ cleared (min n (length old)) v old → n ≤ length old → xs ≡ cleared n v old
  cleared-named n v xs old e h = let whole : min n (length old) ≡ n = omega arith in e ∙ ap (λ (m : ℕ). cleared m v old) whole

  -- what stands behind the cleared part
  pub drop-cleared : (n : ℕ) (v : A) (xs old : List A) → xs ≡ cleared n v old → drop n xs ≡ drop n old
  drop-cleared n v xs old e = ap (drop n) e ∙ drop_at (replicate n v) (drop n old) n (length-replicate n v)

  -- clearing looks only behind the part
  pub cleared-again : (n : ℕ) (v : A) (xs ys old : List A) → xs ≡ cleared n v ys → drop n ys ≡ drop n old → xs ≡ cleared n v old
  cleared-again n v xs ys old e h = e ∙ ap (λ (l : List A). replicate n v ++ l) h

  -- the used part holds xs and the rest is as it was
  pub written-whole : (n : ℕ) (list xs old : List A) → take n list ≡ xs → drop n list ≡ drop n old → length xs ≡ n → list ≡ written xs old
  written-whole n list xs old e f h = sym (take-append-drop n list) ∙ rw (e, f, h) refl

  -- so it is the used part, and the list is long enough for it
  pub used-is : (xs old : List A) {n : ℕ} {list : List A} → list ≡ written xs old → n ≡ length xs → take n list ≡ xs
  used-is xs old {n} {list} e h = ap (take n) e ∙ take_at xs (drop (length xs) old) n (sym h)

  pub used-within : (xs old : List A) {n : ℕ} {list : List A} → list ≡ written xs old → n ≡ length xs → n ≤ length list
  used-within xs old {n} {list} e h = omega (arith, h, ap length e, length-append xs (drop (length xs) old))

  -- what agrees from one index on agrees from any later one on
  pub drop-further : (n k : ℕ) (xs ys : List A) → n ≤ k → drop n xs ≡ drop n ys → drop k xs ≡ drop k ys
  drop-further n k xs ys h e =
      let more : n + (k - n) ≡ k = omega arith in
      rw (← more) (sym (drop-drop (k - n) n xs) ∙ ap (drop (k - n)) e ∙ drop-drop (k - n) n ys)

  -- the rest is as it was, also further on
  pub rest-kept : (n : ℕ) (xs old : List A) {list : List A} → list ≡ written xs old → length xs ≤ n → drop n list ≡ drop n old
  rest-kept n xs old {list} e h =
      drop-further (length xs) n list old h (ap (drop (length xs)) e ∙ drop_at xs (drop (length xs) old) (length xs) refl)

  -- an element written at the end of the used part
  pub take_more : (n : ℕ) (v : A) (list : List A) → n < length list → take (n + 1) (set list n v) ≡ take n list ++ v ∷ []
  take_more n v list h = rw (add-one n) (take-suc-set list n v h)

  -- and what stands behind the used part is as it was
  pub drop_more : (n : ℕ) (v : A) (list old : List A) → drop n list ≡ drop n old → drop (n + 1) (set list n v) ≡ drop (n + 1) old
  drop_more n v list old h = drop-set-lt (n + 1) list n v (omega arith) ∙ drop-further n (n + 1) list old (omega arith) h

-- lent lists that stand together in a record are the same if each is
pub same-three : {A B C D : Type 0} (f : A → B → C → D) {a a' : A} {b b' : B} {c c' : C} → a ≡ a' → b ≡ b' → c ≡ c'
    → f a b c ≡ f a' b' c'
same-three f p q r = λ i. f (p i) (q i) (r i)
