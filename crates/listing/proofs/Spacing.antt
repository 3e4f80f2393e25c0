-- Numbers, each after a space, put behind a text one after the other: what stands there after some turns, and one number more.
use mathlib.Core.Path.{◌≡◌, refl, sym, ◌∙◌, ap}
use mathlib.Core.List.{List, [], ◌∷◌, ◌++◌, append-nil, append_assoc}
use Prim.Native.Nat.{ℕ, suc, ◌+◌, ◌<◌}
use native.Mathlib.Omega.{arith}
use lib.ListN.{length, get_or, take}
use Rattle.std.proofs.lemmas.List.{take_more}
use Rattle.std.specs.List.{AllZip, each_same}
use Rattle.listing.specs.Text.{decimal, spaced, out_word, out_line, line_end}

-- one number more behind others
spaced-more : (xs : List ℕ) (x : ℕ) → spaced (xs ++ x ∷ []) ≡ spaced xs ++ 32 ∷ decimal x
unfolding spaced
spaced-more [] x = append-nil (32 ∷ decimal x)
spaced-more (y ∷ ys) x =
    ap (λ (rest : List ℕ). (32 ∷ decimal y) ++ rest) (spaced-more ys x) ∙ sym (append_assoc (32 ∷ decimal y) (spaced ys) (32 ∷ decimal x))

module _ {A : Type 0} (R : A → ℕ → Type 0) where
  -- as many numbers as what they are converted from
  pub each-long : (xs : List A) (ys : List ℕ) → AllZip R xs ys → length xs ≡ length ys
  each-long [] [] h = refl
  each-long [] (y ∷ ys) h = absurd h
  each-long (x ∷ xs) [] h = absurd h
  each-long (x ∷ xs) (y ∷ ys) h = ap suc (each-long xs ys h.1)

  -- one more at the end
  each-end : (xs : List A) (ys : List ℕ) (x : A) (y : ℕ) → AllZip R xs ys → R x y → AllZip R (xs ++ x ∷ []) (ys ++ y ∷ [])
  each-end [] [] x y h r = (r, tt)
  each-end [] (b ∷ ys) x y h r = absurd h
  each-end (a ∷ xs) [] x y h r = absurd h
  each-end (a ∷ xs) (b ∷ ys) x y h r = (h.0, each-end xs ys x y h.1 r)

  -- what stands behind a text after the first i numbers
  pub record Put (before : List ℕ) (xs : List A) (i : ℕ) (after : List ℕ) : Type 0 where
    pub converted : List ℕ
    pub each : AllZip R (take i xs) converted
    pub items : after ≡ before ++ spaced converted

  pub put-none : (before : List ℕ) (xs : List A) → Put before xs 0 before
  unfolding spaced
  put-none before xs = record { converted = []; each = tt; items = sym (append-nil before) }

  pub put-more : {before after after' : List ℕ} {xs : List A} {i : ℕ} {x : A} {y : ℕ} → Put before xs i after → i < length xs → x ≡ get_or xs i x
      → R x y → after' ≡ after ++ 32 ∷ decimal y → Put before xs (i + 1) after'
  put-more {before} {xs = xs} {i} {x} {y} p h is r e =
      let more : take (i + 1) xs ≡ take i xs ++ x ∷ [] = take_more xs i x h ∙ ap (λ (z : A). take i xs ++ z ∷ []) (sym is) in
      record {
        converted = p.converted ++ y ∷ [];
        each = rw more (each-end (take i xs) p.converted x y p.each r);
        items = e ∙ ap (λ (zs : List ℕ). zs ++ 32 ∷ decimal y) p.items ∙ append_assoc before (spaced p.converted) (32 ∷ decimal y)
            ∙ ap (λ (zs : List ℕ). before ++ zs) (sym (spaced-more p.converted y));
      }

-- numbers that a conversion leaves as they are
pub put-same : (before xs : List ℕ) {after : List ℕ}
    → ((converted : List ℕ) × AllZip (λ x y. y ≡ x) xs converted × (after ≡ before ++ spaced converted))
    → after ≡ before ++ spaced xs
put-same before xs p = rw (each_same xs p.0 p.1) at p.2

-- an out line with some number
pub out_some : (xs : List ℕ) → 0 < length xs → out_word ++ spaced xs ++ line_end ≡ out_line xs
out_some [] z = absurd (omega arith)
out_some (x ∷ xs) z = refl
