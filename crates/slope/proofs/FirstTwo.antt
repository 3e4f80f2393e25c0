-- Any three marks are on one line exactly if each is on one with the first two. Say that the first two are A apart across and B upwards: a mark is
-- on one line with them if it is p apart from the first across and q upwards, and pB = qA. The difference of two such marks is such a step too.
-- Of the steps p, q and m, n from a mark to two others mqA = mpB = nAp, and A is not 0: so mq = np, and the three are on one line.
use mathlib.Core.Path.{◌≡◌, refl, sym, ◌∙◌, ap}
use mathlib.Core.Bool.{true}
use mathlib.Core.List.{List, [], ◌∷◌}
use Prim.Native.Nat.{ℕ, ◌+◌, ◌*◌, ◌<◌}
use native.Mathlib.Omega.{arith}
use lib.Dec.{eqb}
use lib.IntN.{ℤ, pos, negsuc, ◌-ℤ◌}
use lib.Signed.{lt_z}
use borrow.Author.Tests.{eq-eqb, eqb-true}
use Rattle.std.specs.Prelude.{unsigned_abs}
use Rattle.std.specs.List.{list_all}
use Rattle.std.specs.Ordering.{int_eq}
use Rattle.std.proofs.lemmas.Bool.{true_from_ne_false}
use Rattle.std.proofs.lemmas.Int.{ints}
use Rattle.std.proofs.Math.Nat.{eq_of_mul-eq-mul_right}
use Rattle.std.proofs.lemmas.Bool.Decides.{same_from_decides, Decides-int_eq}
use Rattle.geometry.specs.inner.Each.{Each}
use Rattle.geometry.proofs.Split.{both, and-fst, and-snd, same_answer}
use Rattle.slope.specs.Track.{Point}
use Rattle.slope.specs.Line.{on_line_lem, on_lines, on_one_line_lem}
use Rattle.slope.specs.Enough.{Rise, Rising}
use Rattle.slope.proofs.Rises.{Beyond, rising-without, rising-beyond, rise-further}

-- from one coordinate to a greater one
abbrev step : ℤ → ℤ → ℕ
step c d = unsigned_abs (d -ℤ c)

step-is : (c d : ℤ) → lt_z c d ≡ true → (d -ℤ c ≡ pos (step c d)) × (0 < step c d)
step-is c d h = by (d -ℤ c) refl
  where
    by : (z : ℤ) → d -ℤ c ≡ z → (z ≡ pos (unsigned_abs z)) × (0 < unsigned_abs z)
    by (pos n) e = (refl, omega (arith, ints))
    by (negsuc n) e = absurd (omega (arith, ints))

step-further : (c d e : ℤ) → lt_z c d ≡ true → lt_z d e ≡ true → step c e ≡ step c d + step d e
step-further c d e h k =
    let both-steps : lt_z c e ≡ true = true_from_ne_false _ (λ fails. omega (arith, ints)) in
    omega (arith, ints, (step-is c d h).0, (step-is d e k).0, (step-is c e both-steps).0)

-- numbers of that size are equal as integers exactly if they are equal
same_number : (m n : ℕ) → int_eq (pos m) (pos n) ≡ eqb m n
same_number m n =
    same_from_decides (int_eq (pos m) (pos n)) (eqb m n) (Decides-int_eq (pos m) (pos n)) (λ e. ap pos (eqb-true m n e), λ e. eq-eqb m n (ap unsigned_abs e))

-- the test of three marks, by what lies between the first and the others across and upwards
pub on-line-by-steps : (a b c : Point) (p q m n : ℕ) → c.x -ℤ a.x ≡ pos p → b.y -ℤ a.y ≡ pos n → c.y -ℤ a.y ≡ pos q
    → b.x -ℤ a.x ≡ pos m
    → on_line_lem a b c ≡ eqb (p * n) (q * m)
on-line-by-steps a b c p q m n c-across b-upwards c-upwards b-across = rw (c-across, b-upwards, c-upwards, b-across) (same_number (p * n) (q * m))

on-line-by-rise : (a b c : Point) → Rise a b → Rise a c → on_line_lem a b c ≡ eqb (step a.x c.x * step a.y b.y) (step a.y c.y * step a.x b.x)
on-line-by-rise a b c r s =
    on-line-by-steps a b c _ _ _ _ (step-is a.x c.x s.in-x).0 (step-is a.y b.y r.in-y).0 (step-is a.y c.y s.in-y).0 (step-is a.x b.x r.in-x).0

-- the line through the first two marks, A across and B upwards
module _ (A B : ℕ) (some : 0 < A) where
  -- the step from u to v goes along the line
  abbrev Along : Point → Point → Type 0
  Along u v = step u.x v.x * B ≡ step u.y v.y * A

  -- so does the step between two marks to which steps from a third do
  along-between : (u v w : Point) → Rise u v → Rise v w → Along u v → Along u w → Along v w
  along-between u v w r s h k =
      let across = step-further u.x v.x w.x r.in-x s.in-x in
      let upright = step-further u.y v.y w.y r.in-y s.in-y in
      omega (arith, ap (λ n. n * B) across, ap (λ n. n * A) upright)

  -- and three such marks are on one line
  along-on-line : (u v w : Point) → Rise u v → Rise v w → Along u v → Along u w → on_line_lem u v w ≡ true
  along-on-line u v w r s h k = on-line-by-rise u v w r (rise-further r s) ∙ eq-eqb _ _ (cancel _ _ _ _ h k)
    where
      cancel : (p q m n : ℕ) → p * B ≡ q * A → m * B ≡ n * A → m * q ≡ n * p
      cancel p q m n e f = eq_of_mul-eq-mul_right A some (m * q) (n * p) (omega (arith, ap (λ x. m * x) e, ap (λ x. x * p) f))

  along-each : (u v : Point) (ws : List Point) → Rise u v → Along u v → Beyond v ws → Each (Along u) ws → list_all (on_line_lem u v) ws ≡ true
  along-each u v [] r h beyond each = refl
  along-each u v (w ∷ ws) r h beyond each =
      both _ _ (along-on-line u v w r beyond.0 h each.0) (along-each u v ws r h beyond.1 each.1)

  along-lines : (u : Point) (vs : List Point) → Rising (u ∷ vs) → Each (Along u) vs → on_lines u vs ≡ true
  unfolding on_lines
  along-lines u [] r each = refl
  along-lines u (v ∷ ws) r each =
      both _ _ (along-each u v ws r.0 each.0 (rising-beyond v ws r.1) each.1)
      (along-lines u ws (rising-without u v ws r) each.1)

  -- what goes along the line from a mark goes along it from the next one
  along-from-next : (u v : Point) (ws : List Point) → Rise u v → Along u v → Beyond v ws → Each (Along u) ws → Each (Along v) ws
  along-from-next u v [] r h beyond each = tt
  along-from-next u v (w ∷ ws) r h beyond each = (along-between u v w r beyond.0 h each.0, along-from-next u v ws r h beyond.1 each.1)

  all-on-line : (u : Point) (vs : List Point) → Rising (u ∷ vs) → Each (Along u) vs → on_one_line_lem (u ∷ vs) ≡ true
  unfolding on_one_line_lem on_lines
  all-on-line u [] r each = refl
  all-on-line u (v ∷ ws) r each =
      both _ _ (along-lines u (v ∷ ws) r each)
      (all-on-line v ws r.1 (along-from-next u v ws r.0 each.0 (rising-beyond v ws r.1) each.1))

-- a mark on one line with the first two lies along it from the first
tested-along : (a b : Point) (cs : List Point) → Rise a b → Beyond a cs → list_all (on_line_lem a b) cs ≡ true
    → Each (λ c. step a.x c.x * step a.y b.y ≡ step a.y c.y * step a.x b.x) cs
tested-along a b [] r beyond h = tt
tested-along a b (c ∷ cs) r beyond h = (
  eqb-true _ _ (sym (on-line-by-rise a b c r beyond.0) ∙ and-fst (on_line_lem a b c) _ h),
  tested-along a b cs r beyond.1 (and-snd (on_line_lem a b c) _ h),
)

pub by-first-two : (a b : Point) (ps : List Point) → Rising (a ∷ b ∷ ps) → list_all (on_line_lem a b) ps ≡ on_one_line_lem (a ∷ b ∷ ps)
unfolding on_one_line_lem on_lines
by-first-two a b ps r =
    let across = step a.x b.x in
    let upright = step a.y b.y in
    same_answer _ _
    (λ h. all-on-line across upright (step-is a.x b.x r.0.in-x).1 a (b ∷ ps) r
    (omega arith, tested-along a b ps r.0 (rising-beyond a (b ∷ ps) r).1 h))
    (λ h. and-fst (list_all (on_line_lem a b) ps) _ (and-fst (on_lines a (b ∷ ps)) _ h))
