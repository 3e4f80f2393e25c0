-- The code's two comparisons with numbers of 32 bits tell whether the place is in range.
use mathlib.Core.Path.{◌≡◌, refl, sym, ap, ◌∙◌}
use mathlib.Core.Bool.{Bool, true, false, ◌&&◌, ◌||◌}
use Prim.Native.Nat.{ℕ, ◌+◌, ◌*◌, ◌<◌}
use native.Mathlib.Omega.{arith}
use lib.Dec.{leb, ltb, eqb}
use Rattle.std.proofs.lemmas.Bool.{lt-ltb, le-leb, lt-leb}
use lib.Ieee.Fits.{down_pos}
use lib.Ieee.{Float, nan, inf, fin, binary32, up, down, of_bits, le, lt, eq}
use Rattle.geometry.proofs.Split.{by-ltb, by_eqb}
use Rattle.logger.specs.Value.{times}
use Rattle.logger.specs.inner.Dots.{most_size, in_range_lem}

-- −30,000 and 30,001 as numbers of 32 bits
abbrev pub least_bits : ℕ
least_bits = 0xc6ea_6000

abbrev pub beyond_bits : ℕ
beyond_bits = 0x46ea_6200

-- a number that is not below zero is above one that is
above-least : (n a : ℕ) (q : Bool) → 0 < a → (ltb 0 (a + n) || q) ≡ true
above-least n a q h = ap (λ (t : Bool). t || q) (lt-ltb 0 (a + n) (omega (arith, h)))

-- of two that are below zero the first is less or equal where its size is not more; and either is less than one above
at-least : (n m a b : ℕ) → m ≡ n → 0 < b → ((ltb m a || (eqb a m && true)) && ltb 0 (m + b)) ≡ leb n a
at-least n m a b same h =
    let above = lt-ltb 0 (m + b) (omega (arith, h)) in
    by-ltb m a (λ (t : Bool). ((t || (eqb a m && true)) && ltb 0 (m + b)) ≡ leb n a)
    (λ less. above ∙ sym (le-leb n a (omega (arith, same, less))))
    (λ not-less.
    by_eqb a m (λ (t : Bool). ((t && true) && ltb 0 (m + b)) ≡ leb n a) (λ equal. above ∙ sym (le-leb n a (omega (arith, same, equal))))
    (λ other. sym (lt-leb n a (omega (arith, same, not-less, other)))))

pub compared : (x : Float) → (le (of_bits binary32 least_bits) x && lt x (of_bits binary32 beyond_bits)) ≡ in_range_lem x
unfolding le lt eq of_bits times
compared nan = refl
compared (inf true) = refl
compared (inf false) = refl
compared (fin false m e) =
    let n = m * up e in
    let ends : 0 < most_size * down e = omega (arith, down_pos e) in
    ap (λ (t : Bool). t && ltb (n * 1) ((most_size + 1) * down e))
    (above-least (n * 1) (most_size * down e) (eqb (most_size * down e) (n * 1) && eqb (most_size * down e) 0) ends)
    ∙ ap (λ (k : ℕ). ltb k ((most_size + 1) * down e)) (omega arith)
compared (fin true m e) =
    let n = m * up e in
    at-least (1 * n) (n * 1) (most_size * down e) ((most_size + 1) * down e) (omega arith) (omega (arith, down_pos e))
