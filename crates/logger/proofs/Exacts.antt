-- Exact numbers: when two are one number, and a number of 32 bits by any fraction that it equals.
use mathlib.Core.Path.{sym, ap, ◌∙◌}
use mathlib.Core.Bool.{Bool}
use Prim.Native.Nat.{ℕ, ◌*◌, ◌<◌}
use native.Mathlib.Nat.{mul_assoc, mul_right_comm, eq_of_mul-eq-mul_right}
use native.Mathlib.Omega.{arith}
use lib.Ieee.{Float, nan, inf, fin, up, down}
use lib.Ieee.Fits.{down_pos}
use lib.Ieee.Exact.{HasValue}
use Rattle.logger.specs.Value.{Exact, times}
use Rattle.logger.specs.Product.{Same}

abbrev pub exact : Bool → ℕ → ℕ → Exact
exact s n d = record { minus = s; size = n; parts = d }

pub same-back : (v w : Exact) → Same v w → Same w v
same-back v w h = record { signs = sym h.signs; sizes = sym h.sizes }

pub same-on : (v w u : Exact) → 0 < w.parts → Same v w → Same w u → Same v u
same-on v w u p h k = record {
  signs = h.signs ∙ k.signs;
  sizes = eq_of_mul-eq-mul_right w.parts p (v.size * u.parts) (u.size * v.parts)
      (mul_right_comm v.size u.parts w.parts
      ∙ ap (λ (x : ℕ). x * u.parts) h.sizes
      ∙ mul_right_comm w.size v.parts u.parts
      ∙ ap (λ (x : ℕ). x * v.parts) k.sizes
      ∙ mul_right_comm u.size w.parts v.parts);
}

pub parts-pos : (k : ℕ) (x : Float) → 0 < (times k x).parts
unfolding times
parts-pos k nan = omega arith
parts-pos k (inf s) = omega arith
parts-pos k (fin s m e) = down_pos e

-- so many times a number that is a / c
pub many : (k : ℕ) (x : Float) (s : Bool) (a c : ℕ) → HasValue x s a c → Same (times k x) (exact s (k * a) c)
unfolding times
many k nan s a c h = absurd h
many k (inf t) s a c h = absurd h
many k (fin t m e) s a c h = record {
  signs = h.0;
  sizes = mul_assoc k (m * up e) c ∙ ap (λ (x : ℕ). k * x) h.1 ∙ sym (mul_assoc k a (down e));
}
