-- What the test of a table says of the whole of it, it says of each entry.
use mathlib.Core.Path.{◌≡◌, ◌∙◌, ap}
use mathlib.Core.Bool.{true}
use mathlib.Core.List.{List, [], ◌∷◌}
use Prim.Native.Nat.{ℕ, zero, suc, ◌+◌, ◌-◌, ◌≤◌, ◌<◌}
use native.Mathlib.Omega.{arith}
use lib.Dec.{eqb}
use lib.ListN.{length, get_or}
use borrow.Author.Tests.{eqb-true}
use Rattle.geometry.proofs.Split.{and-fst, and-snd}
use Rattle.font.specs.Letters.{first_byte, last_byte, width_of}
use Rattle.font.specs.inner.Table.{follows_rule, is_font}

entry-is : (b : ℕ) (widths : List ℕ) → follows_rule b widths ≡ true → (k : ℕ) → k < length widths → get_or widths k 0 ≡ width_of (b + k)
entry-is b [] follows k h = absurd (omega arith)
entry-is b (w ∷ widths) follows zero h =
    eqb-true w (width_of b) (and-fst (eqb w (width_of b)) (follows_rule (suc b) widths) follows) ∙ ap width_of (omega arith)
entry-is b (w ∷ widths) follows (suc k) h =
    entry-is (suc b) widths (and-snd (eqb w (width_of b)) (follows_rule (suc b) widths) follows) k (omega arith) ∙ ap width_of (omega arith)

-- so the entry for a byte of the font is the byte's width
pub width-at : (widths : List ℕ) → is_font widths ≡ true → (b : ℕ) → (first_byte ≤ b) × (b ≤ last_byte)
    → get_or widths (b - first_byte) 0 ≡ width_of b
width-at widths right b within =
    let long = eqb (first_byte + length widths) (last_byte + 1) in
    let whole = eqb-true (first_byte + length widths) (last_byte + 1) (and-fst long (follows_rule first_byte widths) right) in
    let follows = and-snd long (follows_rule first_byte widths) right in
    entry-is first_byte widths follows (b - first_byte) (omega (arith, within, whole)) ∙ ap width_of (omega (arith, within))
