-- The words of 16 bits that stand for places: a word below 32,768 stands for a place from 0 on, and another for a negative place. The
-- library reads and writes them so.
use mathlib.Core.Path.{◌≡◌, refl, sym, ◌∙◌, ap}
use mathlib.Core.Bool.{cond}
use mathlib.Core.Logic.{inl, inr}
use Prim.Native.Nat.{ℕ, suc, ◌-◌, ◌≤◌, ◌<◌}
use native.Mathlib.Omega.{arith}
use lib.IntN.{ℤ, pos, negsuc}
use lib.Signed.{mag}
use borrow.Author.Tests.{lt-ltb, le-ltb}
use mir.Syntax.{w16}
use mir.Val.{to_z, of_z}
use mir.Facts.{to_z-neg}
use mir.ValLaws.{to_z_pos}
use Rattle.geometry.proofs.Split.{by-ltb, lt-or-ge}
use Rattle.job.specs.Number.{signed, word_of}

-- the place of a word, in both halves
pub signed_low : (w : ℕ) → w < 32768 → signed w ≡ pos w
unfolding signed
signed_low w h = rw (lt-ltb w 32768 h) refl

pub signed_high : (w : ℕ) → 32768 ≤ w → signed w ≡ negsuc (65535 - w)
unfolding signed
signed_high w h = rw (le-ltb w 32768 h) refl

-- written and read back, read and written back
pub signed_word : (z : ℤ) → mag z < 32768 → signed (word_of z) ≡ z
unfolding word_of
signed_word (pos n) h = signed_low n h
signed_word (negsuc n) h = rw (signed_high (65535 - n) (omega arith)) (ap negsuc (omega arith))

pub word-signed : (w : ℕ) → w < 65536 → word_of (signed w) ≡ w
unfolding word_of signed
word-signed w h = by-ltb w 32768 (λ t. word_of (cond t (pos w) (negsuc (65535 - w))) ≡ w) (λ k. refl) (λ k. omega arith)

pub word_fits : (z : ℤ) → mag z < 32768 → word_of z < 65536
unfolding word_of
word_fits (pos n) h = omega arith
word_fits (negsuc n) h = omega arith

-- the number that the library reads in a word, and the word that it writes for a number
pub signed-is : (w : ℕ) → w < 65536 → to_z w16 w ≡ signed w
signed-is w h =
    elim (lt-or-ge w 32768) [
      | inl k ↦ to_z_pos w16 w k ∙ sym (signed_low w k)
      | inr k ↦ (let e : w ≡ 65536 - suc (65535 - w) = omega arith in ap (to_z w16) e ∙ to_z-neg w16 (65535 - w) (omega arith)) ∙ sym (signed_high w k)
    ]

pub word-is : (z : ℤ) → of_z w16 z ≡ word_of z
unfolding word_of
word-is (pos n) = refl
word-is (negsuc n) = omega arith
