-- `listing::put_short` meets its contract: the three lines one behind the other, by what the slide and the best pass say.
use mathlib.Core.Path.{◌≡◌, subst}
use mathlib.Core.List.{List, ◌++◌}
use Prim.Native.Nat.{ℕ}
use native.Mathlib.Omega.{arith}
use lib.ListN.{take}
use Rattle.geometry.specs.Strip.{lists_of}
use Rattle.std.proofs.Common.{rules}
use Rattle.listing.proofs.Sums.{earned-most}
use Rattle.listing.specs.Text.{slide_line, best_line, out_line}
use Rattle.listing.proofs.StripText.{joined}
use Rattle.listing.proofs.put_short.Goals as goal

-- the list printed is its first `n` numbers
printed : (before left_out : List ℕ) {after : List ℕ} {n m : ℕ} → after ≡ before ++ out_line (take n left_out) → n ≡ m
    → after ≡ before ++ out_line (take m left_out)
printed before left_out {after} p e = subst (λ (k : ℕ). after ≡ before ++ out_line (take k left_out)) e p

pub overflow_cast-found : goal.overflow_cast-found
overflow_cast-found c =
    let short = c.args.short in
    let most = earned-most (lists_of short.strip) short.good c.choose-found.ensures in
    search rules

pub returns : goal.returns
returns c =
    let found = c.choose-found in
    let before = c.args.text.now.items in
    let slide = slide_line c.slides.result in
    let best = best_line found.result.sum c.total_weight.result in
    let out = out_line (take found.result.count found.new.left_out) in
    record {
      out = _;
      chosen = found.ensures.chosen;
      appended = rw (← c.slides.ensures, ← found.ensures.sum_is, ← c.total_weight.ensures)
          (joined before (slide ++ best) out (joined before slide best c.put_slide.ensures c.put_sums.ensures)
          (printed _ _ c.put_out.ensures (omega arith)));
    }
