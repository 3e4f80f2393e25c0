-- By what the slide pass says.
use mathlib.Core.Path.{◌≡◌, ◌∙◌}
use native.Mathlib.Omega.{arith}
use native.Mathlib.Nat.{le_refl}
use Prim.Native.Nat.{ℕ}
use lib.IntN.{pos}
use lib.ListN.{replicate, length-replicate}
use Rattle.geometry.specs.Strip.{Strip, lists_of, most_short}
use Rattle.geometry.specs.Refusal.{accepted}
use Rattle.geometry.specs.Entry.{entry}
use Rattle.geometry.proofs.Verdicts.{ok-is-zero}
use Rattle.geometry.proofs.Accepted.{entry-accepted, accept-pass}
use Rattle.slide.specs.Slide.{SlideLent, slide_lent, slide_checks, work_named}
use Rattle.listing.specs.Text.{listing_gap}
use Rattle.listing.proofs.PassAnswers.{slide-told}
use Rattle.listing.proofs.passes.Short.slides.Goals as goal

-- what is lent: zeros
abbrev lent : SlideLent
lent = slide_lent (replicate most_short 0) (replicate most_short (pos 0)) (replicate work_named 0)

-- every check of the pass is passed
passed : (s : Strip) → entry most_short s ≡ accepted → slide_checks s listing_gap lent ≡ accepted
passed s entered =
    let good = entry-accepted most_short s entered in
    accept-pass most_short s listing_gap _ work_named _ entered (omega arith) good.few
    (rw (length-replicate {A = ℕ} work_named 0) (le_refl work_named))

pub returns : goal.returns
returns c =
    let s = lists_of c.args.self.strip in
    rw (c.is_ok.ensures.value ∙ ok-is-zero c.slide.result) (slide-told s lent _ _ c.slide.ensures (passed s c.args.self.good))
