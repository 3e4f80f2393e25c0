-- `listing::passes::fits` meets its contract: by what the full pass says.
use mathlib.Core.Path.{◌≡◌, refl, sym, ◌∙◌, ap}
use mathlib.Core.List.{List}
use native.Mathlib.Omega.{arith}
use native.Mathlib.Nat.{le_refl}
use Prim.Native.Nat.{ℕ, ◌≤◌}
use lib.IntN.{pos}
use lib.ListN.{length, replicate, length-replicate}
use Rattle.geometry.specs.Strip.{Strip, lists_of, most_marks}
use Rattle.geometry.specs.Refusal.{accepted}
use Rattle.geometry.specs.Entry.{entry}
use Rattle.std.specs.Option.{is_some}
use Rattle.geometry.proofs.Accepted.{entry-accepted, accept-pass}
use Rattle.full.specs.Full.{FullLent, full_lent, full_checks, work_named}
use Rattle.listing.specs.Text.{listing_gap}
use Rattle.listing.proofs.PassAnswers.{some-is-zero, none-is-refused, full-none, full-within, full-found}
use Rattle.listing.proofs.passes.fits.Goals as goal

-- what is lent beside the positions: a work area of zeros
abbrev lent_to : List ℕ → FullLent
lent_to positions = full_lent positions (replicate work_named (pos 0))

-- every check of the pass is passed
passed : (s : Strip) (positions : List ℕ) → entry most_marks s ≡ accepted → most_marks ≤ length positions
    → full_checks s listing_gap (lent_to positions) ≡ accepted
passed s positions entered room =
    let good = entry-accepted most_marks s entered in
    accept-pass most_marks s listing_gap _ work_named _ entered (omega arith) (omega (arith, good.few, room))
    (rw (length-replicate work_named (pos 0)) (le_refl work_named))

-- what the contract of the pass gives
pub returns-in_err-ok : goal.returns-in_err-ok
returns-in_err-ok c =
    let s = lists_of c.args.strip in
    let positions = c.args.positions.now in
    rw c.from_residual.ensures
    (full-none s (lent_to positions) _ _ c.full.ensures (passed s positions c.requires.good c.requires.room)
    (entry-accepted most_marks s c.requires.good) (none-is-refused c.full.result (sym c.ok.ensures.variant ∙ ap is_some c.in_err-ok.was)))

pub slice_bounds-result-end : goal.slice_bounds-result-end
slice_bounds-result-end c =
    let s = lists_of c.args.strip in
    let positions = c.args.positions.now in
    full-within s (lent_to positions) _ _ c.full.ensures (passed s positions c.requires.good c.requires.room)
    (entry-accepted most_marks s c.requires.good) (some-is-zero c.full.result (sym c.ok.ensures.variant ∙ ap is_some c.in_ok-ok.was))

pub returns : goal.returns
returns c =
    let s = lists_of c.args.strip in
    let positions = c.args.positions.now in
    full-found s (lent_to positions) _ _ c.full.ensures (passed s positions c.requires.good c.requires.room)
    (entry-accepted most_marks s c.requires.good) (some-is-zero c.full.result (sym c.ok.ensures.variant ∙ ap is_some c.in_ok-ok.was)) _ refl
