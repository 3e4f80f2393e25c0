-- By what the best pass says.
use mathlib.Core.Path.{◌≡◌, refl, ◌∙◌, ap}
use mathlib.Core.List.{List}
use native.Mathlib.Omega.{arith}
use native.Mathlib.Nat.{le_refl}
use Prim.Native.Nat.{ℕ, ◌≤◌}
use lib.ListN.{length, replicate, length-replicate}
use Rattle.geometry.specs.Strip.{Strip, lists_of, most_short}
use Rattle.geometry.specs.Refusal.{accepted, number_of}
use Rattle.geometry.specs.Entry.{entry}
use Rattle.geometry.specs.declared.refusal.Refusal.{Refusal}
use Rattle.geometry.proofs.Verdicts.{refusal-positive}
use Rattle.geometry.proofs.Accepted.{entry-accepted, accept-pass}
use Rattle.std.specs.Prelude.{Result, Ok, Err, IsOk}
use Rattle.best.specs.declared.choice.Choice.{Choice}
use Rattle.best.specs.Best.{BestLent, best_lent, best_answer, best_checks, work_named}
use Rattle.listing.specs.Text.{listing_gap}
use Rattle.listing.proofs.passes.Short.choose.Goals as goal

-- what is lent beside the left-out list: positions and a work area of zeros
abbrev lent_to : List ℕ → BestLent
lent_to listed = best_lent (replicate most_short 0) listed (replicate work_named 0)

-- every check of the pass is passed
passed : (s : Strip) (listed : List ℕ) → entry most_short s ≡ accepted → most_short ≤ length listed
    → best_checks s listing_gap (lent_to listed) ≡ accepted
passed s listed entered room =
    let good = entry-accepted most_short s entered in
    accept-pass most_short s listing_gap _ work_named _ entered (omega arith)
    (omega (arith, good.few, room, length-replicate {A = ℕ} most_short 0))
    (rw (length-replicate {A = ℕ} work_named 0) (le_refl work_named))

-- so it does not refuse
chosen : (answer : Result Choice Refusal) → (best_answer answer).number ≡ 0 → IsOk answer
chosen (Ok choice) zero = refl
chosen (Err r) zero = absurd (refusal-positive r zero)

pub unwrap-requires : goal.unwrap-requires
unwrap-requires c =
    let all = passed (lists_of c.args.self.strip) c.args.left_out.now c.args.self.good c.requires in
    chosen c.best.result (c.best.ensures.number_is ∙ ap number_of all)
