-- `labeller::list` meets its contract: no text is longer than the output, so the listing is never refused, and no text is empty.
use mathlib.Core.Path.{sym, subst}
use mathlib.Core.List.{List}
use Prim.Native.Nat.{ℕ, ◌<◌, ◌≤◌}
use borrow.Author.Rules.{rules}
use lib.ListN.{length, get_or}
use Rattle.listing.specs.Listing.{TextOf, Listed, ListingContract, text_most}
use Rattle.listing.proofs.TextFits.{never-too-small, text-used, listed-given}
use Rattle.labeller.specs.Printed.{Printed}
use Rattle.labeller.proofs.list.Goals as goal

printed : {job entry exit : List ℕ} {r : Listed} → ListingContract job entry exit r → ((i : ℕ) → get_or job i 0 < 256) → text_most ≤ length entry
    → Printed job exit r.length
printed {job} {entry} {exit} {r} call bytes room =
    let used = text-used call bytes room in
    record { text_of = subst (TextOf job) (sym used.0) call.text_of; not-empty = used.2; within = used.1 }

pub unwrap-requires : goal.unwrap-requires
unwrap-requires c =
    listed-given c.listing.result (never-too-small c.listing.ensures (λ i. (c.type_inv.job i).fits) (search rules)).0

pub returns : goal.returns
returns c = printed (rw c.unwrap.ensures at c.listing.ensures) (λ i. (c.type_inv.job i).fits) (search rules)
