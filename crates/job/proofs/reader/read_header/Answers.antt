-- `job::reader::read_header` meets its contract: the two words are the header's own, and the check on them decides.
use mathlib.Core.Path.{◌≡◌, sym, ◌∙◌}
use native.Mathlib.Omega.{arith}
use mir.Syntax.{w16}
use mir.Val.{to_z, of_z}
use Rattle.geometry.proofs.Dots.{fetched}
use Rattle.job.specs.Decode.{header_count, header_place}
use Rattle.job.proofs.HeaderChecks.{count-word, place-word, header-out, header-good}
use Rattle.job.proofs.reader.read_header.Goals as goal

pub returns-then-not-header_in_range-clause-header : goal.returns-then-not-header_in_range-clause-header
returns-then-not-header_in_range-clause-header c =
    let job = c.args.job.now in
    let n = c.from_be_bytes-count in
    let count : header_count job ≡ n.result = rw (n.ensures, c.in-Some.ensures.cases.1) (count-word job c.in-Some.ensures.cases.0) in
    let p = c.from_be_bytes-place in
    let place : header_place job ≡ to_z w16 (of_z w16 p.result) =
    rw (fetched p.result p.type_inv, p.ensures, c.in-Some.ensures.cases.1) (place-word job c.in-Some.ensures.cases.0 (λ i. omega (arith, c.type_inv.job i))) in
    sym (header-out job _ _ c.in-Some.ensures.cases.0 count place (sym c.header_in_range.ensures ∙ c.if-not-header_in_range.true))

pub returns-clause-header : goal.returns-clause-header
returns-clause-header c =
    let job = c.args.job.now in
    let n = c.from_be_bytes-count in
    let count : header_count job ≡ n.result = rw (n.ensures, c.in-Some.ensures.cases.1) (count-word job c.in-Some.ensures.cases.0) in
    let p = c.from_be_bytes-place in
    let place : header_place job ≡ to_z w16 (of_z w16 p.result) =
    rw (fetched p.result p.type_inv, p.ensures, c.in-Some.ensures.cases.1) (place-word job c.in-Some.ensures.cases.0 (λ i. omega (arith, c.type_inv.job i))) in
    sym (header-good job _ _ c.in-Some.ensures.cases.0 count place (sym c.header_in_range.ensures ∙ c.if-not-header_in_range.false))
