-- The table is renewed part by part: a row by its cells, the whole by its rows. Each part begins where the last one ended, and the work
-- area beyond its named part is all the while as it was.
use mathlib.Core.Path.{◌≡◌, ◌∙◌}
use mathlib.Core.List.{List}
use Prim.Native.Nat.{ℕ}
use native.Mathlib.Omega.{arith}
use lib.ListN.{length}
use Rattle.geometry.specs.Strip.{Strip}
use Rattle.best.specs.inner.Table.{Renewing, Renewed}
use Rattle.best.proofs.TableRenewed.{at_bound}

module _ (g : ℕ) (s : Strip) (k : ℕ) where
  -- what the next part asks
  pub renewed-so-far : (reaches old work : List ℕ) (b d : ℕ) → Renewing g s reaches old k b → length work ≡ length old → Renewed g s k d old work
      → Renewing g s reaches work k d
  renewed-so-far reaches old work b d r e done =
      record { reaches_known = r.reaches_known; roomy = omega arith; in-strip = r.in-strip; partly = done.partly }

  -- one part more
  pub renewed-more : (old work new : List ℕ) (b d e : ℕ) → d ≡ e → Renewed g s k b old work → Renewed g s k d work new
      → Renewed g s k e old new
  renewed-more old work new b d e same done more =
      record { partly = at_bound g s k new d e same more.partly; rest-kept = more.rest-kept ∙ done.rest-kept }
