-- What the function that makes the checks on entry gives those that call it.
use Rattle.std.specs.Prelude.{ℕ, ◌≡◌, List}
use Rattle.geometry.specs.Strip.{Strip}
use Rattle.geometry.specs.Refusal.{Check, Verdict, first_failure}
use Rattle.geometry.specs.Entry.{entry_checks}

-- the verdict that the checks on entry give where a call's own checks, those right after 6, have given the verdict own
abbrev pub VerdictOnEntry : Verdict → ℕ → Strip → Verdict → Type 0
VerdictOnEntry own limit s verdict = (checks : List Check) → own ≡ first_failure checks → verdict ≡ first_failure (entry_checks checks limit s)
