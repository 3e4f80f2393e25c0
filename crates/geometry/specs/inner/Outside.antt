-- Two numbers outside the coordinates, as dots; the third is `empty_reach`, −32,767. No label of an accepted mark begins or ends there.
use Rattle.std.specs.Prelude.{ℕ}

-- a bound that no reach meets: −32,768
abbrev pub no_reach : ℕ
no_reach = 0

-- a bound that every reach meets: 32,767
abbrev pub no_bound : ℕ
no_bound = 65535
