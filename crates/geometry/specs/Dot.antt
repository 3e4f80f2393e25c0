-- "A mark has a place in dots, −30,000 to 30,000": a signed coordinate counted from −32,768, so that the model is one of
-- natural numbers. Overlap depends on differences alone, so this shift changes nothing (`overlap-by-signed-ends` in proofs/).
use Rattle.std.specs.Prelude.{ℕ, ◌+◌, ◌-◌, ℤ, pos, negsuc}

-- z + 32,768, for z of at least −32,768
abbrev pub dot : ℤ → ℕ
dot (pos n) = n + 32768
dot (negsuc n) = 32767 - n

-- "a side without labels reaches less than any place": the dot of −32,767
abbrev pub empty_reach : ℕ
empty_reach = 1
