-- "Unbeaten part layouts", by enumeration. (Part layout = k-realization; unbeaten = Pareto-minimal.)
use Rattle.std.specs.Prelude.{ℕ, max, min, ◌≡◌, List, [], ◌∷◌, map, Bool, true, not, cond, ◌&&◌, ◌||◌, leb, ltb, eqb, length, take}
use Rattle.geometry.specs.Lists.{any_of, keep}
use Rattle.std.specs.List.{list_all}
use Rattle.geometry.specs.Dot.{empty_reach}
use Rattle.geometry.specs.Mark.{Mark}
use Rattle.geometry.specs.Position.{Side, above, below, Position, unlabelled, at, same_side}
use Rattle.geometry.specs.Overlap.{right_end, free}
use Rattle.geometry.specs.Placing.{IsPlacing, placings}

-- "A part layout places all of the first k marks in four positions, no two labels overlapping": those of the marks ms
unfoldable pub part_layouts : ℕ → List Mark → List (List Position)
part_layouts g ms = keep (free g ms) (placings ms)

-- the right end of the label of m at p if it lies on side s, else nothing beyond r
abbrev pub reach_with : Side → Mark → Position → ℕ → ℕ
reach_with s m unlabelled r = r
reach_with s m (at t d) r = cond (same_side s t) (max (right_end m d) r) r

-- "Its two reaches are the right ends of the rightmost label above and below; a side without labels reaches less than any place."
unfoldable pub reach : Side → List Mark → List Position → ℕ
reach s [] ps = empty_reach
reach s (m ∷ ms) [] = empty_reach
reach s (m ∷ ms) (p ∷ ps) = reach_with s m p (reach s ms ps)

-- a pair of reaches, "taken without regard to side"
pub record Pair : Type 0 where
  pub larger : ℕ
  pub smaller : ℕ

abbrev pub pair_of : List Mark → List Position → Pair
pair_of ms ps = record { larger = max (reach above ms ps) (reach below ms ps); smaller = min (reach above ms ps) (reach below ms ps) }

-- "One part layout beats another if its larger reach is no greater than the other's larger, its smaller no greater than the
-- other's smaller, and one of the two is less."
abbrev pub beats : Pair → Pair → Bool
beats p q = leb p.larger q.larger && (leb p.smaller q.smaller && (ltb p.larger q.larger || ltb p.smaller q.smaller))

-- "A part layout is unbeaten if no part layout of the same marks beats it"
unfoldable pub unbeaten : ℕ → List Mark → List Position → Bool
unbeaten g ms ps = list_all (λ qs. not (beats (pair_of ms qs) (pair_of ms ps))) (part_layouts g ms)

abbrev pub same_pair : Pair → Pair → Bool
same_pair p q = eqb p.larger q.larger && eqb p.smaller q.smaller

-- each pair once
unfoldable pub distinct : List Pair → List Pair
distinct [] = []
distinct (p ∷ ps) = cond (any_of (same_pair p) ps) (distinct ps) (p ∷ distinct ps)

-- "The count after mark k is the number of different pairs of reaches, taken without regard to side, that no part layout of
-- those k marks beats."
unfoldable pub unbeaten_count : ℕ → List Mark → ℕ
unbeaten_count g ms = length (distinct (map (pair_of ms) (keep (unbeaten g ms) (part_layouts g ms))))

-- "The placing begins with the part layout that its first k positions form": a placing that begins with an unbeaten one
pub record BeginsUnbeaten (g k : ℕ) (ms : List Mark) : Type 0 where
  pub placing : List Position
  pub is-placing : IsPlacing g ms placing
  pub part-layout : IsPlacing g (take k ms) (take k placing)
  pub part-unbeaten : unbeaten g (take k ms) (take k placing) ≡ true
