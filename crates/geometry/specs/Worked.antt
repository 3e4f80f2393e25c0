-- "Strips worked through": the cases marked *, as one list of claims.
use Rattle.std.specs.Prelude.{ℕ, ◌≤◌, ◌≡◌, List, [], ◌∷◌, map, true, pos, length, replicate}
use Rattle.std.proofs.Math.Option.{none, some}
use Rattle.geometry.specs.Mark.{Mark}
use Rattle.geometry.specs.Strip.{Strip, strip, marks_of}
use Rattle.geometry.specs.Position.{Position, code}
use Rattle.geometry.specs.Overlap.{free}
use Rattle.geometry.specs.Placing.{first_placing, sum_of, best_sum, left_out_from}
use Rattle.geometry.specs.Sliding.{Slides}
use Rattle.geometry.specs.Layout.{unbeaten_count}

-- "Length 10 and weight 1 unless said": the strip with these places and weights, each label 10 long
abbrev pub weighted : List ℕ → List ℕ → Strip
weighted places weights = strip (map pos places) (replicate (length places) 10) weights

abbrev pub plain : List ℕ → Strip
plain places = weighted places (replicate (length places) 1)

-- what document 01 says of a strip
pub data Says : Type 0 where
  full_is : List ℕ → Says
  full_none : Says
  slide_fits : Says
  slide_none : Says
  best_is : ℕ → Says
  best_out : ℕ → List ℕ → Says
  unbeaten_is : ℕ → Says

-- "slide 11" speaks of every denominator; `best_out s out`: every overlap-free choice with sum s leaves out exactly those marks
abbrev pub HoldsOf : List Mark → Says → Type 0
HoldsOf ms (full_is codes) = (ps : List Position) × (first_placing 0 ms ≡ some ps) × (map code ps ≡ codes)
HoldsOf ms full_none = first_placing 0 ms ≡ none
HoldsOf ms slide_fits = Slides 0 1 ms
HoldsOf ms slide_none = (n : ℕ) → 1 ≤ n → Slides 0 n ms → ⊥
HoldsOf ms (best_is s) = best_sum 0 ms ≡ s
HoldsOf ms (best_out s out) = (best_sum 0 ms ≡ s) × ((ps : List Position) → free 0 ms ps ≡ true → sum_of ms ps ≡ s → left_out_from 1 ps ≡ out)
HoldsOf ms (unbeaten_is k) = unbeaten_count 0 ms ≡ k

abbrev pub Holds : Strip → Says → Type 0
Holds s says = HoldsOf (marks_of s) says

-- one sentence of a case
pub record Claim : Type 0 where
  pub strip : Strip
  pub says : Says

-- the cases marked *, in document 01's order
abbrev pub starred : List Claim
starred =
    -- 1. No marks: full and slide fit, best sum 0.
    record { strip = plain []; says = full_is [] }
    ∷ record { strip = plain []; says = slide_fits }
    ∷ record { strip = plain []; says = best_is 0 }
    -- 2. Place 0: full 2.
    ∷ record { strip = plain (0 ∷ []); says = full_is (2 ∷ []) }
    -- 3. 0, 1: full 2 3.
    ∷ record { strip = plain (0 ∷ 1 ∷ []); says = full_is (2 ∷ 3 ∷ []) }
    -- 4. 0, 1, 2, 3: full 2 3 1 4.
    ∷ record { strip = plain (0 ∷ 1 ∷ 2 ∷ 3 ∷ []); says = full_is (2 ∷ 3 ∷ 1 ∷ 4 ∷ []) }
    -- 5. 0, 1, 2, 3, 4: full 11, slide 11, best sum 4.
    ∷ record { strip = plain (0 ∷ 1 ∷ 2 ∷ 3 ∷ 4 ∷ []); says = full_none }
    ∷ record { strip = plain (0 ∷ 1 ∷ 2 ∷ 3 ∷ 4 ∷ []); says = slide_none }
    ∷ record { strip = plain (0 ∷ 1 ∷ 2 ∷ 3 ∷ 4 ∷ []); says = best_is 4 }
    -- 6. The same with weights 1, 9, 9, 9, 9: best 36, mark 1 out.
    ∷ record { strip = weighted (0 ∷ 1 ∷ 2 ∷ 3 ∷ 4 ∷ []) (1 ∷ 9 ∷ 9 ∷ 9 ∷ 9 ∷ []); says = best_out 36 (1 ∷ []) }
    -- 7. 0, 1, 2, 3, 12: full 2 3 1 4 1, by touching at 12.
    ∷ record { strip = plain (0 ∷ 1 ∷ 2 ∷ 3 ∷ 12 ∷ []); says = full_is (2 ∷ 3 ∷ 1 ∷ 4 ∷ 1 ∷ []) }
    -- 8. 0, 1, 2, 3, 11: full 2 1 3 4 1.
    ∷ record { strip = plain (0 ∷ 1 ∷ 2 ∷ 3 ∷ 11 ∷ []); says = full_is (2 ∷ 1 ∷ 3 ∷ 4 ∷ 1 ∷ []) }
    -- 9. 0, 1, 2, 3, 10: full 11; slide fits.
    ∷ record { strip = plain (0 ∷ 1 ∷ 2 ∷ 3 ∷ 10 ∷ []); says = full_none }
    ∷ record { strip = plain (0 ∷ 1 ∷ 2 ∷ 3 ∷ 10 ∷ []); says = slide_fits }
    -- 10. 0, 1, 2, 3, 9: slide 11.
    ∷ record { strip = plain (0 ∷ 1 ∷ 2 ∷ 3 ∷ 9 ∷ []); says = slide_none }
    -- 11. Strip 9 with weights 9, 2, 9, 9, 9: best 36, mark 2 out.
    ∷ record { strip = weighted (0 ∷ 1 ∷ 2 ∷ 3 ∷ 10 ∷ []) (9 ∷ 2 ∷ 9 ∷ 9 ∷ 9 ∷ []); says = best_out 36 (2 ∷ []) }
    -- 12. Count of unbeaten part layouts after 0, 5: two; after 0, 10: one.
    ∷ record { strip = plain (0 ∷ 5 ∷ []); says = unbeaten_is 2 }
    ∷ record { strip = plain (0 ∷ 10 ∷ []); says = unbeaten_is 1 }
    ∷ []
