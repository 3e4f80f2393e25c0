-- Document 02, P8: "Survey offices tune weights and fear that a nudge upsets the strip. To be shown, at one and the same gap, for any two
-- strips that best accepts, alike but for one mark's weight: their best sums differ by at most the difference of those weights, and do not
-- move the other way. Taking a mark out, the gap kept, lowers the best sum by no more than its weight and never raises it."
use Rattle.std.specs.Prelude.{ℕ, ◌-◌, ◌+◌, ◌≤◌, ◌≡◌, List, [], ◌∷◌, ◌++◌, length, remove}
use Rattle.geometry.specs.Mark.{Mark, with_weight}
use Rattle.geometry.specs.Strip.{Strip, strip, marks_of, most_short}
use Rattle.geometry.specs.Placing.{best_sum}
use Rattle.geometry.specs.Refusal.{accepted}
use Rattle.geometry.specs.Entry.{entry}
use Rattle.geometry.specs.Worked.{weighted}
use Rattle.best.specs.Best.{BestAnswer, BestLent, BestContract}
use Rattle.best.specs.LeftOut.{weight_of_lem}

-- "Marks are numbered from 1."
pub record IsMark (k : ℕ) (s : Strip) : Type 0 where
  pub from-1 : 1 ≤ k
  pub to-last : k ≤ length s.places

-- two strips "alike but for one mark's weight", that of mark k
pub record AlikeBut (k : ℕ) (s t : Strip) : Type 0 where
  pub places-alike : t.places ≡ s.places
  pub lengths-alike : t.lengths ≡ s.lengths
  pub other-weights-alike : remove t.weights (k - 1) ≡ remove s.weights (k - 1)

-- the strip with mark k taken out
abbrev pub without : ℕ → Strip → Strip
without k s = strip (remove s.places (k - 1)) (remove s.lengths (k - 1)) (remove s.weights (k - 1))

-- Two best sums: `sum` where a mark has `weight`, `new_sum` where it has `new_weight`.
pub record Follows (weight new_weight sum new_sum : ℕ) : Type 0 where
  -- "do not move the other way"
  pub not-lowered : weight ≤ new_weight → sum ≤ new_sum
  pub not-raised : new_weight ≤ weight → new_sum ≤ sum
  -- "differ by at most the difference of those weights"
  pub raised-at-most : weight ≤ new_weight → new_sum ≤ sum + (new_weight - weight)
  pub lowered-at-most : new_weight ≤ weight → sum ≤ new_sum + (weight - new_weight)

-- Two best sums: `sum` with a mark of that weight, `rest` where it is taken out.
pub record Lowered (weight sum rest : ℕ) : Type 0 where
  -- "lowers the best sum by no more than its weight"
  pub lowered-at-most : sum ≤ rest + weight
  -- "and never raises it"
  pub not-raised : rest ≤ sum

-- a sum that some call of the best pass reports for a strip, with number 0; what it is lent and which choice it lists does not matter
pub record Reports (s : Strip) (gap sum : ℕ) : Type 0 where
  pub lent : BestLent
  pub left : BestLent
  pub answer : BestAnswer
  pub meets : BestContract s gap lent left answer
  pub number-zero : answer.number ≡ 0
  pub sum_is : answer.sum ≡ sum

-- The request (proofs/OneWeight.antt proves all of it): first for all lists of marks, in any order and of any length; then "for any two
-- strips that best accepts", with the lists as they are given to best; then for what two calls report.
pub record OneWeight : Type 0 where
  -- one weight changed
  pub marks-alike : (g : ℕ) (before after : List Mark) (m : Mark) (w : ℕ)
      → Follows m.weight w (best_sum g (before ++ m ∷ after)) (best_sum g (before ++ with_weight w m ∷ after))
  pub strips-alike : (s t : Strip) (g k : ℕ) → entry most_short s ≡ accepted → entry most_short t ≡ accepted → IsMark k s → AlikeBut k s t
      → Follows (weight_of_lem s.weights k) (weight_of_lem t.weights k) (best_sum g (marks_of s)) (best_sum g (marks_of t))
  pub calls-alike : (s t : Strip) (gap k sum new_sum : ℕ) → Reports s gap sum → Reports t gap new_sum → IsMark k s → AlikeBut k s t
      → Follows (weight_of_lem s.weights k) (weight_of_lem t.weights k) sum new_sum
  -- one mark taken out; best accepts what is left
  pub marks-without : (g : ℕ) (before after : List Mark) (m : Mark)
      → Lowered m.weight (best_sum g (before ++ m ∷ after)) (best_sum g (before ++ after))
  pub strips-without : (s : Strip) (g k : ℕ) → entry most_short s ≡ accepted → IsMark k s
      → Lowered (weight_of_lem s.weights k) (best_sum g (marks_of s)) (best_sum g (marks_of (without k s)))
  pub calls-without : (s : Strip) (gap k sum rest : ℕ) → Reports s gap sum → Reports (without k s) gap rest → IsMark k s
      → Lowered (weight_of_lem s.weights k) sum rest
  pub without-accepted : (s : Strip) (k : ℕ) → entry most_short s ≡ accepted → IsMark k s → entry most_short (without k s) ≡ accepted

-- No smaller bound would be true, and none of these is an equation. The places and lengths of strip 11 of document 01 with any weights:
abbrev pub strip_11_weighing : List ℕ → Strip
strip_11_weighing weights = weighted (0 ∷ 1 ∷ 2 ∷ 3 ∷ 10 ∷ []) weights

-- and strip 11 itself, which leaves mark 2 out
abbrev pub strip_11 : Strip
strip_11 = strip_11_weighing (9 ∷ 2 ∷ 9 ∷ 9 ∷ 9 ∷ [])

-- best accepts a strip, and this is its sum at gap 0
abbrev pub HasSum : Strip → ℕ → Type 0
HasSum s sum = (entry most_short s ≡ accepted) × (best_sum 0 (marks_of s) ≡ sum)

pub record BoundsMet : Type 0 where
  pub at-first : HasSum strip_11 36
  -- mark 1 weighs 12 in place of 9, and the sum follows by all of the difference
  pub raised-by-all : HasSum (strip_11_weighing (12 ∷ 2 ∷ 9 ∷ 9 ∷ 9 ∷ [])) 39
  -- mark 2 weighs 9 in place of 2, and the sum follows by nothing; it weighs 12, and the sum follows by 3 of 10
  pub raised-by-none : HasSum (strip_11_weighing (9 ∷ 9 ∷ 9 ∷ 9 ∷ 9 ∷ [])) 36
  pub raised-by-some : HasSum (strip_11_weighing (9 ∷ 12 ∷ 9 ∷ 9 ∷ 9 ∷ [])) 39
  -- mark 2 is taken out, and nothing is lost; or mark 1, and 7 of its 9 are; and then, of the four left, the first, and all of its 2 are
  pub none-lost : HasSum (without 2 strip_11) 36
  pub some-lost : HasSum (without 1 strip_11) 29
  pub all-lost : HasSum (without 1 (without 1 strip_11)) 27
