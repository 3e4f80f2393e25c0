-- Best and full agree: the best sum is the weight of all marks exactly if the strip has a placing.
-- A placing labels every mark, so it earns the weight of all marks, and no choice earns more. Each weight is at least 1, so a choice that
-- earns it all leaves no mark out: it is a placing.
use mathlib.Core.Path.{◌≡◌, refl, sym, ◌∙◌, ap}
use mathlib.Core.Bool.{true}
use mathlib.Core.List.{List, [], ◌∷◌}
use mathlib.Core.Logic.{inl, inr, ◌↔◌}
use mathlib.Core.Option.{Option, none, some}
use Prim.Native.Nat.{ℕ, ◌+◌, ◌≤◌}
use native.Mathlib.Omega.{arith}
use lib.IntN.{ℤ}
use lib.ListN.{length}
use Rattle.geometry.specs.Lists.{sum_list, words_of}
use Rattle.std.specs.List.{list_all}
use Rattle.geometry.specs.Mark.{Mark, weight_in_range_lem, most_weight}
use Rattle.geometry.specs.Strip.{Strip, marks_of_lists, marks_of}
use Rattle.geometry.specs.Position.{Side, above, below, Direction, leftward, rightward, Position, unlabelled, at, ranked, labelled}
use Rattle.geometry.specs.Overlap.{free, all_labelled}
use Rattle.geometry.specs.Placing.{IsPlacing, first_placing, sum_of, best_sum}
use Rattle.geometry.proofs.Split.{both, clash, one-to}
use Rattle.geometry.proofs.Words.{Member, Spelled, word-listed, word-spelled, found-passes, one_found, never-none}
use Rattle.geometry.proofs.Accepted.{first_good, rest-good}
use Rattle.geometry.proofs.Best.{free-length, best-bounds, best-attained}

-- "The weight of all marks is the sum of the weight list."
unfoldable pub weights_of : List Mark → List ℕ
weights_of [] = []
weights_of (m ∷ ms) = m.weight ∷ weights_of ms

-- the weights of the marks are the weight list
weights-of-lists : (zs : List ℤ) (ls ws : List ℕ) → length zs ≡ length ls → length zs ≡ length ws → weights_of (marks_of_lists zs ls ws) ≡ ws
unfolding weights_of marks_of_lists
weights-of-lists [] ls [] e f = refl
weights-of-lists [] ls (w ∷ ws) e f = absurd (omega arith)
weights-of-lists (z ∷ zs) [] ws e f = absurd (omega arith)
weights-of-lists (z ∷ zs) (l ∷ ls) [] e f = absurd (omega arith)
weights-of-lists (z ∷ zs) (l ∷ ls) (w ∷ ws) e f = ap (λ (ks : List ℕ). w ∷ ks) (weights-of-lists zs ls ws (omega arith) (omega arith))

pub weights-of-marks : (s : Strip) → length s.places ≡ length s.lengths → length s.places ≡ length s.weights
    → weights_of (marks_of s) ≡ s.weights
weights-of-marks s e f = weights-of-lists s.places s.lengths s.weights e f

-- a choice earns at most that, and exactly that if every mark has its label
pub sum-within : (ms : List Mark) (c : List Position) → sum_of ms c ≤ sum_list (weights_of ms)
unfolding sum_of sum_list weights_of
sum-within [] c = omega arith
sum-within (m ∷ ms) [] = omega arith
sum-within (m ∷ ms) (unlabelled ∷ c) = omega (arith, sum-within ms c)
sum-within (m ∷ ms) (at s d ∷ c) = omega (arith, sum-within ms c)

pub sum-of-all : (ms : List Mark) (c : List Position) → length c ≡ length ms → all_labelled c ≡ true → sum_of ms c ≡ sum_list (weights_of ms)
unfolding sum_of sum_list weights_of all_labelled
sum-of-all [] c n e = refl
sum-of-all (m ∷ ms) [] n e = absurd (omega arith)
sum-of-all (m ∷ ms) (unlabelled ∷ c) n e = clash e refl
sum-of-all (m ∷ ms) (at s d ∷ c) n e = ap (λ k. m.weight + k) (sum-of-all ms c (omega arith) e)

-- each weight is at least 1, so a mark without a label is missed in the sum
pub all-earn : (ms : List Mark) (c : List Position) → ((m : Mark) → Member m ms → 1 ≤ m.weight) → length c ≡ length ms
    → sum_of ms c ≡ sum_list (weights_of ms) → all_labelled c ≡ true
unfolding sum_of sum_list weights_of all_labelled
all-earn [] [] heavy n e = refl
all-earn [] (p ∷ c) heavy n e = absurd (omega arith)
all-earn (m ∷ ms) [] heavy n e = absurd (omega arith)
all-earn (m ∷ ms) (unlabelled ∷ c) heavy n e = absurd (omega (arith, sum-within ms c, heavy m (inl refl)))
all-earn (m ∷ ms) (at s d ∷ c) heavy n e = all-earn ms c (λ k h. heavy k (inr h)) (omega arith) (omega arith)

-- a choice that labels every mark is spelled with 2, 3, 1, 4, and the other way round
label-listed : (s : Side) (d : Direction) → Member (at s d) ranked
label-listed above leftward = inl refl
label-listed below leftward = inr (inl refl)
label-listed above rightward = inr (inr (inl refl))
label-listed below rightward = inr (inr (inr (inl refl)))

pub labelled-spelled : (c : List Position) → all_labelled c ≡ true → Spelled ranked c
unfolding all_labelled
labelled-spelled [] e = tt
labelled-spelled (unlabelled ∷ c) e = clash e refl
labelled-spelled (at s d ∷ c) e = (label-listed s d, labelled-spelled c e)

ranked-labelled : (p : Position) → Member p ranked → labelled p ≡ true
ranked-labelled p (inl e) = ap labelled e
ranked-labelled p (inr (inl e)) = ap labelled e
ranked-labelled p (inr (inr (inl e))) = ap labelled e
ranked-labelled p (inr (inr (inr (inl e)))) = ap labelled e
ranked-labelled p (inr (inr (inr (inr x4)))) = elim x4 [ ]

pub spelled-labelled : (c : List Position) → Spelled ranked c → all_labelled c ≡ true
unfolding all_labelled
spelled-labelled [] s = refl
spelled-labelled (p ∷ c) s = both (labelled p) (all_labelled c) (ranked-labelled p s.0) (spelled-labelled c s.1)

-- an overlap-free choice that labels every mark is a placing, and `first_placing` finds one
pub placing-found : (g : ℕ) (ms : List Mark) (c : List Position) → free g ms c ≡ true → all_labelled c ≡ true
    → (d : List Position) × (first_placing g ms ≡ some d)
unfolding first_placing
placing-found g ms c f l =
    one_found (free g ms) (words_of ranked (length ms)) c (rw (sym (free-length g ms c f)) (word-listed ranked c (labelled-spelled c l))) f

-- and what it finds is a placing
pub found-placing : (g : ℕ) (ms : List Mark) (c : List Position) → first_placing g ms ≡ some c → IsPlacing g ms c
unfolding first_placing
found-placing g ms c e =
    let r = found-passes (free g ms) (words_of ranked (length ms)) c e in
    record { is_free = r.1; labels-all = spelled-labelled c (word-spelled ranked (length ms) c r.0) }

-- the marks of three lists weigh what the weight list says
heavy-lists : (zs : List ℤ) (ls ws : List ℕ) → list_all weight_in_range_lem ws ≡ true → (m : Mark) → Member m (marks_of_lists zs ls ws)
    → 1 ≤ m.weight
unfolding marks_of_lists
heavy-lists (z ∷ zs) (l ∷ ls) (w ∷ ws) e m (inl k) = rw k (one-to most_weight w (first_good weight_in_range_lem w ws e)).0
heavy-lists (z ∷ zs) (l ∷ ls) (w ∷ ws) e m (inr h) = heavy-lists zs ls ws (rest-good weight_in_range_lem w ws e) m h
heavy-lists [] ls ws e m x'' = elim x'' [ ]
heavy-lists (z ∷ zs) [] ws e m x5 = elim x5 [ ]
heavy-lists (z ∷ zs) (l ∷ ls) [] e m x8 = elim x8 [ ]

-- every weight of the list is in its range, so every mark weighs at least 1
pub heavy-marks : (s : Strip) → list_all weight_in_range_lem s.weights ≡ true → (m : Mark) → Member m (marks_of s) → 1 ≤ m.weight
heavy-marks s e m h = heavy-lists s.places s.lengths s.weights e m h

-- what `first_placing` says, without the placing
not_none : {A : Type 0} (o : Option A) → (o ≡ none → ⊥) → (x : A) × (o ≡ some x)
not_none none f = absurd (f refl)
not_none (some x) f = (x, refl)

module _ (g : ℕ) (ms : List Mark) where
  -- a placing earns the weight of all marks
  pub placing-earns-all : (first_placing g ms ≡ none → ⊥) → best_sum g ms ≡ sum_list (weights_of ms)
  placing-earns-all f =
      let r = not_none (first_placing g ms) f in
      let p = found-placing g ms r.0 r.1 in
      let e = sum-of-all ms r.0 (free-length g ms r.0 p.is_free) p.labels-all in
      let b = best-attained g ms in
      omega (arith, best-bounds g ms r.0 p.is_free, sum-within ms b.choice, b.is-best)

  -- and where it is earned there is a placing, since no mark weighs nothing
  pub all-earned-places : ((m : Mark) → Member m ms → 1 ≤ m.weight) → best_sum g ms ≡ sum_list (weights_of ms) → first_placing g ms ≡ none → ⊥
  all-earned-places heavy e n =
      let b = best-attained g ms in
      let l = all-earn ms b.choice heavy (free-length g ms b.choice b.is_free) (b.is-best ∙ e) in
      let r = placing-found g ms b.choice b.is_free l in
      never-none r.0 (sym r.1 ∙ n)

-- the same of a strip: "the weight of all marks is the sum of the weight list"
pub best-whole-iff-placing : (g : ℕ) (s : Strip) → length s.places ≡ length s.lengths → length s.places ≡ length s.weights
    → list_all weight_in_range_lem s.weights ≡ true → (best_sum g (marks_of s) ≡ sum_list s.weights) ↔ (first_placing g (marks_of s) ≡ none → ⊥)
best-whole-iff-placing g s e f h =
    let w : sum_list (weights_of (marks_of s)) ≡ sum_list s.weights = ap sum_list (weights-of-marks s e f) in
    (λ b. all-earned-places g (marks_of s) (heavy-marks s h) (b ∙ sym w), λ n. placing-earns-all g (marks_of s) n ∙ w)
