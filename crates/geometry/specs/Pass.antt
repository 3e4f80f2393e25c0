-- What the three passes share: the gap; "passes, answer: 9 an answer list shorter than the count"; "passes, work area: 10 shorter
-- than named"; and lent memory afterwards.
use Rattle.std.specs.Prelude.{ℕ, List, [], ◌∷◌, ◌++◌, length, drop, replicate}
use Rattle.geometry.specs.Strip.{Strip}
use Rattle.geometry.specs.Refusal.{Check, Verdict, accepted, refused, at_most, first_failure, GapTooWide, ListTooShort, WorkTooShort}
use Rattle.geometry.specs.Entry.{entry_checks}

-- "The passes take a gap, 0 to 8 dots." (document 02, P2)
abbrev pub most_gap : ℕ
most_gap = 8

-- "12, gap over 8, tested by the passes right after 6"
abbrev pub gap_checks : ℕ → List Check
gap_checks g = at_most g most_gap GapTooWide ∷ []

-- 9: the shortest answer list has the length shortest
abbrev pub answer_checks : ℕ → ℕ → List Check
answer_checks marks shortest = at_most marks shortest ListTooShort ∷ []

-- 10: the work area has the length lent, and the part of it that document 01 names the length named
abbrev pub work_checks : ℕ → ℕ → List Check
work_checks named lent = at_most named lent WorkTooShort ∷ []

-- the checks 6 to 10 and 12 of a pass that takes at most limit marks, at a gap of g dots
unfoldable pub pass_verdict : ℕ → Strip → ℕ → ℕ → ℕ → ℕ → Verdict
pass_verdict limit s g shortest named lent =
    first_failure (entry_checks (gap_checks g) limit s ++ answer_checks (length s.places) shortest ++ work_checks named lent)

-- "unchanged beyond their used part": a lent list whose used part holds xs
abbrev pub written {ℓ} : {A : Type ℓ} → List A → List A → List A
written xs old = xs ++ drop (length xs) old

-- a work area whose named part holds zeros
abbrev pub cleared {ℓ} : {A : Type ℓ} → ℕ → A → List A → List A
cleared named zero_value old = replicate named zero_value ++ drop named old

-- "Once checks 6 to 10 are passed", and with them 12, "the named part of the work area ends as zeros, also at refusal 11; the rest of it is unchanged."
abbrev pub work_after {ℓ} : {A : Type ℓ} → ℕ → A → Verdict → List A → List A
work_after named zero_value (refused r) old = old
work_after named zero_value accepted old = cleared named zero_value old
