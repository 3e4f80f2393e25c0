-- "Labels are open: two on the same side overlap exactly if their spans share more than an end point. They may touch each
-- other and cover other marks. Labels on different sides never overlap." Document 02, P2: "Two labels on one side overlap if their spans
-- share more than an end point, or if fewer than that many dots lie between their nearer ends. Gap 0 is the old meaning."
use Rattle.std.specs.Prelude.{ℕ, ◌+◌, ◌-◌, List, [], ◌∷◌, Bool, true, false, not, ◌&&◌, leb, ltb}
use Rattle.geometry.specs.Mark.{Mark}
use Rattle.geometry.specs.Position.{Direction, leftward, rightward, Position, unlabelled, at, same_side, labelled}

-- a label's ends: [place − length, place] to the left of its mark, [place, place + length] to the right
abbrev pub left_end : Mark → Direction → ℕ
left_end m leftward = m.place - m.label_length
left_end m rightward = m.place

abbrev pub right_end : Mark → Direction → ℕ
right_end m leftward = m.place
right_end m rightward = m.place + m.label_length

-- the label of m at p and that of n at q overlap at a gap of g dots
abbrev pub overlaps : ℕ → Mark → Position → Mark → Position → Bool
overlaps g m unlabelled n q = false
overlaps g m (at s d) n unlabelled = false
overlaps g m (at s d) n (at t e) = same_side s t && (ltb (left_end m d) (right_end n e + g) && ltb (left_end n e) (right_end m d + g))

-- the words of it, one by one, for two labels of one side (`overlap-in-words` in proofs/ ties them to the definition): "their spans share
-- more than an end point"
abbrev pub shares_more : Mark → Direction → Mark → Direction → Bool
shares_more m d n e = ltb (left_end m d) (right_end n e) && ltb (left_end n e) (right_end m d)

-- "fewer than that many dots lie between their nearer ends", where the label of n lies to the right of that of m
abbrev pub fewer_between : ℕ → Mark → Direction → Mark → Direction → Bool
fewer_between g m d n e = leb (right_end m d) (left_end n e) && ltb (left_end n e - right_end m d) g

-- the label of m at p overlaps none of the labels of the marks ns at qs
unfoldable pub apart : ℕ → Mark → Position → List Mark → List Position → Bool
apart g m p [] qs = true
apart g m p (n ∷ ns) [] = true
apart g m p (n ∷ ns) (q ∷ qs) = not (overlaps g m p n q) && apart g m p ns qs

-- "it is overlap-free if no two of its labels overlap", pair by pair; a choice has exactly as many entries as there are marks
unfoldable pub free : ℕ → List Mark → List Position → Bool
free g [] [] = true
free g [] (p ∷ ps) = false
free g (m ∷ ms) [] = false
free g (m ∷ ms) (p ∷ ps) = apart g m p ms ps && free g ms ps

-- every entry is one of 1 to 4
unfoldable pub all_labelled : List Position → Bool
all_labelled [] = true
all_labelled (p ∷ ps) = labelled p && all_labelled ps
