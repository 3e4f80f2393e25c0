-- "Where the labeller says no": the refusal numbers, and "The first check that is not passed decides." Document 02, P2: "12, gap over 8
-- [..]; it and every later number join document 01's table." P4: "13, a byte outside 32 to 126". P10: "15, a value not finite". P13: "18,
-- marks not on one line".
use Rattle.std.specs.Prelude.{ℕ, List, [], ◌∷◌, Bool, true, false, leb, Result, Ok, Err}
pub use Rattle.geometry.specs.declared.refusal.Refusal.{Refusal}
pub use Rattle.geometry.specs.declared.refusal.Refusal.TheVariants.{BytesEnd, StrayBit, AbsentValue, OutOfRange, BytesLeftOver, ListsUnequal}
pub use Rattle.geometry.specs.declared.refusal.Refusal.TheVariants.{TooManyMarks, BadMark, ListTooShort, WorkTooShort, NoPlacing, GapTooWide, StrayByte}
pub use Rattle.geometry.specs.declared.refusal.Refusal.TheVariants.{NotFinite, NotOnOneLine}

abbrev pub refusal_number : Refusal → ℕ
refusal_number BytesEnd = 1
refusal_number StrayBit = 2
refusal_number AbsentValue = 3
refusal_number OutOfRange = 4
refusal_number BytesLeftOver = 5
refusal_number ListsUnequal = 6
refusal_number TooManyMarks = 7
refusal_number BadMark = 8
refusal_number ListTooShort = 9
refusal_number WorkTooShort = 10
refusal_number NoPlacing = 11
refusal_number GapTooWide = 12
refusal_number StrayByte = 13
refusal_number NotFinite = 15
refusal_number NotOnOneLine = 18

pub data Verdict : Type 0 where
  accepted : Verdict
  refused : Refusal → Verdict

-- "An accepted call gives number 0"
abbrev pub number_of : Verdict → ℕ
number_of accepted = 0
number_of (refused r) = refusal_number r

-- "When an answer is an enum, a definition gives this paper's number and values for each of its cases.": what an answer says of the call,
-- whatever it hands over
abbrev pub verdict_of : {A : Type 0} → Result A Refusal → Verdict
verdict_of (Ok values) = accepted
verdict_of (Err r) = refused r

abbrev pub answer_number : {A : Type 0} → Result A Refusal → ℕ
answer_number answer = number_of (verdict_of answer)

-- a check and the refusal where it is not passed
pub record Check : Type 0 where
  pub passes : Bool
  pub otherwise : Refusal

-- the check that a count is at most so many
abbrev pub at_most : ℕ → ℕ → Refusal → Check
at_most count most r = record { passes = leb count most; otherwise = r }

abbrev pub after_check : Bool → Refusal → Verdict → Verdict
after_check true r v = v
after_check false r v = refused r

unfoldable pub first_failure : List Check → Verdict
first_failure [] = accepted
first_failure (c ∷ cs) = after_check c.passes c.otherwise (first_failure cs)
