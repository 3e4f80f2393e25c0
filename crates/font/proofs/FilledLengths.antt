-- What an accepted call of `lengths` has filled the list with. The texts are the whole byte list, each is one that `measure` accepts, and
-- its length is what `measure` gives, since both are `text_width` of it; so a strip with these lengths passes the check of their range.
use mathlib.Core.Path.{◌≡◌}
use mathlib.Core.Bool.{true}
use mathlib.Core.List.{List, [], ◌∷◌, flatten}
use Prim.Native.Nat.{ℕ}
use lib.ListN.{take, drop}
use Rattle.std.specs.List.{list_all}
use Rattle.geometry.specs.Mark.{length_in_range_lem}
use Rattle.geometry.specs.Refusal.{accepted}
use Rattle.geometry.specs.inner.Each.{Each}
use Rattle.geometry.proofs.Every.{every_take, every_drop}
use Rattle.geometry.proofs.Accepted.{first_good, rest-good}
use Rattle.geometry.proofs.Verdicts.{all-passed, pass-one}
use Rattle.font.specs.Letters.{in_font_lem}
use Rattle.font.specs.Text.{text_width, texts_of, lengths_of}
use Rattle.font.specs.Calls.{letter_check, length_check, measure_verdict, lengths_verdict}
use Rattle.font.proofs.CutTexts.{texts-whole}
use Rattle.font.proofs.Contract.{accepted-parts}

-- a text with good letters and a length in range is measured
measures : (text : List ℕ) → list_all in_font_lem text ≡ true → length_in_range_lem (text_width text) ≡ true → measure_verdict text ≡ accepted
unfolding measure_verdict
measures text letters range =
    let width = length_check (length_in_range_lem (text_width text)) in
    all-passed (letter_check text ∷ []) (width ∷ []) (pass-one (letter_check text) letters) (pass-one width range)

each-measures : (counts bytes : List ℕ) → list_all in_font_lem bytes ≡ true → list_all length_in_range_lem (lengths_of counts bytes) ≡ true
    → Each (λ text. measure_verdict text ≡ accepted) (texts_of counts bytes)
unfolding texts_of
each-measures [] bytes letters ranges = tt
each-measures (n ∷ counts) bytes letters ranges =
    let width = text_width (take n bytes) in
    let others = lengths_of counts (drop n bytes) in
    let here = measures (take n bytes) (every_take in_font_lem n bytes letters) (first_good length_in_range_lem width others ranges) in
    (here, each-measures counts (drop n bytes) (every_drop in_font_lem n bytes letters) (rest-good length_in_range_lem width others ranges))

module _ (texts counts : List ℕ) (room : ℕ) (passed : lengths_verdict texts counts room ≡ accepted) where
  pub texts-measured : Each (λ text. measure_verdict text ≡ accepted) (texts_of counts texts)
  texts-measured =
      let parts = accepted-parts texts counts room passed in
      each-measures counts texts parts.0.letters-good parts.1

  pub no-byte-left : flatten (texts_of counts texts) ≡ texts
  no-byte-left = texts-whole counts texts (accepted-parts texts counts room passed).0.adds-up

  pub lengths-in-range : list_all length_in_range_lem (lengths_of counts texts) ≡ true
  lengths-in-range = (accepted-parts texts counts room passed).1
