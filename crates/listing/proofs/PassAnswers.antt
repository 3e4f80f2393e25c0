-- What the contracts of the passes say of a strip that their checks accept, in the words of the lines: the number of the full pass
-- and its list give the end of the full line, that of the slide pass whether it fits, and the best pass gives the sum and the numbers of
-- some choice of the greatest sum.
use mathlib.Core.Path.{◌≡◌, refl, sym, ◌∙◌, ap, ap₂}
use mathlib.Core.Bool.{Bool, true, false, false≢true}
use mathlib.Core.List.{List, ◌∷◌, map}
use mathlib.Core.Option.{Option, none, some}
use Prim.Native.Nat.{ℕ, ◌≤◌}
use native.Mathlib.Omega.{arith}
use lib.Dec.{eqb}
use lib.ListN.{length, take, length-map, length-take}
use borrow.Author.Tests.{eq-eqb, ne_eqb}
use Rattle.geometry.specs.Strip.{Strip, marks_of, most_marks}
use Rattle.geometry.specs.Position.{Position, code}
use Rattle.geometry.specs.Placing.{first_placing}
use Rattle.geometry.specs.Sliding.{slides_whole}
use Rattle.geometry.specs.Refusal.{Verdict, accepted, number_of, answer_number}
use Rattle.geometry.specs.declared.refusal.Refusal.{Refusal}
use Rattle.geometry.specs.Pass.{written}
use Rattle.geometry.proofs.Verdicts.{refusal-positive}
use Rattle.geometry.proofs.Accepted.{Accepted, length-marks}
use Rattle.geometry.proofs.Best.{free-length}
use Rattle.geometry.proofs.Whole.{found-placing}
use Rattle.geometry.proofs.Lent.{used-is, used-within}
use Rattle.full.specs.Full.{FullLent, full_checks, full_verdict, positions_after, FullContract}
use Rattle.slide.specs.Slide.{SlideLent, slide_checks, slide_verdict, SlideContract}
use Rattle.best.specs.LeftOut.{left_out_lem}
use Rattle.best.specs.Best.{BestAnswer, BestLent, best_checks, AcceptedAnswer, BestContract}
use Rattle.std.specs.Prelude.{None, Some, Result, Ok, Err, is_ok}
use Rattle.std.specs.Borrow.{Bor}
use Rattle.listing.specs.Text.{listing_gap, spaced, none_word, full_tail}
use Rattle.listing.specs.inner.Lines.{FullFound, BestFound}

-- an answer that is there has the number 0, and one that is not has another
pub some-is-zero : {A : Type 0} (answer : Result A Refusal) → is_ok answer ≡ true → answer_number answer ≡ 0
some-is-zero (Ok value) e = refl
some-is-zero (Err r) e = absurd (false≢true e)

pub none-is-refused : {A : Type 0} (answer : Result A Refusal) → is_ok answer ≡ false → answer_number answer ≡ 0 → ⊥
none-is-refused (Ok value) e zero = absurd (false≢true (sym e))
none-is-refused (Err r) e zero = refusal-positive r zero

-- the full pass
module _ (s : Strip) (lent left : FullLent) (number : ℕ) (call : FullContract s listing_gap lent left number)
    (passed : full_checks s listing_gap lent ≡ accepted) (good : Accepted most_marks s) where
  -- the count of marks
  abbrev marks : ℕ
  marks = length s.places

  -- the number, by the first placing
  number_by : (o : Option (List Position)) → first_placing listing_gap (marks_of s) ≡ o → number ≡ number_of (full_verdict accepted o)
  number_by o e = call.number_is ∙ ap₂ (λ (v : Verdict) (p : Option (List Position)). number_of (full_verdict v p)) passed e

  -- the used part of the list has the placing's numbers
  module _ (ps : List Position) (e : first_placing listing_gap (marks_of s) ≡ some ps) where
    listed : left.positions ≡ written (map code ps) lent.positions
    listed = call.positions-are ∙ ap₂ (λ (v : Verdict) (p : Option (List Position)). positions_after v p lent.positions) passed e

    long : marks ≡ length (map code ps)
    long = sym (length-map ps code ∙ free-length listing_gap (marks_of s) ps (found-placing listing_gap (marks_of s) ps e).is_free
        ∙ length-marks s good.same-lengths good.same-weights)

  -- the end of the line at a refusal, and else the numbers of the placing
  none_by : (o : Option (List Position)) → first_placing listing_gap (marks_of s) ≡ o → (number ≡ 0 → ⊥) → 32 ∷ none_word ≡ full_tail o
  none_by none e refused = refl
  none_by (some ps) e refused = absurd (refused (number_by (some ps) e))

  placed_by : (o : Option (List Position)) → first_placing listing_gap (marks_of s) ≡ o → number ≡ 0
      → (spaced (take marks left.positions) ≡ full_tail o) × (marks ≤ length left.positions)
  placed_by none e zero = let n = number_by none e in absurd (omega arith)
  placed_by (some ps) e zero =
      (ap spaced (used-is (map code ps) lent.positions (listed ps e) (long ps e)), used-within (map code ps) lent.positions (listed ps e) (long ps e))

  -- what the full line says
  pub full-none : (number ≡ 0 → ⊥) → FullFound s None
  full-none refused = record { tail = none_by (first_placing listing_gap (marks_of s)) refl refused; few = tt }

  pub full-within : number ≡ 0 → marks ≡ length (take marks left.positions)
  full-within zero =
      let within = (placed_by (first_placing listing_gap (marks_of s)) refl zero).1 in omega (arith, within, length-take marks left.positions)

  pub full-found : number ≡ 0 → (found : Bor (List ℕ)) → found.now ≡ take marks left.positions → FullFound s (Some found)
  full-found zero found is =
      record {
        tail = ap spaced is ∙ (placed_by (first_placing listing_gap (marks_of s)) refl zero).0;
        few = omega (arith, ap length is, length-take marks left.positions);
      }

-- the slide pass: its number says whether the strip slides
told : (slides : Bool) (number : ℕ) → number ≡ number_of (slide_verdict accepted slides) → eqb number 0 ≡ slides
told true number e = eq-eqb number 0 e
told false number e = ne_eqb number 0 (λ z. omega arith)

-- what the slide line says
pub slide-told : (s : Strip) (lent left : SlideLent) (number : ℕ) → SlideContract s listing_gap lent left number
    → slide_checks s listing_gap lent ≡ accepted → eqb number 0 ≡ slides_whole listing_gap (marks_of s)
slide-told s lent left number call passed =
    told (slides_whole listing_gap (marks_of s)) number
    (call.number_is ∙ ap (λ (v : Verdict). number_of (slide_verdict v (slides_whole listing_gap (marks_of s)))) passed)

-- the best pass
module _ (s : Strip) (lent left : BestLent) (r : BestAnswer) (call : BestContract s listing_gap lent left r)
    (passed : best_checks s listing_gap lent ≡ accepted) where
  -- what the contract gives past the checks
  answer : AcceptedAnswer s listing_gap lent left r
  answer = call.where-accepted passed

  -- the left-out list as far as it is used, and that it is long enough
  abbrev out : List ℕ
  out = left_out_lem s.weights answer.choice

  used-out : take r.count left.left_out ≡ out
  used-out = used-is out lent.left_out answer.out_written answer.out-counted

  count-within : r.count ≤ length left.left_out
  count-within = used-within out lent.left_out answer.out_written answer.out-counted

  -- what the best and the out line say
  pub best-found : BestFound s r.sum r.count left.left_out
  best-found =
      record {
        sum_is = answer.sum-best;
        listed = count-within;
        chosen = record {
          choice = answer.choice;
          overlap-free = answer.overlap-free;
          greatest = sym answer.sum-earned ∙ answer.sum-best;
          left_out = used-out;
        };
      }
