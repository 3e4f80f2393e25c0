-- How much one weight can do. Any choice that is overlap-free with the one weight is so with the other, and its sum moves by their
-- difference if the mark is labelled, else not at all; so the greatest sums stand as those of one choice do. And a choice is as good
-- without a mark that it leaves out, while one that labels the mark loses no more than its weight (geometry's OneMark has both). A strip
-- that is accepted is cut at its mark, and what two calls report are the greatest sums.
use mathlib.Core.Path.{◌≡◌, refl, sym, ap, ◌∙◌}
use mathlib.Core.List.{List, ◌∷◌, ◌++◌}
use Prim.Native.Nat.{ℕ, ◌-◌, ◌<◌}
use native.Mathlib.Omega.{arith}
use lib.ListN.{length, set}
use Rattle.geometry.specs.Lists.{greatest_of, prefixed, words_of}
use Rattle.geometry.specs.Mark.{Mark, with_weight, rising}
use Rattle.geometry.specs.Strip.{Strip, marks_of_lists, marks_of, most_short}
use Rattle.geometry.specs.Overlap.{apart, free}
use Rattle.geometry.specs.Placing.{sum_of, best_sum}
use Rattle.geometry.specs.Refusal.{accepted, first_failure}
use Rattle.geometry.specs.Entry.{entry}
use Rattle.geometry.proofs.Accepted.{Accepted, entry-accepted, accepted-entry}
use Rattle.geometry.proofs.AcceptedWithout.{accepted-without}
use Rattle.geometry.proofs.OneMark.{best-erased, best-with-0, best-reweighed}
use Rattle.best.specs.LeftOut.{weight_of_lem}
use Rattle.demands.specs.OneWeight.{IsMark, AlikeBut, without, Follows, Lowered, Reports, OneWeight, BoundsMet}
use Rattle.demands.proofs.BestAndFull.{good, reported}
use Rattle.demands.proofs.OneStrip.{Cut, cut, weights-but-one}

-- for all lists of marks
module _ (g : ℕ) (before after : List Mark) (m : Mark) where
  follows : (w : ℕ) → Follows m.weight w (best_sum g (before ++ m ∷ after)) (best_sum g (before ++ with_weight w m ∷ after))
  follows w =
      let there = best-reweighed g m after m.weight w before in
      let back = best-reweighed g m after w m.weight before in
      record {
        not-lowered = λ h. omega (arith, there);
        not-raised = λ h. omega (arith, back);
        raised-at-most = λ h. omega (arith, back);
        lowered-at-most = λ h. omega (arith, there);
      }

  lowered : Lowered m.weight (best_sum g (before ++ m ∷ after)) (best_sum g (before ++ after))
  lowered =
      let lost = best-erased g m after before in
      let gained = best-with-0 g m after before in
      record { lowered-at-most = omega (arith, lost); not-raised = omega (arith, gained) }

-- for strips that are accepted
module _ (s : Strip) (k : ℕ) (m : IsMark k s) where
  -- the mark's index
  within : k - 1 < length s.places
  within = omega (arith, m.from-1, m.to-last)

  less-accepted : entry most_short s ≡ accepted → entry most_short (without k s) ≡ accepted
  less-accepted e = accepted-entry most_short (without k s) (omega arith) (accepted-without most_short s (k - 1) within (entry-accepted most_short s e))

  module _ (g : ℕ) (a : Accepted most_short s) where
    abbrev its-cut : Cut s.places s.lengths s.weights (k - 1)
    its-cut = cut s.places s.lengths s.weights (k - 1) a.same-lengths a.same-weights within

    strip-lowered : Lowered (weight_of_lem s.weights k) (best_sum g (marks_of s)) (best_sum g (marks_of (without k s)))
    strip-lowered = rw (its-cut.whole, its-cut.less) (lowered g its-cut.before its-cut.after _)

    module _ (t : Strip) (b : Accepted most_short t) (alike : AlikeBut k s t) where
      -- the other strip's weights
      its-weights : t.weights ≡ set s.weights (k - 1) (weight_of_lem t.weights k)
      its-weights =
          let same = ap length alike.places-alike in
          let one-each : length s.weights ≡ length t.weights = omega (arith, same, a.same-weights, b.same-weights) in
          weights-but-one s.weights t.weights (k - 1) one-each (omega (arith, within, a.same-weights)) alike.other-weights-alike

      its-marks : marks_of t ≡ marks_of_lists s.places s.lengths (set s.weights (k - 1) (weight_of_lem t.weights k))
      its-marks = rw (alike.places-alike, alike.lengths-alike) (ap (marks_of_lists s.places s.lengths) its-weights)

      strip-follows : Follows (weight_of_lem s.weights k) (weight_of_lem t.weights k) (best_sum g (marks_of s)) (best_sum g (marks_of t))
      strip-follows = rw (its-cut.whole, its-marks, its-cut.reweighed (weight_of_lem t.weights k)) (follows g its-cut.before its-cut.after _ _)

-- what a call says of its strip, and of the sum that it reports
module _ (s : Strip) (gap sum : ℕ) (call : Reports s gap sum) where
  its-strip : Accepted most_short s
  its-strip = good s gap call.lent call.left call.answer call.meets call.number-zero

  its-sum : sum ≡ best_sum gap (marks_of s)
  its-sum = sym call.sum_is ∙ reported s gap call.lent call.left call.answer call.meets call.number-zero

pub one-weight : OneWeight
one-weight =
    record {
      marks-alike = follows;
      strips-alike = λ s t g k e f m alike. strip-follows s k m g (entry-accepted most_short s e) t (entry-accepted most_short t f) alike;
      calls-alike = λ s t gap k sum new_sum call new_call m alike.
          rw (its-sum s gap sum call, its-sum t gap new_sum new_call)
          (strip-follows s k m gap (its-strip s gap sum call) t (its-strip t gap new_sum new_call) alike);
      marks-without = lowered;
      strips-without = λ s g k e m. strip-lowered s k m g (entry-accepted most_short s e);
      calls-without = λ s gap k sum rest call less_call m.
          rw (its-sum s gap sum call, its-sum (without k s) gap rest less_call) (strip-lowered s k m gap (its-strip s gap sum call));
      without-accepted = λ s k e m. less-accepted s k m e;
    }

-- strip 11, computed
pub bounds-met : BoundsMet
unfolding entry first_failure rising best_sum greatest_of prefixed words_of marks_of_lists apart free sum_of
bounds-met =
    record {
      at-first = (refl, refl);
      raised-by-all = (refl, refl);
      raised-by-none = (refl, refl);
      raised-by-some = (refl, refl);
      none-lost = (refl, refl);
      some-lost = (refl, refl);
      all-lost = (refl, refl);
    }
