-- What a trial of the program finds: the definitions of Trial, of its mark, its last labels and the table.
use Rattle.std.specs.Prelude.{ℕ, Bool}
use Rattle.geometry.specs.Position.{Position}
use Rattle.best.specs.declared.trial.Trial as tried
use Rattle.best.specs.inner.Handed.{strip_of}
use Rattle.best.specs.inner.Trial.{gain_at, attains_at, picked_at}

abbrev pub gain_of : tried.Trial → Position → ℕ
gain_of t = gain_at (strip_of t.marks) t.work.now t.k t.last.above t.last.below

abbrev pub attains_of : tried.Trial → ℕ → Position → Bool
attains_of t = attains_at t.marks.gap (strip_of t.marks) t.work.now t.k t.last.above t.last.below

abbrev pub picked_of : tried.Trial → ℕ → Position
picked_of t = picked_at t.marks.gap (strip_of t.marks) t.work.now t.k t.last.above t.last.below
