-- `job::writer::put_header` meets its contract: two words, one after the other; the count fits the first, since a strip that the writer takes
-- has at most 4,000 marks.
use mathlib.Core.Path.{◌∙◌, ap}
use native.Mathlib.Omega.{arith}
use Rattle.geometry.specs.Strip.{most_marks}
use Rattle.geometry.proofs.Accepted.{entry-accepted}
use Rattle.geometry.proofs.Dots.{fetched}
use Rattle.job.specs.Number.{word_of}
use Rattle.job.proofs.SignedWords.{word-is}
use Rattle.job.proofs.WriteContract.{header-stores}
use Rattle.job.proofs.writer.put_header.Goals as goal

pub overflow_cast-marks : goal.overflow_cast-marks
overflow_cast-marks c = omega (arith, (entry-accepted most_marks _ c.args.marks.good).few)

pub returns : goal.returns
returns c =
    let z = c.first_place in
    header-stores c.args.marks.strip.places.now c.args.job.now c.put_word.new.job c.put_word-2.new.job c.cast_unsigned.result
    (c.cast_unsigned.ensures ∙ rw (fetched z.result z.type_inv) (word-is z.result ∙ ap word_of z.ensures)) c.put_word.ensures c.put_word-2.ensures
