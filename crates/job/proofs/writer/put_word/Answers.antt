-- `job::writer::put_word` meets its contract: two stores.
use mathlib.Core.Path.{refl}
use native.Mathlib.Numerals.{add-one}
use Rattle.job.proofs.Numbers.{bytes-two}
use Rattle.job.proofs.writer.put_word.Goals as goal

pub returns : goal.returns
returns c = rw (bytes-two c.args.value, c.to_be_bytes.ensures, add-one) refl
