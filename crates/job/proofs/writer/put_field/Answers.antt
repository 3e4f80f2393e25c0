-- `job::writer::put_field` meets its contract: nothing is put for the absent value, and else the field's bytes.
use mathlib.Core.Path.{◌≡◌, refl, sym, ◌∙◌, ap}
use mathlib.Core.Bool.{false}
use Prim.Native.Nat.{ℕ, ◌+◌}
use native.Mathlib.Omega.{arith}
use lib.Dec.{eqb}
use lib.ListN.{length}
use Rattle.job.specs.Number.{bytes_of}
use Rattle.job.specs.Format.{byte_width, word_width}
use Rattle.job.specs.Encode.{encode_field}
use Rattle.job.specs.inner.Step.{row_of}
use Rattle.job.specs.declared.field.Field.{Field}
use Rattle.job.specs.declared.field.Field.TheVariants.{Step, Length, Weight}
use Rattle.job.proofs.Numbers.{bytes_one, bytes-length}
use Rattle.job.proofs.PutBytes.{put_byte}
use Rattle.job.proofs.writer.put_field.Goals as goal

-- a field that does not have its absent value is written with as many bytes as its width, one or two
written : (f : Field) (v w : ℕ) → eqb v (row_of f).absent ≡ false → w ≡ (row_of f).width → encode_field (row_of f) v ≡ bytes_of w v
unfolding encode_field
written f v w some e = rw (some, e) refl

size : (f : Field) (v : ℕ) → eqb v (row_of f).absent ≡ false → length (encode_field (row_of f) v) ≡ (row_of f).width
size f v some = ap length (written f v (row_of f).width some refl) ∙ bytes-length (row_of f).width v

one_byte : (f : Field) → ((row_of f).width ≡ word_width → ⊥) → (row_of f).width ≡ byte_width
one_byte Step other = absurd (other refl)
one_byte Length other = refl
one_byte Weight other = absurd (other refl)

pub returns-then-is_absent : goal.returns-then-is_absent
unfolding encode_field
returns-then-is_absent c = rw (← c.is_absent.ensures, c.if-is_absent.true) (record { next-is = omega arith; job_is = refl })

pub put_word-requires : goal.put_word-requires
put_word-requires c = omega (arith, size c.args.field c.args.value (sym c.if-is_absent.ensures), c.width.ensures)

pub returns-then-width-eq-WORD_WIDTH : goal.returns-then-width-eq-WORD_WIDTH
returns-then-width-eq-WORD_WIDTH c =
    let a = c.args in
    let two : word_width ≡ (row_of a.field).width = omega (arith, c.width.ensures) in
    rw (written a.field a.value word_width (sym c.if-is_absent.ensures) two)
    (record { next-is = ap (λ (k : ℕ). a.at + k) (sym (bytes-length word_width a.value)); job_is = c.put_word.ensures })

pub bounds-job-at : goal.bounds-job-at
bounds-job-at c =
    let one : (row_of c.args.field).width ≡ byte_width = one_byte c.args.field (λ e. omega (arith, c.width.ensures)) in
    omega (arith, size c.args.field c.args.value (sym c.if-is_absent.ensures))

pub returns : goal.returns
returns c =
    let a = c.args in
    let one : (row_of a.field).width ≡ byte_width = one_byte a.field (λ e. omega (arith, c.width.ensures)) in
    rw (written a.field a.value byte_width (sym c.if-is_absent.ensures) (sym one), bytes_one a.value) (put_byte a.job.now a.at _)
