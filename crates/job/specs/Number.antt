-- "Big-endian." A number of a job as its bytes, the most significant first.
use Rattle.std.specs.Prelude.{ℕ, zero, suc, ◌+◌, ◌-◌, ◌*◌, ◌/◌, ◌%◌, ◌^◌, ◌<◌, List, [], ◌∷◌, cond, ltb, ℤ, pos, negsuc, length, get_or}

-- the number that bytes stand for
unfoldable pub big_endian : List ℕ → ℕ
big_endian [] = 0
big_endian (b ∷ bs) = b * 256 ^ length bs + big_endian bs

-- the bytes, as many as `width`, of a number
unfoldable pub bytes_of : ℕ → ℕ → List ℕ
bytes_of zero n = []
bytes_of (suc width) n = n / 256 ^ width % 256 ∷ bytes_of width n

-- "signed 16 bits, two's complement": the number that a word of 16 bits stands for, and the word of a number
unfoldable pub signed : ℕ → ℤ
signed word = cond (ltb word 32768) (pos word) (negsuc (65535 - word))

unfoldable pub word_of : ℤ → ℕ
word_of (pos n) = n
word_of (negsuc n) = 65535 - n

-- each of them is a byte, as each element of a slice of bytes is
abbrev pub Bytes : List ℕ → Type 0
Bytes bs = (i : ℕ) → get_or bs i 0 < 256
