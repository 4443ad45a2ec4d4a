-- Words of 64 bits as rows of bits, and what they leave in the register. Assumes nothing.
use Rattle.std.specs.Prelude.{List, [], ◌∷◌, ◌++◌, ℕ}
use Rattle.crc.specs.Bits.{Bits, binary}
use Rattle.crc.specs.Check.{register}

-- words to bits, the earliest in the top bit
unfoldable pub bits_of_words : List ℕ → Bits
bits_of_words [] = []
bits_of_words (w ∷ ws) = binary 64 w ++ bits_of_words ws

-- what words leave in a register of zero
abbrev pub left_by : List ℕ → ℕ
left_by ws = register 0 (bits_of_words ws)
