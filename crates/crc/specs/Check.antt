-- The registers that divide a row by the generator, and a row's check bits (V.41, section 2). Assumes nothing.
use Rattle.std.specs.Prelude.{Bool, [], ◌∷◌, ◌++◌, ℕ, ◌+◌, ◌*◌, ◌/◌, ◌^◌, eqb}
use Rattle.std.specs.Int.Bits.{bit_xor}
use Rattle.crc.specs.Bits.{Bits, bit, zeros}
use Rattle.crc.specs.Polynomial.{generator}

-- where there is a term x^16, subtract the generator
abbrev pub reduce : ℕ → ℕ
reduce n = bit_xor (n / 2 ^ 16 * generator) n

-- Division, a bit at a time: the register times x, plus the next bit, reduced.
abbrev pub divide_bit : ℕ → Bool → ℕ
divide_bit c b = reduce (c * 2 + bit b)

abbrev pub divide : ℕ → Bits → ℕ
divide c [] = c
divide c (b ∷ bs) = divide (divide_bit c b) bs

-- the remainder of a row's polynomial, from a zero register
unfoldable pub remainder : Bits → ℕ
remainder bs = divide 0 bs

-- a row passes if its polynomial divides evenly
unfoldable pub passes : Bits → Bool
passes bs = eqb (remainder bs) 0

-- the check bits of a row: the remainder of its polynomial times x^16, nothing complemented
unfoldable pub check : Bits → ℕ
check bs = remainder (bs ++ zeros 16)

-- The register as it is built: the next bit comes in at x^16, so that from zero it holds the check bits of the row so far.
abbrev pub register_bit : ℕ → Bool → ℕ
register_bit c b = reduce (bit_xor (c * 2) (bit b * 2 ^ 16))

unfoldable pub register : ℕ → Bits → ℕ
register c [] = c
register c (b ∷ bs) = register (register_bit c b) bs
