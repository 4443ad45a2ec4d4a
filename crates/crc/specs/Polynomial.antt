-- Polynomials over GF(2), V.41's generator, and division by it (V.41, section 2). Assumes nothing.
-- A polynomial is the number whose binary digits are its coefficients: the sum is bit_xor, and x times p is p * 2.
use Rattle.std.specs.Prelude.{◌≡◌, [], ◌∷◌, ℕ, ◌*◌, ◌^◌, ◌<◌}
use Rattle.std.specs.Int.Bits.{bit_xor}
use Rattle.crc.specs.Bits.{Bits, bit, number}

-- the polynomial of a row of bits, highest power first
abbrev pub polynomial : Bits → ℕ
polynomial bs = number bs

-- q times p, the coefficients of q lowest power first: the sum of the x^i p at which q has a one
abbrev pub times : Bits → ℕ → ℕ
times [] p = 0
times (b ∷ q) p = bit_xor (bit b * p) (times q p * 2)

-- x^16 + x^12 + x^5 + 1
abbrev pub generator : ℕ
generator = 0x11021

-- the generator divides p evenly: p is some q times the generator
abbrev pub Divides : ℕ → Type 0
Divides p = (q : Bits) × (times q generator ≡ p)

-- r is the remainder of p: below x^16, and the generator divides the difference
pub record Remainder (p r : ℕ) : Type 0 where
  pub small : r < 2 ^ 16
  pub divides : Divides (bit_xor p r)
