-- Rows of bits, and numbers and bytes as rows. Assumes nothing.
use Rattle.std.specs.Prelude.{Bool, true, false, not, List, [], ◌∷◌, ◌++◌, ℕ, zero, suc, ◌+◌, ◌*◌, ◌/◌, ◌%◌, ◌^◌, eqb, replicate, take, drop}

-- a row of bits, the earliest first
abbrev pub Bits : Type 0
Bits = List Bool

abbrev pub zeros : ℕ → Bits
zeros n = replicate n false

-- a bit as a number
abbrev pub bit : Bool → ℕ
bit false = 0
bit true = 1

-- the lowest binary digit of a number
abbrev pub odd : ℕ → Bool
odd n = eqb (n % 2) 1

-- the w lowest binary digits of a number as a row, the highest first
unfoldable pub binary : ℕ → ℕ → Bits
binary zero n = []
binary (suc w) n = odd (n / 2 ^ w) ∷ binary w n

-- the number that a row writes in binary, behind the digits of p
abbrev pub number_from : ℕ → Bits → ℕ
number_from p [] = p
number_from p (b ∷ bs) = number_from (p * 2 + bit b) bs

unfoldable pub number : Bits → ℕ
number bs = number_from 0 bs

-- bytes to bits, the earliest in the top bit
unfoldable pub bits_of : List ℕ → Bits
bits_of [] = []
bits_of (x ∷ xs) = binary 8 x ++ bits_of xs

-- and back: a row packed into m bytes, zero bits behind it
unfoldable pub bytes_of : ℕ → Bits → List ℕ
bytes_of zero bs = []
bytes_of (suc m) bs = number (take 8 (bs ++ zeros 8)) ∷ bytes_of m (drop 8 bs)

-- the sum of two bits
abbrev pub xor : Bool → Bool → Bool
xor false b = b
xor true b = not b

-- the sum of two rows: the places where they differ
unfoldable pub xor_bits : Bits → Bits → Bits
xor_bits [] ys = []
xor_bits (x ∷ xs) [] = []
xor_bits (x ∷ xs) (y ∷ ys) = xor x y ∷ xor_bits xs ys

-- the parity of a row: whether its number of ones is odd
unfoldable pub parity : Bits → Bool
parity [] = false
parity (b ∷ bs) = xor b (parity bs)
