-- The block lengths: k data bits, n bits in all, and the bytes that hold them. Assumes nothing.
use Rattle.std.specs.Prelude.{Bool, false, ◌||◌, List, [], ◌∷◌, ℕ, ◌+◌, ◌/◌, eqb}

-- the four numbers of data bits
abbrev pub lengths : List ℕ
lengths = 240 ∷ 480 ∷ 960 ∷ 3840 ∷ []

abbrev pub among : ℕ → List ℕ → Bool
among k [] = false
among k (l ∷ ls) = eqb k l || among k ls

-- k is one of the four
unfoldable pub is_length : ℕ → Bool
is_length k = among k lengths

-- the whole length, n
abbrev pub block_length : ℕ → ℕ
block_length k = k + 20

-- the bytes of k data bits, and of a packed block: n bits and four spare ones
abbrev pub payload_bytes : ℕ → ℕ
payload_bytes k = k / 8

abbrev pub block_bytes : ℕ → ℕ
block_bytes k = k / 8 + 3
