-- The generator: two words of 32 bits, and the numbers drawn. docs/PROTOCOL.md, "The noise load". Assumes nothing.
use Rattle.std.specs.Prelude.{◌≡◌, ℕ, ◌+◌, ◌*◌, ◌/◌, ◌%◌, ◌^◌, bit_xor}
use Rattle.noise.specs.declared.Generator.{Generator}

-- kept to 32 bits: what is shifted or carried above them is dropped
abbrev pub kept : ℕ → ℕ
kept x = x % 2 ^ 32

-- x xor (x shifted left)
unfoldable pub xor_left : ℕ → ℕ → ℕ
xor_left places x = bit_xor x (kept (x * 2 ^ places))

-- x xor (x shifted right)
unfoldable pub xor_right : ℕ → ℕ → ℕ
xor_right places x = bit_xor x (x / 2 ^ places)

-- the first word: left 13, then right 17, then left 5, each on the new value
unfoldable pub next_first : ℕ → ℕ
next_first x = xor_left 5 (xor_right 17 (xor_left 13 x))

-- the other grows by 362,437
abbrev pub next_second : ℕ → ℕ
next_second y = kept (y + 362437)

-- a draw updates both
unfoldable pub next : Generator → Generator
next g = record { first = next_first g.first; second = next_second g.second }

-- and the number drawn is their sum
unfoldable pub drawn : Generator → ℕ
drawn g = kept ((next g).first + (next g).second)

-- the number that a draw answers, and the generator as it leaves it
pub record Draw (g : Generator) (number : ℕ) (g' : Generator) : Type 0 where
  pub updates : g' ≡ next g
  pub draws : number ≡ drawn g
