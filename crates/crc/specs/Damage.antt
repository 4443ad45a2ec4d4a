-- The damage that demand 3 admits. Assumes nothing.
use Rattle.std.specs.Prelude.{◌≡◌, true, ◌++◌, ℕ, ◌≤◌, length}
use Rattle.crc.specs.Bits.{Bits, zeros, parity}

-- the inverted places of a row, as ones: nothing, an odd number of bits, or bits within 16 adjacent places
pub data Damage : Bits → Type 0 where
  nothing : (n : ℕ) → Damage (zeros n)
  odd_number : {e : Bits} → parity e ≡ true → Damage e
  burst : (before : ℕ) (e : Bits) (behind : ℕ) → length e ≤ 16 → Damage (zeros before ++ (e ++ zeros behind))
