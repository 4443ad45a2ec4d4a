-- What the private functions of src/ promise; no public call's promise rests on it. Assumes nothing.
use Rattle.std.specs.Prelude.{ℕ, ◌+◌, ◌-◌, ◌*◌, List, ◌++◌, length}
use Rattle.crc.specs.Bits.{zeros, binary, xor_bits, bits_of, bytes_of}

-- a pattern laid over 16 bits of a slice, from a place on
unfoldable pub laid : ℕ → ℕ → List ℕ → List ℕ
laid place pattern s =
    bytes_of (length s) (xor_bits (bits_of s) (zeros place ++ (binary 16 pattern ++ zeros (8 * length s - (place + 16)))))
