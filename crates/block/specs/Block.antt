-- The block as a row of bits: docs/PROTOCOL.md, "The block". Assumes nothing.
use Rattle.std.specs.Prelude.{true, false, cond, not, [], ◌∷◌, ◌++◌, ℕ, zero, suc, ◌/◌, take, drop}
use Rattle.crc.specs.Bits.{Bits, binary, number}
use Rattle.crc.specs.Check.{remainder, check, passes}

-- service bits and data, then the check bits of both
unfoldable pub block_bits : Bits → Bits → Bits
block_bits service payload = (service ++ payload) ++ binary 16 (check (service ++ payload))

-- the service bits and the k data bits of a row of n bits
abbrev pub service_of : Bits → Bits
service_of row = take 4 row

abbrev pub payload_of : ℕ → Bits → Bits
payload_of k row = take k (drop 4 row)

-- what reading a row of n bits finds: it passes, with its service bits as a number, if its remainder is 0, and otherwise it
-- fails, with the remainder
pub data Verdict : Type 0 where
  passed : ℕ → Verdict
  failed : ℕ → Verdict

unfoldable pub verdict : Bits → Verdict
verdict row = cond (passes row) (passed (number (service_of row))) (failed (remainder row))

-- ---- the synchronising block: 0101, then 10 repeated over k bits, then 0101000010100101

abbrev pub service_sync : Bits
service_sync = false ∷ true ∷ false ∷ true ∷ []

abbrev pub sync_sequence : Bits
sync_sequence =
    false ∷ true ∷ false ∷ true ∷ false ∷ false ∷ false ∷ false ∷ true ∷ false ∷ true ∷ false ∷ false ∷ true ∷ false ∷ true ∷ []

abbrev pub tens : ℕ → Bits
tens zero = []
tens (suc n) = true ∷ false ∷ tens n

unfoldable pub sync_block : ℕ → Bits
sync_block k = (service_sync ++ tens (k / 2)) ++ sync_sequence

-- a block cancelled: its last bit inverted
unfoldable pub cancelled : Bits → Bits
cancelled [] = []
cancelled (b ∷ []) = not b ∷ []
cancelled (b ∷ c ∷ bs) = b ∷ cancelled (c ∷ bs)
