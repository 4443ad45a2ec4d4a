-- A block length is refused by 1 in the look-up alone, which comes first. Below that packing, unpacking, check, synchronising
-- block and cancelling are right for every k that is a multiple of 8: the four lengths are no case of their own, nor is k 0 of
-- the examples. Assumes nothing.
use Rattle.std.specs.Prelude.{Result, Ok}
use Rattle.block.specs.declared.Refusal.{Refusal}
use Rattle.std.specs.Prelude.{◌≡◌, List, ◌++◌, ℕ, ◌*◌, ◌%◌, ◌≤◌, ◌<◌, length, get_or, take, drop}
use Rattle.crc.specs.Bits.{zeros, binary, bits_of}
use Rattle.crc.specs.Polynomial.{polynomial, Remainder}
use Rattle.block.specs.Lengths.{block_length, payload_bytes, block_bytes}
use Rattle.block.specs.Block.{block_bits, sync_block, cancelled}
use Rattle.block.specs.Calls.{build_block, check_block, read_service, read_block, build_sync, cancel_block}
use Rattle.block.specs.Packed.{if_length, build_packed, BuildPacked, check_packed, CheckPacked, service_packed, read_packed, ReadPacked, held_packed, SyncPacked, CancelPacked}
use Rattle.block.specs.declared.Read.{Read}
use Rattle.block.specs.declared.Read.TheVariants as R

-- what each call by k answers: the look-up's test, then as the call below it
pub record LookUpFirst : Type 0 where
  pub builds : (k service : ℕ) (payload slice : List ℕ) → build_block k service payload slice ≡ if_length k (build_packed k service payload slice)
  pub checks : (k : ℕ) (slice : List ℕ) → check_block k slice ≡ if_length k (check_packed k slice)
  pub reads_service : (k : ℕ) (slice : List ℕ) → read_service k slice ≡ if_length k (service_packed k slice)
  pub reads : (k : ℕ) (slice payload : List ℕ) → read_block k slice payload ≡ if_length k (read_packed k slice payload)
  pub synchronises : (k : ℕ) (slice : List ℕ) → build_sync k slice ≡ if_length k (held_packed k slice)
  pub cancels : (k : ℕ) (slice : List ℕ) → cancel_block k slice ≡ if_length k (held_packed k slice)

pub record EveryLength (k : ℕ) : Type 0 where
  -- a block built: its n bits, four spare zero bits, and the other bytes as they were
  pub packing : (service : ℕ) (payload slice slice' : List ℕ) → BuildPacked k service payload slice (Ok tt) slice'
      → bits_of slice' ≡ block_bits (binary 4 service) (take k (bits_of payload)) ++ (zeros 4 ++ bits_of (drop (block_bytes k) slice))
  -- it is read with its service bits and its data, wherever the data have room
  pub unpacking : (service : ℕ) (payload slice slice' room room' : List ℕ) (answer : Result Read Refusal) → ((i : ℕ) → get_or payload i 0 < 256)
      → BuildPacked k service payload slice (Ok tt) slice' → ReadPacked k slice' room answer room' → k ≤ 8 * length room
      → (answer ≡ Ok (R.Passed service)) × (room' ≡ take (payload_bytes k) payload ++ drop (payload_bytes k) room)
  -- the check hands over the remainder of the polynomial of all n bits
  pub checking : (slice : List ℕ) (r : ℕ) → CheckPacked k slice (Ok r)
      → Remainder (polynomial (take (block_length k) (bits_of slice))) r
  -- a synchronising block: its n bits, four spare zero bits, and the other bytes as they were
  pub synchronising : (slice slice' : List ℕ) → SyncPacked k slice (Ok tt) slice'
      → bits_of slice' ≡ sync_block k ++ (zeros 4 ++ bits_of (drop (block_bytes k) slice))
  -- it fails the check, up to 3,840 data bits; without data it would pass, since its sequence is the check of 0101
  pub synchronising_fails : (slice slice' : List ℕ) (r : ℕ) → 8 ≤ k → k ≤ 3840 → SyncPacked k slice (Ok tt) slice'
      → CheckPacked k slice' (Ok r) → r ≡ 0 → ⊥
  -- a block cancelled: its last bit inverted, the spare bits and the other bytes as they were
  pub cancelling : (slice slice' : List ℕ) → CancelPacked k slice (Ok tt) slice'
      → bits_of slice' ≡ cancelled (take (block_length k) (bits_of slice)) ++ drop (block_length k) (bits_of slice)
  -- if it passed before, it fails with the remainder 1
  pub cancelling_fails : (service : ℕ) (slice slice' room room' again again' : List ℕ) (answer : Result Read Refusal)
      → ReadPacked k slice room (Ok (R.Passed service)) room' → CancelPacked k slice (Ok tt) slice'
      → ReadPacked k slice' again answer again' → k ≤ 8 * length again → answer ≡ Ok (R.Failed 1)

abbrev pub AtEveryLength : Type 0
AtEveryLength = (k : ℕ) → k % 8 ≡ 0 → EveryLength k
