-- Reading what building wrote gives the service bits and the data back. Assumes nothing.
use Rattle.std.specs.Prelude.{Result, Ok, Err}
use Rattle.block.specs.declared.Refusal.{Refusal}
use mathlib.Core.Path.{◌≡◌, sym, ap, ap₂, ◌∙◌}
use mathlib.Core.Bool.{◌||◌}
use mathlib.Core.List.{List, ◌++◌}
use Prim.Native.Nat.{ℕ, ◌+◌, ◌*◌, ◌%◌, ◌≤◌, ◌<◌}
use native.Mathlib.Omega.{arith}
use borrow.Author.Tests.{ltb-false}
use lib.Dec.{ltb}
use lib.ListN.{length, get_or, take, drop, length-append, length-drop}
use lib.Seq.{take_at, take-append-le, drop-append-le, length-take-le}
use Rattle.crc.specs.Bits.{Bits, zeros, binary, number, bits_of, bytes_of}
use Rattle.crc.proofs.Rows.{length-binary, number-binary}
use Rattle.crc.proofs.Bytes.{length-bits_of, length-bytes_of, packed_front}
use Rattle.block.specs.Answer as A
use Rattle.block.specs.Answer.{done}
use Rattle.block.specs.Lengths.{block_length, payload_bytes, block_bytes}
use Rattle.block.specs.Block.{block_bits, payload_of, passed, verdict}
use Rattle.block.specs.Calls.{too_short, overwritten, built_bytes, BuildBlock, read_answer, read_bytes, ReadBlock}
use Rattle.block.specs.Packed.{build_packed, BuildPacked, read_packed, ReadPacked}
use Rattle.block.specs.declared.Read.{Read}
use Rattle.block.specs.declared.Read.TheVariants as R
use Rattle.block.proofs.Lengths.{length_facts, whole_bytes}
use Rattle.block.proofs.Block.{length-block_bits, passes-block_bits, service_block_bits, payload_block_bits}
use Rattle.block.proofs.Packing.{bits_overwritten}
use Rattle.block.proofs.Refusals.{passed_test, read_done}
use Rattle.block.proofs.LookUp.{built_below, read_below}
use Rattle.block.proofs.Truth.{or-false}

module _ (k service : ℕ) (payload slice room : List ℕ) (whole : k % 8 ≡ 0) (small : service ≤ 15)
    (held : k ≤ 8 * length payload) (wide : block_length k ≤ 8 * length slice) (space : k ≤ 8 * length room) where
  -- the block's bits, and the slice that holds them
  abbrev row : Bits
  row = block_bits (binary 4 service) (take k (bits_of payload))

  abbrev written : List ℕ
  written = built_bytes k service payload slice (done tt)

  length_data : length (take k (bits_of payload)) ≡ k
  length_data = length-take-le k (bits_of payload) (omega (arith, length-bits_of payload))

  length_row : length row ≡ block_length k
  length_row =
      length-block_bits (binary 4 service) (take k (bits_of payload))
      ∙ ap₂ (λ (x y : ℕ). x + y + 16) (length-binary 4 service) length_data ∙ omega arith

  length_written : length written ≡ length slice
  length_written =
      length-append (bytes_of (block_bytes k) row) (drop (block_bytes k) slice)
      ∙ ap₂ (λ (x y : ℕ). x + y) (length-bytes_of (block_bytes k) row) (length-drop (block_bytes k) slice) ∙ omega arith

  -- what stands in the slice behind the block
  abbrev behind : Bits
  behind = zeros 4 ++ bits_of (drop (block_bytes k) slice)

  pub bits_written : bits_of written ≡ row ++ behind
  bits_written = bits_overwritten k row slice whole length_row

  row_written : take (block_length k) (bits_of written) ≡ row
  row_written = ap (take (block_length k)) bits_written ∙ take_at row behind (block_length k) length_row

  verdict_row : verdict row ≡ passed service
  unfolding verdict
  verdict_row =
      rw (passes-block_bits (binary 4 service) (take k (bits_of payload)))
      (ap passed
      (ap number (service_block_bits (binary 4 service) (take k (bits_of payload)) (length-binary 4 service))
      ∙ number-binary 4 service (omega arith)))

  -- the block passes, with its service bits
  pub read_built : read_packed k (built_bytes k service payload slice (done tt)) room ≡ done (passed service)
  read_built =
      read_done k written room (omega (arith, length_written)) space
      ∙ ap (λ (l : Bits). done (verdict l)) row_written ∙ ap done verdict_row

  payload_written : payload_of k (bits_of written) ≡ take k (bits_of payload)
  payload_written =
      let n : 4 ≤ length row = omega (arith, length_row) in
      let g : k ≤ length (drop 4 row) = omega (arith, length_row, length-drop 4 row) in
      ap (payload_of k) bits_written ∙ ap (take k) (drop-append-le 4 row behind n) ∙ take-append-le k (drop 4 row) behind g
      ∙ payload_block_bits k (binary 4 service) (take k (bits_of payload)) (length-binary 4 service) length_data

  -- the data bits are those that were built in
  pub data_built : read_bytes k (built_bytes k service payload slice (done tt)) room (read_packed k (built_bytes k service payload slice (done tt)) room)
      ≡ overwritten (payload_bytes k) (take k (bits_of payload)) room
  data_built =
      ap (read_bytes k written room) read_built ∙ ap (λ (l : Bits). overwritten (payload_bytes k) l room) payload_written

  -- and, of bytes, the bytes
  pub bytes_built : ((i : ℕ) → get_or payload i 0 < 256)
      → read_bytes k (built_bytes k service payload slice (done tt)) room (read_packed k (built_bytes k service payload slice (done tt)) room)
      ≡ take (payload_bytes k) payload ++ drop (payload_bytes k) room
  bytes_built b =
      let m : ℕ = payload_bytes k in
      let e : bytes_of m (take k (bits_of payload)) ≡ take m payload =
      ap (λ (x : ℕ). bytes_of m (take x (bits_of payload))) (sym (whole_bytes k whole)) ∙ packed_front m payload b (omega arith) in
      data_built ∙ ap (λ (l : List ℕ). l ++ drop m room) e

-- ---- the same on the promises of the two calls

passed_answer : (answer : Result Read Refusal) (s : ℕ) → read_answer answer ≡ done (passed s) → answer ≡ Ok (R.Passed s)
passed_answer (Ok (R.Passed x)) s h = cc
passed_answer (Ok (R.Failed r)) s h = absurd (let z : ◌≡◌ {A = ℕ} 0 1 = cc in omega arith)
passed_answer (Err n) s h = absurd (let z : ◌≡◌ {A = ℕ} 0 1 = cc in omega arith)

-- what a building call that is done was lent, and what it wrote
pub record BuildDone (k service : ℕ) (payload slice slice' : List ℕ) : Type 0 where
  pub small : service ≤ 15
  pub held : k ≤ 8 * length payload
  pub wide : block_length k ≤ 8 * length slice
  pub bytes : slice' ≡ built_bytes k service payload slice (done tt)

pub build_done_packed : (k service : ℕ) (payload slice slice' : List ℕ) → BuildPacked k service payload slice (Ok tt) slice'
    → BuildDone k service payload slice slice'
unfolding build_packed
build_done_packed k service payload slice slice' built =
    let d : build_packed k service payload slice ≡ done tt = sym built.answers in
    let t1 = passed_test (ltb 15 service) A.spoiled _ tt d in
    let t2 = passed_test (too_short payload k || too_short slice (block_length k)) A.short (done tt) tt t1.1 in
    let t3 = or-false (too_short payload k) (too_short slice (block_length k)) t2.0 in
    record {
      small = ltb-false 15 service t1.0;
      held = ltb-false (8 * length payload) k t3.0;
      wide = ltb-false (8 * length slice) (block_length k) t3.1;
      bytes = built.writes ∙ ap (built_bytes k service payload slice) d;
    }

-- a block that was built is read with its service bits and its data, wherever the data have room
pub packed_read : (k service : ℕ) (payload slice slice' room room' : List ℕ) (answer : Result Read Refusal) → k % 8 ≡ 0 → ((i : ℕ) → get_or payload i 0 < 256)
    → BuildPacked k service payload slice (Ok tt) slice' → ReadPacked k slice' room answer room' → k ≤ 8 * length room
    → (answer ≡ Ok (R.Passed service)) × (room' ≡ take (payload_bytes k) payload ++ drop (payload_bytes k) room)
packed_read k service payload slice slice' room room' answer whole b built read space =
    let t = build_done_packed k service payload slice slice' built in (
      passed_answer answer service
          (read.answers ∙ ap (λ (l : List ℕ). read_packed k l room) t.bytes
          ∙ read_built k service payload slice room whole t.small t.held t.wide space),
      read.writes ∙ ap (λ (l : List ℕ). read_bytes k l room (read_packed k l room)) t.bytes
          ∙ bytes_built k service payload slice room whole t.small t.held t.wide space b,
    )

-- and so by k
pub built_read : (k service : ℕ) (payload slice slice' room room' : List ℕ) (answer : Result Read Refusal) → ((i : ℕ) → get_or payload i 0 < 256)
    → BuildBlock k service payload slice (Ok tt) slice' → ReadBlock k slice' room answer room' → k ≤ 8 * length room
    → (answer ≡ Ok (R.Passed service)) × (room' ≡ take (payload_bytes k) payload ++ drop (payload_bytes k) room)
built_read k service payload slice slice' room room' answer b built read space =
    let below = built_below k service payload slice slice' built in
    packed_read k service payload slice slice' room room' answer (length_facts k below.0).0 b below.1
    (read_below k slice' room answer room' below.0 read) space
