-- A block that passes, once it is cancelled, fails with the remainder 1: on the promises of the calls. Assumes nothing.
use Rattle.std.specs.Prelude.{Result, Ok, Err}
use Rattle.block.specs.declared.Refusal.{Refusal}
use mathlib.Core.Path.{◌≡◌, sym, ap, ◌∙◌}
use mathlib.Core.Bool.{true}
use mathlib.Core.List.{List, ◌++◌}
use Prim.Native.Nat.{ℕ, ◌*◌, ◌≤◌}
use native.Mathlib.Omega.{arith}
use borrow.Author.Tests.{ltb-false}
use lib.ListN.{length, take, drop, length-append, length-drop}
use lib.Seq.{take_at, length-take-le}
use Rattle.crc.specs.Bits.{Bits, bits_of, bytes_of}
use Rattle.crc.specs.Check.{passes}
use Rattle.crc.proofs.Bytes.{length-bits_of, length-bytes_of, bits_of-bytes_of_exact}
use Rattle.block.specs.Answer as A
use Rattle.block.specs.Answer.{done}
use Rattle.block.specs.Lengths.{block_length}
use Rattle.block.specs.Block.{failed, verdict, cancelled}
use Rattle.block.specs.Calls.{too_short, read_answer, ReadBlock, cancel_bytes, CancelBlock}
use Rattle.block.specs.Packed.{ReadPacked, held_packed, CancelPacked}
use Rattle.block.specs.declared.Read.{Read}
use Rattle.block.specs.declared.Read.TheVariants as R
use Rattle.block.proofs.Block.{length-cancelled, cancelled-verdict}
use Rattle.block.proofs.Refusals.{passed_test, read_done}
use Rattle.block.proofs.LookUp.{read_below, cancelled_below}
use Rattle.block.proofs.Passing.{row_passed}

module _ (k : ℕ) (slice slice' : List ℕ) (c : CancelPacked k slice (Ok tt) slice') where
  -- the n bits before
  abbrev row : Bits
  row = take (block_length k) (bits_of slice)

  held : block_length k ≤ 8 * length slice
  unfolding held_packed
  held =
      ltb-false (8 * length slice) (block_length k)
      (passed_test (too_short slice (block_length k)) A.short (done tt) tt (sym c.answers)).0

  length_row : length row ≡ block_length k
  length_row = length-take-le (block_length k) (bits_of slice) (omega (arith, length-bits_of slice, held))

  abbrev written : Bits
  written = cancelled row ++ drop (block_length k) (bits_of slice)

  bytes_written : slice' ≡ bytes_of (length slice) written
  bytes_written = c.writes ∙ ap (cancel_bytes k slice) (sym c.answers)

  pub bits_cancelled : bits_of slice' ≡ cancelled (take (block_length k) (bits_of slice)) ++ drop (block_length k) (bits_of slice)
  bits_cancelled =
      let l : length written ≡ 8 * length slice =
      length-append (cancelled row) (drop (block_length k) (bits_of slice))
      ∙ omega (arith, length-cancelled row, length_row, length-drop (block_length k) (bits_of slice), length-bits_of slice, held) in
      ap bits_of bytes_written ∙ bits_of-bytes_of_exact (length slice) written l

  row_cancelled : take (block_length k) (bits_of slice') ≡ cancelled row
  row_cancelled =
      ap (take (block_length k)) bits_cancelled
      ∙ take_at (cancelled row) (drop (block_length k) (bits_of slice)) (block_length k) (length-cancelled row ∙ length_row)

  verdict-cancelled : passes row ≡ true → verdict (take (block_length k) (bits_of slice')) ≡ failed 1
  verdict-cancelled p = ap verdict row_cancelled ∙ cancelled-verdict row (omega (arith, length_row)) p

  -- whatever its service bits and data, and whatever room there is for the data
  pub packed_cancelled : (service : ℕ) (room room' again again' : List ℕ) (answer : Result Read Refusal) → ReadPacked k slice room (Ok (R.Passed service)) room'
      → ReadPacked k slice' again answer again' → k ≤ 8 * length again → answer ≡ Ok (R.Failed 1)
  packed_cancelled service room room' again again' answer before behind space =
      let wide : length slice' ≡ length slice = ap length bytes_written ∙ length-bytes_of (length slice) written in
      failed_answer answer 1
      (behind.answers ∙ read_done k slice' again (omega (arith, wide, held)) space
      ∙ ap done (verdict-cancelled (row_passed k slice room room' service before)))
    where
      failed_answer : (answer : Result Read Refusal) (r : ℕ) → read_answer answer ≡ done (failed r) → answer ≡ Ok (R.Failed r)
      failed_answer (Ok (R.Passed s)) r h = absurd (let z : ◌≡◌ {A = ℕ} 0 1 = cc in omega arith)
      failed_answer (Ok (R.Failed x)) r h = cc
      failed_answer (Err n) r h = absurd (let z : ◌≡◌ {A = ℕ} 0 1 = cc in omega arith)

-- and so by k
pub cancelled-read : (k : ℕ) (slice slice' : List ℕ) → CancelBlock k slice (Ok tt) slice' → (service : ℕ) (room room' again again' : List ℕ)
    (answer : Result Read Refusal) → ReadBlock k slice room (Ok (R.Passed service)) room' → ReadBlock k slice' again answer again' → k ≤ 8 * length again
    → answer ≡ Ok (R.Failed 1)
cancelled-read k slice slice' c service room room' again again' answer before behind space =
    let below = cancelled_below k slice slice' c in
    packed_cancelled k slice slice' below.1 service room room' again again' answer
    (read_below k slice room _ room' below.0 before) (read_below k slice' again answer again' below.0 behind) space
