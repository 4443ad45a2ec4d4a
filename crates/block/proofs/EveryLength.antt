-- Packing, unpacking, check, synchronising block and cancelling, at every multiple of 8. Assumes nothing.
use Rattle.std.specs.Prelude.{Ok}
use mathlib.Core.Path.{◌≡◌, sym, ap, ◌∙◌}
use mathlib.Core.Bool.{true, false}
use mathlib.Core.List.{List, ◌++◌}
use Prim.Native.Nat.{ℕ, ◌%◌, ◌≤◌}
use native.Mathlib.Omega.{arith}
use lib.ListN.{take, drop}
use lib.Seq.{take_at}
use Rattle.crc.specs.Bits.{zeros, bits_of}
use Rattle.crc.specs.Check.{remainder, passes}
use Rattle.crc.proofs.Division.{passes-remainder}
use Rattle.block.specs.Lengths.{block_length, block_bytes}
use Rattle.block.specs.Block.{sync_block}
use Rattle.block.specs.Calls.{sync_bytes}
use Rattle.block.specs.Packed.{CheckPacked, SyncPacked}
use Rattle.block.specs.EveryLength.{AtEveryLength}
use Rattle.block.proofs.Block.{length-sync_block, sync_fails}
use Rattle.block.proofs.Packing.{bits_overwritten}
use Rattle.block.proofs.RoundTrip.{build_done_packed, bits_written, packed_read}
use Rattle.block.proofs.Passing.{row_checked, checking}
use Rattle.block.proofs.Cancelled.{bits_cancelled, packed_cancelled}

module _ (k : ℕ) (whole : k % 8 ≡ 0) (slice slice' : List ℕ) (p : SyncPacked k slice (Ok tt) slice') where
  sync_bits : bits_of slice' ≡ sync_block k ++ (zeros 4 ++ bits_of (drop (block_bytes k) slice))
  sync_bits =
      ap bits_of (p.writes ∙ ap (sync_bytes k slice) (sym p.answers)) ∙ bits_overwritten k (sync_block k) slice whole (length-sync_block k whole)

  sync_row : take (block_length k) (bits_of slice') ≡ sync_block k
  sync_row = ap (take (block_length k)) sync_bits ∙ take_at (sync_block k) (zeros 4 ++ bits_of (drop (block_bytes k) slice)) (block_length k) (length-sync_block k whole)

  sync_not_zero : (r : ℕ) → 8 ≤ k → k ≤ 3840 → CheckPacked k slice' (Ok r) → r ≡ 0 → ⊥
  sync_not_zero r low high c z =
      let f : passes (sync_block k) ≡ false = sync_fails k whole low high in
      let t : passes (sync_block k) ≡ true = (passes-remainder (sync_block k)).1 (ap remainder (sym sync_row) ∙ sym (row_checked k slice' r c) ∙ z) in
      let y : ◌≡◌ {A = ℕ} 0 1 = cc in
      omega arith

pub every_length : AtEveryLength
every_length k whole = record {
  packing = λ service payload slice slice' p. let t = build_done_packed k service payload slice slice' p in
      ap bits_of t.bytes ∙ bits_written k service payload slice slice whole t.small t.held t.wide (omega (arith, t.wide));
  unpacking = λ service payload slice slice' room room' answer b p q space.
      packed_read k service payload slice slice' room room' answer whole b p q space;
  checking = checking k;
  synchronising = sync_bits k whole;
  synchronising_fails = λ slice slice' r low high p c. sync_not_zero k whole slice slice' p r low high c;
  cancelling = bits_cancelled k;
  cancelling_fails = λ service slice slice' room room' again again' answer before c behind space.
      packed_cancelled k slice slice' c service room room' again again' answer before behind space;
}
