-- A pattern on a cancelled block: the block passes exactly if the pattern leaves 1, and one pattern alone does. Assumes nothing.
use Rattle.std.proofs.Common.{◌≡◌, ℕ, ◌+◌, ◌-◌, ◌^◌, ◌<◌, ◌≤◌, true, ◌↔◌, length, sym, ap, ◌∙◌, arith, lit<}
use mathlib.Core.Logic.Iff
use lib.Bits.{bit_xor}
use Rattle.crc.specs.Bits.{Bits, xor_bits}
use Rattle.crc.specs.Check.{remainder, passes}
use Rattle.crc.proofs.Xor.{xor_cancel}
use Rattle.crc.proofs.Linear.{remainder-xor}
use Rattle.crc.proofs.Division.{passes-remainder}
use Rattle.crc.proofs.Zeros.{leaving, leaving_lt, one_leaves}
use Rattle.block.specs.Block.{cancelled}
use Rattle.block.proofs.Block.{length-cancelled, cancelled-remainder}
use Rattle.noise.specs.Load.{pattern_at}
use Rattle.noise.specs.Facts.{OnePattern}
use Rattle.noise.proofs.Spans.{length_pattern}

module _ (row : Bits) (place : ℕ) (room : place + 16 ≤ length row) (p : passes row ≡ true) where
  abbrev behind : ℕ
  behind = length row - (place + 16)

  abbrev pattern : ℕ → Bits
  pattern q = pattern_at (length row) place q

  left : (q : ℕ) → remainder (xor_bits (cancelled row) (pattern q)) ≡ bit_xor 1 (remainder (pattern q))
  left q =
      remainder-xor (cancelled row) (pattern q) (length-cancelled row ∙ sym (length_pattern place q behind ∙ omega arith))
      ∙ ap (λ (x : ℕ). bit_xor x (remainder (pattern q))) (cancelled-remainder row (omega arith) p)

  leaves_1 : (q : ℕ) → (remainder (xor_bits (cancelled row) (pattern q)) ≡ 0) ↔ (remainder (pattern q) ≡ 1)
  leaves_1 q = (
    λ z. sym (xor_cancel 1 (remainder (pattern q))) ∙ ap (bit_xor 1) (sym (left q) ∙ z),
    λ e. left q ∙ ap (bit_xor 1) e,
  )

  passes_at : (q : ℕ) → q < 2 ^ 16 → (passes (xor_bits (cancelled row) (pattern q)) ≡ true) ↔ (q ≡ leaving 1 behind)
  passes_at q h =
      Iff.trans (passes-remainder (xor_bits (cancelled row) (pattern q))) (Iff.trans (leaves_1 q) (one_leaves place behind 1 q (lit< tt) h))

pub one_pattern : OnePattern
unfolding OnePattern
one_pattern row place room p = (
  leaving 1 (length row - (place + 16)),
  leaving_lt 1 (length row - (place + 16)) (lit< tt),
  passes_at row place room p,
)
