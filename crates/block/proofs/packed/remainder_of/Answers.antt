-- `remainder_of`: what the register and the check received leave of the whole block. Assumes nothing.
use borrow.Author.Rules.{rules}
use mathlib.Core.List.{List, ◌++◌}
use mathlib.Core.Path.{◌≡◌, sym, ap, ap₂, ◌∙◌}
use native.Mathlib.Omega.{arith}
use Prim.Native.Nat.{ℕ, ◌+◌, ◌*◌, ◌/◌, ◌^◌, ◌≤◌, ◌<◌}
use lib.Bits.{bit_xor}
use lib.ListN.{length, get_or, take}
use lib.Seq.{length-take-le}
use Rattle.crc.specs.Bits.{Bits, binary, bits_of}
use Rattle.crc.specs.Check.{check, register, remainder}
use Rattle.crc.proofs.Rows.{length-binary, number-binary}
use Rattle.crc.proofs.Codeword.{remainder_behind}
use Rattle.crc.proofs.Register.{register-append, register-check}
use Rattle.block.proofs.Packing.{block_parts}
use Rattle.block.proofs.packed.remainder_of.Goals as goal

whole : (m : ℕ) (s : List ℕ) (c r : ℕ) → m + 3 ≤ length s → r < 2 ^ 16
    → c ≡ register (register 0 (bits_of (take m s))) (binary 4 (get_or s m 0 / 16))
    → binary 16 r ≡ binary 4 (get_or s m 0) ++ (binary 8 (get_or s (m + 1) 0) ++ binary 4 (get_or s (m + 2) 0 / 16))
    → bit_xor c r ≡ remainder (take (8 * m + 20) (bits_of s))
whole m s c r h hr hc e =
    let front : Bits = bits_of (take m s) ++ binary 4 (get_or s m 0 / 16) in
    let k : c ≡ check front =
    hc ∙ sym (register-append 0 (bits_of (take m s)) (binary 4 (get_or s m 0 / 16))) ∙ register-check front in
    ap₂ bit_xor k (sym (number-binary 16 r hr))
    ∙ sym (remainder_behind front (binary 16 r) (length-binary 16 r))
    ∙ ap (λ (l : Bits). remainder (front ++ l)) e
    ∙ ap remainder (sym (block_parts m s h))

pub slice_bounds-feed_bytes-end : goal.slice_bounds-feed_bytes-end
slice_bounds-feed_bytes-end c = let a = c.args in
    sym (length-take-le a.m a.block.now (omega arith))

pub returns : goal.returns
returns c = let a = c.args in
    let r : c.received_check.result < 65536 = search rules in
    whole a.m a.block.now _ _ (omega arith) r
    (c.feed_nibble-check.ensures ∙ ap (λ (x : ℕ). register x (binary 4 (get_or a.block.now a.m 0 / 16))) c.feed_bytes.ensures)
    c.received_check.ensures
