-- `cancel` keeps its promise: the one store inverts the last bit of the block. Assumes nothing.
use borrow.Author.Rules.{rules}
use borrow.Author.Tests.{ltb-false}
use mathlib.Core.Bool.{Bool, true, false}
use mathlib.Core.List.{List, [], ◌∷◌, ◌++◌, append_assoc}
use mathlib.Core.Path.{◌≡◌, sym, ap, ap₂, ◌∙◌}
use native.Mathlib.Nat.{le_of_lt}
use native.Mathlib.Omega.{arith}
use Prim.Native.Nat.{ℕ, suc, ◌/◌, ◌+◌, ◌*◌, ◌<◌}
use lib.Bits.{bit_xor, xor_shr, xor_lt}
use lib.Dec.{lit<}
use lib.ListN.{length, get_or, take, drop, set, length-append, length-set}
use lib.Seq.{set_split, split_at, take_at, drop_at, length-take-le}
use Rattle.crc.specs.Bits.{Bits, binary, xor_bits, bits_of, bytes_of}
use Rattle.crc.proofs.Rows.{length-binary, binary_split, binary-xor, xor_bits_false, xor_bit_comm, xor_bits-zeros}
use Rattle.crc.proofs.Bytes.{length-bits_of, bits_of-append, set_bytes, packed}
use Rattle.block.specs.Block.{cancelled}
use Rattle.block.specs.Lengths.{block_length}
use Rattle.block.specs.Calls.{too_short}
use Rattle.block.proofs.Block.{cancelled-append}
use Rattle.block.proofs.Refusals.{cancel_slice, cancel_done}
use Rattle.block.proofs.packed.cancel.Goals as goal
use Rattle.block.proofs.packed.cancel.Goals.{Else-short_of_block}

-- four bits and 0001
xor_one : (a b c d : Bool) → xor_bits (a ∷ b ∷ c ∷ d ∷ []) (false ∷ false ∷ false ∷ true ∷ []) ≡ cancelled (a ∷ b ∷ c ∷ d ∷ [])
unfolding xor_bits cancelled
xor_one a b c d = rw (xor_bits_false a, xor_bits_false b, xor_bits_false c, xor_bit_comm d true)

high_half : (h : ℕ) → binary 4 (bit_xor h 1) ≡ cancelled (binary 4 h)
unfolding binary
high_half h = binary-xor 4 h 1 ∙ xor_one _ _ _ _

low_half : (x : ℕ) → binary 4 (bit_xor x 16) ≡ binary 4 x
unfolding binary
low_half x = binary-xor 4 x 16 ∙ xor_bits-zeros (binary 4 x)

-- the byte stored
inverted : (x : ℕ) → binary 8 (bit_xor x 16) ≡ cancelled (binary 4 (x / 16)) ++ binary 4 x
inverted x =
    binary_split 4 4 (bit_xor x 16)
    ∙ ap₂ (λ (l t : Bits). l ++ t) (ap (binary 4) (xor_shr x 16 4) ∙ high_half (x / 16)) (low_half x)

module _ (j : ℕ) (s : List ℕ) (h : j < length s) where
  abbrev byte : ℕ
  byte = get_or s j 0

  abbrev front : Bits
  front = bits_of (take j s) ++ binary 4 (byte / 16)

  abbrev behind : Bits
  behind = binary 4 byte ++ bits_of (drop (suc j) s)

  length_front : length front ≡ 8 * j + 4
  length_front =
      length-append (bits_of (take j s)) (binary 4 (byte / 16))
      ∙ ap₂ (λ (x y : ℕ). x + y) (length-bits_of (take j s) ∙ ap (λ (x : ℕ). 8 * x) (length-take-le j s (le_of_lt h))) (length-binary 4 (byte / 16))

  bits_parts : bits_of s ≡ front ++ behind
  unfolding bits_of
  bits_parts =
      ap bits_of (split_at s j 0 h) ∙ bits_of-append (take j s) (byte ∷ drop (suc j) s)
      ∙ ap (λ (l : Bits). bits_of (take j s) ++ (l ++ bits_of (drop (suc j) s))) (binary_split 4 4 byte)
      ∙ ap (λ (l : Bits). bits_of (take j s) ++ l) (append_assoc (binary 4 (byte / 16)) (binary 4 byte) (bits_of (drop (suc j) s)))
      ∙ sym (append_assoc (bits_of (take j s)) (binary 4 (byte / 16)) behind)

  cancelled_front : cancelled front ≡ bits_of (take j s) ++ cancelled (binary 4 (byte / 16))
  cancelled_front =
      let n : length (binary 4 (byte / 16)) ≡ 4 = length-binary 4 (byte / 16) in
      cancelled-append (bits_of (take j s)) (binary 4 (byte / 16)) (omega arith)

  bits_stored : bits_of (set s j (bit_xor byte 16)) ≡ cancelled (take (8 * j + 4) (bits_of s)) ++ drop (8 * j + 4) (bits_of s)
  unfolding bits_of
  bits_stored =
      ap bits_of (set_split s j (bit_xor byte 16) h) ∙ bits_of-append (take j s) (bit_xor byte 16 ∷ drop (suc j) s)
      ∙ ap (λ (l : Bits). bits_of (take j s) ++ (l ++ bits_of (drop (suc j) s))) (inverted byte)
      ∙ ap (λ (l : Bits). bits_of (take j s) ++ l) (append_assoc (cancelled (binary 4 (byte / 16))) (binary 4 byte) (bits_of (drop (suc j) s)))
      ∙ sym (append_assoc (bits_of (take j s)) (cancelled (binary 4 (byte / 16))) behind)
      ∙ ap₂ (λ (l t : Bits). l ++ t)
      (sym cancelled_front ∙ ap cancelled (sym (take_at front behind (8 * j + 4) length_front) ∙ ap (take (8 * j + 4)) (sym bits_parts)))
      (sym (drop_at front behind (8 * j + 4) length_front) ∙ ap (drop (8 * j + 4)) (sym bits_parts))

  stored : ((i : ℕ) → get_or s i 0 < 256)
      → set s j (bit_xor byte 16) ≡ bytes_of (length s) (cancelled (take (8 * j + 4) (bits_of s)) ++ drop (8 * j + 4) (bits_of s))
  stored b =
      packed (set s j (bit_xor byte 16)) (length s) (cancelled (take (8 * j + 4) (bits_of s)) ++ drop (8 * j + 4) (bits_of s))
      (length-set s j (bit_xor byte 16)) (set_bytes s j (bit_xor byte 16) (xor_lt 8 byte 16 (b j) (lit< tt)) b) bits_stored

pub returns-then-short_of_block : goal.returns-then-short_of_block
returns-then-short_of_block c = let a = c.args in
    cancel_slice (8 * a.m) a.block.now (sym c.short_of_block.ensures ∙ c.if-short_of_block.true)

-- the slice holds the block
held : (c : Else-short_of_block) → too_short c.args.block.now (block_length (8 * c.args.m)) ≡ false
held c = sym c.short_of_block.ensures ∙ c.if-short_of_block.false

room : (c : Else-short_of_block) → c.args.m + 2 < length c.args.block.now
room c =
    let a = c.args in
    omega (arith, ltb-false (8 * length a.block.now) (block_length (8 * a.m)) (held c))

pub overflow_add-block : goal.overflow_add-block
overflow_add-block c = let r = room (goal.at.overflow_add-block c).Else-short_of_block in search rules

pub bounds-block-m : goal.bounds-block-m
bounds-block-m c = room (goal.at.bounds-block-m c).Else-short_of_block

pub bounds-block-m-2 : goal.bounds-block-m-2
bounds-block-m-2 c = room (goal.at.bounds-block-m-2 c).Else-short_of_block

pub returns : goal.returns
returns c = let a = c.args in
    let n : 8 * (a.m + 2) + 4 ≡ block_length (8 * a.m) = omega arith in
    cancel_done (8 * a.m) a.block.now (held (goal.at.returns c).Else-short_of_block) _
    (stored (a.m + 2) a.block.now (room (goal.at.returns c).Else-short_of_block) (λ i. (c.slice_known-2-1.given i).fits)
    ∙ ap (λ (x : ℕ). bytes_of (length a.block.now) (cancelled (take x (bits_of a.block.now)) ++ drop x (bits_of a.block.now))) n)
