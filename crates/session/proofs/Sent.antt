-- A block in the line's array: as the sending call leaves it there, and with its first bit inverted. Assumes nothing.
use mathlib.Core.Path.{◌≡◌, refl, sym, ap, ap₂, ◌∙◌}
use mathlib.Core.Bool.{Bool, true, false, cond, not}
use mathlib.Core.List.{List, [], ◌∷◌, ◌++◌}
use Prim.Native.Nat.{ℕ, zero, suc, ◌+◌, ◌-◌, ◌*◌, ◌^◌, ◌<◌}
use native.Mathlib.Nat.{sub-zero, zero-sub, suc-sub-suc}
use native.Mathlib.Omega.{arith}
use lib.Bits.{bit_xor, xor_block, xor_zero_r}
use lib.ListN.{length, get_or, set, take, drop, replicate, drop_of_length-le, length-append}
use lib.Seq.{length-take-le}
use Rattle.crc.specs.Bits.{Bits, bit, number, bytes_of, zeros}
use Rattle.crc.proofs.Rows.{number-cons, number_lt}
use Rattle.block.specs.Answer.{done}
use Rattle.block.specs.Lengths.{is_length, block_length, block_bytes}
use Rattle.block.specs.Block.{cancelled}
use Rattle.block.proofs.Lengths.{length_facts}
use Rattle.block.proofs.Block.{length-sync_block, length-cancelled}
use Rattle.crc.proofs.Bytes.{bytes_of-add}
use Rattle.line.specs.declared.marks.Marks.{Marks}
use Rattle.line.specs.Order.{order_bits, item_bits}
use Rattle.line.specs.Sending.{Block, synchronising, item, sent_bits, send, send_bytes}
use Rattle.line.proofs.Items.{length-order_bits, length-item_bits}
use Rattle.line.proofs.LastItem.{bytes_of_none}
use Rattle.line.proofs.SenderRange.{in_range, sendable}
use Rattle.line.specs.declared.sender.Sender.{Sender}
use Rattle.session.specs.Period.{line_bytes, invert_first}

-- ---- as it is sent

drop-zeros : (m n : ℕ) → ◌≡◌ {A = List ℕ} (drop m (replicate n 0)) (replicate (n - m) 0)
drop-zeros zero n = rw sub-zero
drop-zeros (suc m) zero = rw zero-sub
drop-zeros (suc m) (suc n) = rw suc-sub-suc (drop-zeros m n)

length-cond : (t : Bool) (x y : Bits) (n : ℕ) → length x ≡ n → length y ≡ n → length (cond t x y) ≡ n
length-cond true x y n p q = p
length-cond false x y n p q = q

pub length-sent_bits : (m : Marks) (k L : ℕ) (content : Bits) (b : Block) → is_length k ≡ true → length content ≡ L
    → length (sent_bits m k L content b) ≡ block_length k
unfolding sent_bits
length-sent_bits m k L content synchronising h e = length-sync_block k (length_facts k h).0
length-sent_bits m k L content (item i end used cancel) h e =
    let bits = item_bits m k L content i in
    let n = length-item_bits k L content h e m i in
    length-cond cancel (cancelled bits) bits (block_length k) (length-cancelled bits ∙ n) n

packed_sent : (k : ℕ) (bits : Bits) → is_length k ≡ true → length bits ≡ block_length k
    → bytes_of (block_bytes k) bits ++ drop (block_bytes k) (replicate line_bytes 0) ≡ bytes_of line_bytes bits
packed_sent k bits h n =
    let f = length_facts k h in
    let m : ℕ = block_bytes k in
    let e : line_bytes ≡ m + (line_bytes - m) = omega arith in
    let d : drop (8 * m) bits ≡ [] = drop_of_length-le bits {i = 8 * m} (omega arith) in
    ap (λ (l : List ℕ). bytes_of m bits ++ l) (drop-zeros m line_bytes ∙ sym (bytes_of_none (line_bytes - m)) ∙ ap (bytes_of (line_bytes - m)) (sym d))
    ∙ sym (bytes_of-add m (line_bytes - m) bits) ∙ ap (λ (x : ℕ). bytes_of x bits) (sym e)

-- what a sending call leaves in the array that was zero
pub record OnLine (s : Sender) (bits : Bits) (line : List ℕ) : Type 0 where
  pub known : is_length s.setup.k ≡ true
  pub count : length bits ≡ block_length s.setup.k
  pub packed : line ≡ bytes_of line_bytes bits

pub on_line : (s : Sender) (order : List ℕ) (reading : Bool) (b : Block) → send s order reading (replicate line_bytes 0) ≡ done b
    → OnLine s (sent_bits s.setup.marks s.setup.k s.setup.length (order_bits s.setup.length order) b)
    (send_bytes s order (replicate line_bytes 0) (done b))
on_line s order reading b e =
    let g = sendable s order reading (replicate line_bytes 0) b e in
    let r = in_range s g.range in
    let n =
    length-sent_bits s.setup.marks s.setup.k s.setup.length (order_bits s.setup.length order) b r.known
    (length-order_bits s.setup.length order g.lent) in
    record {
      known = r.known;
      count = n;
      packed =
          packed_sent s.setup.k
          (sent_bits s.setup.marks s.setup.k s.setup.length (order_bits s.setup.length order) b) r.known n;
    }

-- ---- with its first bit inverted

top_bit : (b : Bool) (y : ℕ) → y < 2 ^ 7 → bit_xor (bit b * 2 ^ 7 + y) 128 ≡ bit (not b) * 2 ^ 7 + y
top_bit b y h =
    let x : bit_xor (bit b * 2 ^ 7 + y) (1 * 2 ^ 7 + 0) ≡ bit_xor (bit b) 1 * 2 ^ 7 + bit_xor y 0 =
    xor_block 7 (bit b) 1 y 0 h (omega arith) in
    x ∙ ap₂ (λ (p q : ℕ). p * 2 ^ 7 + q) (flip b) (xor_zero_r y)
  where
    flip : (b : Bool) → bit_xor (bit b) 1 ≡ bit (not b)
    flip true = refl
    flip false = refl

first_inverted : (b : Bool) (r : Bits) → length r ≡ 7 → bit_xor (number (b ∷ r)) 128 ≡ number (not b ∷ r)
first_inverted b r n =
    let e : number (b ∷ r) ≡ bit b * 2 ^ 7 + number r = number-cons b r ∙ ap (λ (w : ℕ). bit b * 2 ^ w + number r) n in
    let f : number (not b ∷ r) ≡ bit (not b) * 2 ^ 7 + number r = number-cons (not b) r ∙ ap (λ (w : ℕ). bit (not b) * 2 ^ w + number r) n in
    let l : number r < 2 ^ 7 = rw n at (number_lt r) in
    rw (e, f) (top_bit b (number r) l)

pub inverted_packed : (bits : Bits) → 0 < length bits
    → set (bytes_of line_bytes bits) 0 (bit_xor (get_or (bytes_of line_bytes bits) 0 0) 128) ≡ bytes_of line_bytes (invert_first bits)
unfolding bytes_of
inverted_packed [] h = absurd (omega arith)
inverted_packed (b ∷ bs) h =
    let n : length (take 7 (bs ++ zeros 8)) ≡ 7 = length-take-le 7 (bs ++ zeros 8) (rw length-append (omega arith)) in
    ap (λ (x : ℕ). x ∷ bytes_of 482 (drop 7 bs)) (first_inverted b (take 7 (bs ++ zeros 8)) n)
