-- `fill_block`: the shifted bytes and the three behind them are the packed block. Assumes nothing.
use mathlib.Core.List.{List, ◌++◌, append_assoc}
use mathlib.Core.Path.{◌≡◌, sym, ap, ap₂, ◌∙◌}
use native.Mathlib.Omega.{arith}
use Prim.Native.Nat.{ℕ, ◌+◌, ◌*◌, ◌≤◌}
use lib.ListN.{length, take, drop, length-append, take-append-drop}
use lib.Seq.{take_at, drop-append-add, drop-append-le, drop-drop, length-take-le}
use Rattle.crc.specs.Bits.{Bits, binary, bits_of, bytes_of}
use Rattle.crc.specs.Check.{check, register}
use Rattle.crc.proofs.Rows.{length-binary}
use Rattle.crc.proofs.Bytes.{length-bits_of, length-bytes_of, bits_of-append, take-bits_of, bytes_of-add, bytes_of_front}
use Rattle.crc.proofs.Register.{register-append, register-check}
use Rattle.block.specs.Block.{block_bits}
use Rattle.block.specs.Calls.{overwritten}
use Rattle.block.proofs.packed.fill_block.Goals as goal

module _ (m service : ℕ) (payload : List ℕ) (hp : m ≤ length payload) where
  -- the service bits and the data
  abbrev body : Bits
  body = binary 4 service ++ bits_of (take m payload)

  length_body : length body ≡ 4 + 8 * m
  length_body =
      length-append (binary 4 service) (bits_of (take m payload))
      ∙ ap₂ (λ (x y : ℕ). x + y) (length-binary 4 service) (length-bits_of (take m payload) ∙ ap (λ (x : ℕ). 8 * x) (length-take-le m payload hp))

  body_front : bytes_of m (binary 4 service ++ bits_of payload) ≡ bytes_of m body
  body_front =
      ap (λ (l : Bits). bytes_of m (binary 4 service ++ l))
      (ap bits_of (sym (take-append-drop m payload)) ∙ bits_of-append (take m payload) (drop m payload))
      ∙ ap (bytes_of m) (sym (append_assoc (binary 4 service) (bits_of (take m payload)) (bits_of (drop m payload))))
      ∙ bytes_of_front m body (bits_of (drop m payload)) (omega (arith, length_body))

  -- its bytes, with the four bits that the shifted ones leave
  packed_block : (last : ℕ) → binary 4 last ≡ drop (8 * m) body
      → bytes_of (m + 3) (block_bits (binary 4 service) (take (8 * m) (bits_of payload)))
      ≡ bytes_of m body ++ bytes_of 3 (binary 4 last ++ binary 16 (check body))
  unfolding block_bits
  packed_block last rest =
      ap (λ (l : Bits). bytes_of (m + 3) ((binary 4 service ++ l) ++ binary 16 (check (binary 4 service ++ l)))) (take-bits_of m payload)
      ∙ bytes_of-add m 3 (body ++ binary 16 (check body))
      ∙ ap₂ (λ (x y : List ℕ). x ++ y) (bytes_of_front m body (binary 16 (check body)) (omega (arith, length_body)))
      (ap (bytes_of 3) (drop-append-le (8 * m) body (binary 16 (check body)) (omega (arith, length_body))
      ∙ ap (λ (l : Bits). l ++ binary 16 (check body)) (sym rest)))

  -- what the three calls write
  written : (block shifted done : List ℕ) (c last : ℕ)
      → c ≡ register (register 0 (binary 4 service)) (bits_of (take m payload))
      → binary 4 last ≡ drop (8 * m) body
      → shifted ≡ bytes_of m (binary 4 service ++ bits_of payload) ++ drop m block
      → done ≡ take m shifted ++ (bytes_of 3 (binary 4 last ++ binary 16 c) ++ drop (m + 3) shifted)
      → done ≡ overwritten (m + 3) (block_bits (binary 4 service) (take (8 * m) (bits_of payload))) block
  written block shifted done c last hc rest hs hl =
      let k : c ≡ check body =
      hc ∙ sym (register-append 0 (binary 4 service) (bits_of (take m payload))) ∙ register-check body in
      let s : shifted ≡ bytes_of m body ++ drop m block = hs ∙ ap (λ (l : List ℕ). l ++ drop m block) body_front in
      let f : take m shifted ≡ bytes_of m body = ap (take m) s ∙ take_at (bytes_of m body) (drop m block) m (length-bytes_of m body) in
      let b : drop (m + 3) shifted ≡ drop (m + 3) block =
      ap (drop (m + 3)) s ∙ ap (λ (n : ℕ). drop (n + 3) (bytes_of m body ++ drop m block)) (sym (length-bytes_of m body))
      ∙ drop-append-add (bytes_of m body) (drop m block) 3 ∙ drop-drop 3 m block in
      hl
      ∙ ap₂ (λ (x y : List ℕ). x ++ (bytes_of 3 (binary 4 last ++ binary 16 c) ++ y)) f b
      ∙ sym (append_assoc (bytes_of m body) (bytes_of 3 (binary 4 last ++ binary 16 c)) (drop (m + 3) block))
      ∙ ap (λ (x : ℕ). (bytes_of m body ++ bytes_of 3 (binary 4 last ++ binary 16 x)) ++ drop (m + 3) block) k
      ∙ ap (λ (l : List ℕ). l ++ drop (m + 3) block) (sym (packed_block last rest))

pub slice_bounds-feed_bytes-end : goal.slice_bounds-feed_bytes-end
slice_bounds-feed_bytes-end c = let a = c.args in
    sym (length-take-le a.m a.payload.now (omega arith))

pub returns : goal.returns
returns c = let a = c.args in
    written a.m a.service a.payload.now (omega arith) a.block.now _ _ c.feed_bytes-check.result c.shift_in-last.result
    (c.feed_bytes-check.ensures ∙ ap (λ (x : ℕ). register x (bits_of (take a.m a.payload.now))) c.feed_nibble.ensures)
    c.shift_in-last.ensures.0
    c.shift_in-last.ensures.1
    c.put_check.ensures
