-- The packed calls on services and slices that they do not turn away, and an item's data as rows of the order.
-- Assumes nothing.
use mathlib.Core.Path.{◌≡◌, refl, ap, ap₂, sym, subst, ◌∙◌}
use mathlib.Core.List.{List, ◌++◌, append_assoc}
use Prim.Native.Nat.{ℕ, ◌+◌, ◌-◌, ◌*◌, ◌/◌, ◌%◌, ◌≤◌, ◌<◌}
use native.Mathlib.Nat.{mul_left_comm, mul-le-mul_right, div-mul-le_self, lt-div-mul-add}
use native.Mathlib.Omega.{arith}
use borrow.Author.Tests.{le-ltb}
use lib.ListN.{length, get_or, take, drop, length-append, length-drop}
use lib.Seq.{take_at, drop_at, take-take, take-append-le, drop-append-le}
use Rattle.crc.specs.Bits.{Bits, binary, bits_of, bytes_of, zeros}
use Rattle.crc.proofs.Rows.{length-binary}
use Rattle.crc.proofs.Bytes.{length-bits_of, take-bits_of, drop-bits_of, length-bytes_of, bytes_of-zeros, bits_of-bytes_of, bytes_of-bits_of, bytes_of-append, drop_bytes}
use Rattle.block.specs.Answer.{done}
use Rattle.block.specs.Lengths.{block_length, block_bytes}
use Rattle.block.specs.Block.{block_bits, sync_block, cancelled}
use Rattle.block.specs.Calls.{built_answer, overwritten, built_bytes, sync_bytes, cancel_bytes}
use Rattle.block.specs.Packed.{build_packed, BuildPacked, held_packed, SyncPacked, CancelPacked}
use Rattle.std.specs.Prelude.{Result, Ok, Err, IsOk}
use Rattle.block.specs.declared.Refusal.{Refusal}
use Rattle.block.proofs.Lengths.{whole_bytes}
use Rattle.block.proofs.Block.{length-cancelled}
use Rattle.block.proofs.Packing.{bits_overwritten}
use Rattle.block.proofs.Refusals.{held_done}
use Rattle.line.specs.Order.{item_count, data_service, filled, order_bits, version, end_payload, item_bits}
use Rattle.line.specs.declared.marks.Marks.{Marks}
use Rattle.line.proofs.Items.{item_count_least, item_within, length-order_bits, item_service_data, item_payload_data}
use Rattle.line.proofs.LastItem.{take-zeros, drop-take}

-- ---- the calls

-- an answer that is done is no refusal
pub done_ok : (answer : Result (Unit {0}) Refusal) → built_answer answer ≡ done tt → IsOk answer
done_ok (Ok u) e = refl
done_ok (Err r) e = absurd (let z : ◌≡◌ {A = ℕ} 0 1 = cc in omega arith)

module _ (k : ℕ) (slice : List ℕ) (answer : Result (Unit {0}) Refusal) (slice' : List ℕ) (whole : k % 8 ≡ 0)
    (room : block_length k ≤ 8 * length slice) where
  module _ (service : ℕ) (payload : List ℕ) (small : service < 16) (enough : k ≤ 8 * length payload)
      (below : BuildPacked (8 * (k / 8)) service payload slice answer slice') where
    at_k : BuildPacked k service payload slice answer slice'
    at_k = subst (λ (x : ℕ). BuildPacked x service payload slice answer slice') (whole_bytes k whole) below

    builds : build_packed k service payload slice ≡ done tt
    unfolding build_packed
    builds =
        simp (le-ltb 15 service (omega arith), le-ltb (8 * length payload) k enough, le-ltb (8 * length slice) (block_length k) room)

    pub built : slice' ≡ overwritten (block_bytes k) (block_bits (binary 4 service) (take k (bits_of payload))) slice
    built = at_k.writes ∙ ap (built_bytes k service payload slice) builds

    pub built_ok : IsOk answer
    built_ok = done_ok answer (at_k.answers ∙ builds)

  held : held_packed k slice ≡ done tt
  held = held_done k slice (le-ltb (8 * length slice) (block_length k) room)

  pub synchronised : SyncPacked (8 * (k / 8)) slice answer slice' → slice' ≡ overwritten (block_bytes k) (sync_block k) slice
  synchronised below =
      let p = subst (λ (x : ℕ). SyncPacked x slice answer slice') (whole_bytes k whole) below in
      p.writes ∙ ap (sync_bytes k slice) held

  pub synchronised_ok : SyncPacked (8 * (k / 8)) slice answer slice' → IsOk answer
  synchronised_ok below =
      let p = subst (λ (x : ℕ). SyncPacked x slice answer slice') (whole_bytes k whole) below in
      done_ok answer (p.answers ∙ held)

  pub cancels_ok : CancelPacked (8 * (k / 8)) slice answer slice' → IsOk answer
  cancels_ok below =
      let p = subst (λ (x : ℕ). CancelPacked x slice answer slice') (whole_bytes k whole) below in
      done_ok answer (p.answers ∙ held)

  pub cancels : CancelPacked (8 * (k / 8)) slice answer slice' → slice' ≡ cancel_bytes k slice (done tt)
  cancels below =
      let p = subst (λ (x : ℕ). CancelPacked x slice answer slice') (whole_bytes k whole) below in
      p.writes ∙ ap (cancel_bytes k slice) held

-- the bits of a slice over which a block was written
module _ (k : ℕ) (row : Bits) (slice : List ℕ) (whole : k % 8 ≡ 0) (n : length row ≡ block_length k) where
  abbrev behind : List ℕ
  behind = drop (block_bytes k) slice

  -- cancelled there, it is the cancelled block written
  pub cancel_overwritten : ((i : ℕ) → get_or slice i 0 < 256)
      → cancel_bytes k (overwritten (block_bytes k) row slice) (done tt) ≡ overwritten (block_bytes k) (cancelled row) slice
  cancel_overwritten bytes =
      let bits = bits_overwritten k row slice whole n in
      let m : ℕ = block_bytes k in
      let s : List ℕ = overwritten m row slice in
      let l : length s ≡ m + length behind =
      length-append (bytes_of m row) behind ∙ ap (λ (j : ℕ). j + length behind) (length-bytes_of m row)
      in
      let t : take (block_length k) (bits_of s) ≡ row =
      ap (take (block_length k)) bits ∙ take_at row (zeros 4 ++ bits_of behind) (block_length k) n
      in
      let d : drop (block_length k) (bits_of s) ≡ zeros 4 ++ bits_of behind =
      ap (drop (block_length k)) bits ∙ drop_at row (zeros 4 ++ bits_of behind) (block_length k) n
      in
      let w : length (cancelled row ++ zeros 4) ≡ 8 * m =
      omega (arith, length-append (cancelled row) (zeros 4), length-cancelled row)
      in
      ap₂ (λ (x y : Bits). bytes_of (length s) (cancelled x ++ y)) t d
      ∙ ap₂ (λ (j : ℕ) (x : Bits). bytes_of j x) l (sym (append_assoc (cancelled row) (zeros 4) (bits_of behind)))
      ∙ bytes_of-append m (length behind) (cancelled row ++ zeros 4) (bits_of behind) w
      ∙ ap₂ (λ (x y : List ℕ). x ++ y) (bytes_of-zeros m (cancelled row) 4)
      (bytes_of-bits_of behind (drop_bytes m slice bytes))

-- ---- an end block's data

pub end_data : (k L : ℕ) → 40 ≤ k → k ≤ 3840 → (payload : List ℕ) → bits_of payload ≡ end_payload 3840 L
    → take k (bits_of payload) ≡ end_payload k L
unfolding end_payload
end_data k L h g payload e =
    let row : Bits = binary 8 version ++ binary 32 L in
    let n : length row ≡ 40 = omega (arith, length-append (binary 8 version) (binary 32 L), length-binary 8 version, length-binary 32 L) in
    ap (take k) e ∙ take-zeros k 3800 row (omega arith) (omega arith) ∙ ap (λ (j : ℕ). row ++ zeros (k - j)) n

-- ---- item i of an order, in bytes

pub item_byte : (i k : ℕ) → k % 8 ≡ 0 → 8 * (i * (k / 8)) ≡ i * k
item_byte i k h = mul_left_comm 8 i (k / 8) ∙ ap (λ (j : ℕ). i * j) (whole_bytes k h)

pub whole_data : (i k : ℕ) (order : List ℕ) → k % 8 ≡ 0
    → take k (bits_of (take (k / 8) (drop (i * (k / 8)) order))) ≡ take k (drop (i * k) (bits_of order))
whole_data i k order h =
    ap (take k) (sym (take-bits_of (k / 8) (drop (i * (k / 8)) order)) ∙ ap (take (8 * (k / 8))) (sym (drop-bits_of (i * (k / 8)) order)))
    ∙ ap₂ (λ (m a : ℕ). take k (take m (drop a (bits_of order)))) (whole_bytes k h) (item_byte i k h)
    ∙ take-take k k (drop (i * k) (bits_of order)) (omega arith)

pub last_data : (i k bits : ℕ) (order payload : List ℕ) → k % 8 ≡ 0 → k ≤ 3840 → i * k ≤ bits → bits ≤ i * k + k
    → bits ≤ 8 * length order
    → payload ≡ bytes_of 480 (drop (8 * (i * (k / 8))) (order_bits bits order))
    → take k (bits_of payload) ≡ drop (i * k) (order_bits bits order) ++ zeros (i * k + k - bits)
last_data i k bits order payload h high from to lent e =
    let row : Bits = drop (i * k) (order_bits bits order) in
    let n : length row ≡ bits - i * k =
    length-drop (i * k) (order_bits bits order) ∙ ap (λ (j : ℕ). j - i * k) (length-order_bits bits order lent)
    in
    let m : k - length row ≡ i * k + k - bits = omega arith in
    ap (λ (l : List ℕ). take k (bits_of l)) (e ∙ ap (λ (j : ℕ). bytes_of 480 (drop j (order_bits bits order))) (item_byte i k h))
    ∙ ap (take k) (bits_of-bytes_of 480 row (omega arith))
    ∙ take-zeros k (8 * 480 - length row) row (omega arith) (omega arith)
    ∙ ap (λ (j : ℕ). row ++ zeros j) m

-- ---- item i of the order with its filling

-- a data item starts within the order
pub item_start : (k L i : ℕ) → 0 < k → i < item_count k L → i * k < L
item_start k L i pos h =
    let w = item_within i (item_count k L) k h in
    let l = item_count_least k L pos in
    omega arith

-- the order fills the items before L / k
pub filled_item : (k L i : ℕ) → i < L / k → i * k + k ≤ L
filled_item k L i h =
    let w = item_within i (L / k) k h in
    let l = div-mul-le_self L k in
    omega arith

pub unfilled_item : (k L i : ℕ) → 0 < k → L / k ≤ i → L < i * k + k
unfilled_item k L i pos h =
    let w : L / k * k ≤ i * k = mul-le-mul_right k h in
    let l = lt-div-mul-add {a = L} {b = k} pos in
    omega arith

module _ (k L : ℕ) (order : List ℕ) (pos : 0 < k) (lent : L ≤ 8 * length order) where
  -- an item that the order fills
  pub whole_item : (i : ℕ) → i * k + k ≤ L
      → take k (drop (i * k) (bits_of order)) ≡ take k (drop (i * k) (filled k L (order_bits L order)))
  unfolding filled
  whole_item i h =
      let n = length-order_bits L order lent in
      let m : length (drop (i * k) (order_bits L order)) ≡ L - i * k =
      length-drop (i * k) (order_bits L order) ∙ ap (λ (j : ℕ). j - i * k) n
      in
      sym
      (ap (take k) (drop-append-le (i * k) (order_bits L order) (zeros (item_count k L * k - L)) (omega arith))
      ∙ take-append-le k (drop (i * k) (order_bits L order)) (zeros (item_count k L * k - L)) (omega arith)
      ∙ ap (take k) (drop-take (i * k) L (bits_of order) (omega arith) (omega (arith, length-bits_of order)))
      ∙ take-take k (L - i * k) (drop (i * k) (bits_of order)) (omega arith))

  -- the last item
  pub last_item : (i : ℕ) → i < item_count k L → L < i * k + k
      → drop (i * k) (order_bits L order) ++ zeros (i * k + k - L) ≡ take k (drop (i * k) (filled k L (order_bits L order)))
  unfolding filled
  last_item i h g =
      let row : Bits = drop (i * k) (order_bits L order) in
      let z : ℕ = item_count k L * k - L in
      let from = item_start k L i pos h in
      let n : length row ≡ L - i * k =
      length-drop (i * k) (order_bits L order) ∙ ap (λ (j : ℕ). j - i * k) (length-order_bits L order lent)
      in
      let m : k - length row ≡ i * k + k - L = omega arith in
      let w = item_within i (item_count k L) k h in
      sym
      (ap (take k) (drop-append-le (i * k) (order_bits L order) (zeros z) (omega (arith, length-order_bits L order lent)))
      ∙ take-zeros k z row (omega arith) (omega arith) ∙ ap (λ (j : ℕ). row ++ zeros j) m)

-- a data item from its service bits and its data
pub data_item : (m : Marks) (k L : ℕ) (content payload : Bits) (i service : ℕ) → i < item_count k L
    → service ≡ data_service m i → payload ≡ take k (drop (i * k) (filled k L content))
    → block_bits (binary 4 service) payload ≡ item_bits m k L content i
unfolding item_bits
data_item m k L content payload i service h g e =
    ap₂ (λ (s : ℕ) (p : Bits). block_bits (binary 4 s) p) (g ∙ sym (item_service_data m k L i h))
    (e ∙ sym (item_payload_data k L i content h))
