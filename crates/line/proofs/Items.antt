-- Laws of the order as items: the number of items, the lengths of their parts, and what they hold. Assumes nothing.
use mathlib.Core.Path.{◌≡◌, refl, ap, ap₂, sym, ◌∙◌}
use mathlib.Core.Bool.{Bool, true, false, cond}
use mathlib.Core.List.{List, ◌++◌}
use Prim.Native.Nat.{ℕ, zero, suc, ◌+◌, ◌-◌, ◌*◌, ◌/◌, ◌≤◌, ◌<◌}
use native.Mathlib.Nat.{add-div_right, div-zero, div-eq_of_lt, div-mul-le_self, lt-div-mul-add, mul-le-mul, mul-le-mul_right}
use native.Mathlib.Omega.{arith}
use borrow.Author.Tests.{leb-true, le-leb, lt-leb, ltb-true, lt-ltb, le-ltb}
use lib.Dec.{leb}
use lib.ListN.{length, take, drop, length-append, length-drop, length-replicate}
use lib.Seq.{length-take-le, take-add}
use Rattle.crc.specs.Bits.{Bits, binary, bits_of, number, zeros}
use Rattle.crc.specs.Check.{passes}
use Rattle.crc.proofs.Rows.{length-binary, number-binary}
use Rattle.crc.proofs.Bytes.{length-bits_of}
use Rattle.block.specs.Lengths.{is_length, block_length}
use Rattle.block.specs.Block.{block_bits, service_of, payload_of}
use Rattle.block.proofs.Lengths.{length_facts}
use Rattle.block.proofs.Block.{length-block_bits, passes-block_bits, service_block_bits, payload_block_bits}
use Rattle.block.proofs.Truth.{and_right, and_no, cond_case}
use Rattle.line.specs.declared.marks.Marks.{Marks}
use Rattle.line.proofs.ServiceBits.{service_lt16, service_not_sync}
use Rattle.line.specs.Order.{longest_order, most_items, valid_length, item_count, end_service, data_service, order_bits, filled, version, end_payload, is_data, item_service, item_payload, item_bits}

-- ---- a length that an order may have

pub valid_most : (L : ℕ) → valid_length L ≡ true → L ≤ longest_order
unfolding valid_length
valid_most L h = leb-true L longest_order (and_right (leb 1 L) (leb L longest_order) h)

-- as the code tests it
pub long_invalid : (L : ℕ) → longest_order < L → valid_length L ≡ false
unfolding valid_length
long_invalid L h = simp (lt-leb L longest_order h, and_no (leb 1 L))

pub empty_invalid : (L : ℕ) → L ≡ 0 → valid_length L ≡ false
unfolding valid_length
empty_invalid L e = rw e

pub other_valid : (L : ℕ) → (L ≡ 0 → ⊥) → L ≤ longest_order → valid_length L ≡ true
unfolding valid_length
other_valid L n h = let one : 1 ≤ L = omega arith in simp (le-leb 1 L one, le-leb L longest_order h)

-- ---- the number of items

-- the items hold the order, and one item fewer would not
pub item_count-holds : (k L : ℕ) → 0 < k → L ≤ item_count k L * k
unfolding item_count
item_count-holds k L h = let d = lt-div-mul-add {a = L + k - 1} {b = k} h in omega arith

pub item_count_least : (k L : ℕ) → 0 < k → item_count k L * k < L + k
unfolding item_count
item_count_least k L h = let d = div-mul-le_self (L + k - 1) k in omega arith

-- divided by 0, a length makes none
pub item_count_none : (k L : ℕ) → k ≡ 0 → item_count k L ≡ 0
unfolding item_count
item_count_none k L e = ap (λ (x : ℕ). (L + x - 1) / x) e ∙ div-zero (L + 0 - 1)

pub item_count-empty : (k L : ℕ) → 0 < k → L ≡ 0 → item_count k L ≡ 0
unfolding item_count
item_count-empty k L h e = div-eq_of_lt (omega arith)

-- the last bit of an order is in its last item
pub item_count_last : (k L : ℕ) → 0 < k → 1 ≤ L → item_count k L ≡ (L - 1) / k + 1
unfolding item_count
item_count_last k L h g = let e : L + k - 1 ≡ L - 1 + k = omega arith in ap (λ (x : ℕ). x / k) e ∙ add-div_right (L - 1) h

-- item i of the data items ends within them
pub item_within : (i n k : ℕ) → i < n → i * k + k ≤ n * k
item_within i n k h = let d : suc i * k ≤ n * k = mul-le-mul_right k h in omega arith

-- a row of n items of 240 bits or more that is shorter than the longest order and one item
most : (n k : ℕ) → 240 ≤ k → n * k < longest_order + k → n ≤ most_items
most zero k h g = omega arith
most (suc n) k h g = let d : n * 240 ≤ n * k = mul-le-mul (omega arith) h in omega arith

pub item_count_fits : (k L : ℕ) → is_length k ≡ true → valid_length L ≡ true → item_count k L ≤ most_items
item_count_fits k L h v =
    let f = length_facts k h in
    let d = item_count_least k L (omega arith) in
    let w = valid_most L v in
    most (item_count k L) k f.1 (omega arith)

-- and the longest order makes as many at the shortest k
pub item_count_most : item_count 240 longest_order ≡ most_items
unfolding item_count
item_count_most = refl

-- ---- lengths

pub length-order_bits : (L : ℕ) (order : List ℕ) → L ≤ 8 * length order → length (order_bits L order) ≡ L
length-order_bits L order h = length-take-le L (bits_of order) (omega (arith, length-bits_of order))

pub length-filled : (k L : ℕ) (content : Bits) → 0 < k → length content ≡ L → length (filled k L content) ≡ item_count k L * k
unfolding filled
length-filled k L content h e =
    omega (
      arith,
      length-append content (zeros (item_count k L * k - L)),
      length-replicate (item_count k L * k - L) false,
      item_count-holds k L h,
    )

pub length-end_payload : (k L : ℕ) → 40 ≤ k → length (end_payload k L) ≡ k
unfolding end_payload
length-end_payload k L h =
    omega (
      arith,
      length-append (binary 8 version ++ binary 32 L) (zeros (k - 40)),
      length-append (binary 8 version) (binary 32 L),
      length-binary 8 version,
      length-binary 32 L,
      length-replicate (k - 40) false,
    )

module _ (k L : ℕ) (content : Bits) (h : is_length k ≡ true) (e : length content ≡ L) where
  length_data : (i : ℕ) → i < item_count k L → length (take k (drop (i * k) (filled k L content))) ≡ k
  length_data i g =
      let f = length_facts k h in
      length-take-le k (drop (i * k) (filled k L content))
      (omega (
        arith,
        length-drop (i * k) (filled k L content),
        length-filled k L content (omega arith) e,
        item_within i (item_count k L) k g,
      ))

  length_payload : (i : ℕ) (t : Bool) → is_data k L i ≡ t
      → length (cond t (take k (drop (i * k) (filled k L content))) (end_payload k L)) ≡ k
  length_payload i true d = length_data i (ltb-true i (item_count k L) d)
  length_payload i false d = let f = length_facts k h in length-end_payload k L (omega arith)

  pub length-item_payload : (i : ℕ) → length (item_payload k L content i) ≡ k
  unfolding item_payload
  length-item_payload i = length_payload i (is_data k L i) refl

  pub length-item_bits : (m : Marks) (i : ℕ) → length (item_bits m k L content i) ≡ block_length k
  unfolding item_bits
  length-item_bits m i =
      omega (
        arith,
        length-block_bits (binary 4 (item_service m k L i)) (item_payload k L content i),
        length-binary 4 (item_service m k L i),
        length-item_payload i,
      )

  pub payload_item_bits : (m : Marks) (i : ℕ) → payload_of k (item_bits m k L content i) ≡ item_payload k L content i
  unfolding item_bits
  payload_item_bits m i =
      payload_block_bits k (binary 4 (item_service m k L i)) (item_payload k L content i) (length-binary 4 (item_service m k L i))
      (length-item_payload i)

pub passes-item_bits : (m : Marks) (k L : ℕ) (content : Bits) (i : ℕ) → passes (item_bits m k L content i) ≡ true
unfolding item_bits
passes-item_bits m k L content i = passes-block_bits (binary 4 (item_service m k L i)) (item_payload k L content i)

-- the check bits alone are so many
pub item_bits-long : (m : Marks) (k L : ℕ) (content : Bits) (i : ℕ) → 16 ≤ length (item_bits m k L content i)
unfolding item_bits
item_bits-long m k L content i =
    omega (arith, length-block_bits (binary 4 (item_service m k L i)) (item_payload k L content i))

-- ---- service bits and data

module _ (m : Marks) (k L i : ℕ) where
  pub item_service_data : i < item_count k L → item_service m k L i ≡ data_service m i
  unfolding item_service
  item_service_data h = simp (lt-ltb i (item_count k L) h)

  pub item_service_end : item_count k L ≤ i → item_service m k L i ≡ end_service
  unfolding item_service
  item_service_end h = simp (le-ltb i (item_count k L) h)

  pub item_service_lt16 : item_service m k L i < 16
  unfolding item_service
  item_service_lt16 = cond_case (λ (s : ℕ). s < 16) (is_data k L i) (λ e. service_lt16 m i) (λ e. omega arith)

  pub item_service-not_sync : item_service m k L i ≡ 0b0101 → ⊥
  unfolding item_service
  item_service-not_sync =
      cond_case (λ (s : ℕ). s ≡ 0b0101 → ⊥) (is_data k L i) (λ e. service_not_sync m i) (λ e z. omega arith)

  pub service_item_bits : (content : Bits) → number (service_of (item_bits m k L content i)) ≡ item_service m k L i
  unfolding item_bits
  service_item_bits content =
      ap number
      (service_block_bits (binary 4 (item_service m k L i)) (item_payload k L content i) (length-binary 4 (item_service m k L i)))
      ∙ number-binary 4 (item_service m k L i) item_service_lt16

module _ (k L i : ℕ) where
  pub item_payload_data : (content : Bits) → i < item_count k L
      → item_payload k L content i ≡ take k (drop (i * k) (filled k L content))
  unfolding item_payload
  item_payload_data content h = simp (lt-ltb i (item_count k L) h)

  pub item_payload_end : (content : Bits) → item_count k L ≤ i → item_payload k L content i ≡ end_payload k L
  unfolding item_payload
  item_payload_end content h = simp (le-ltb i (item_count k L) h)

-- the two end blocks are equal
pub item_bits_end : (m : Marks) (k L : ℕ) (content : Bits) (i : ℕ) → item_count k L ≤ i
    → item_bits m k L content i ≡ block_bits (binary 4 end_service) (end_payload k L)
unfolding item_bits
item_bits_end m k L content i h =
    ap₂ (λ (s : ℕ) (p : Bits). block_bits (binary 4 s) p) (item_service_end m k L i h) (item_payload_end k L i content h)

-- ---- the items are the order

-- the first r items, one after the other, are the first r times k bits of the order with its filling
pub filled_next : (k L : ℕ) (content : Bits) (r : ℕ) → r < item_count k L
    → take (r * k) (filled k L content) ++ item_payload k L content r ≡ take (suc r * k) (filled k L content)
filled_next k L content r h =
    let e : suc r * k ≡ r * k + k = omega arith in
    ap (λ (p : Bits). take (r * k) (filled k L content) ++ p) (item_payload_data k L r content h)
    ∙ sym (take-add (r * k) k (filled k L content))
    ∙ ap (λ (n : ℕ). take n (filled k L content)) (sym e)
