-- Bits moved by bytes: parts of a byte, bytes joined of two, a row written into an array byte by byte, and bytes written
-- over a part of the store. Assumes nothing.
use mathlib.Core.Path.{◌≡◌, sym, ap, ap₂, ◌∙◌}
use mathlib.Core.List.{List, [], ◌∷◌, ◌++◌, append_assoc}
use mathlib.Core.Logic.{⊎_elim}
use Prim.Native.Nat.{ℕ, zero, suc, ◌+◌, ◌-◌, ◌*◌, ◌/◌, ◌%◌, ◌^◌, ◌≤◌, ◌<◌}
use native.Mathlib.Nat.{mod-lt, le_of_lt, eq-or-lt_of_le}
use native.Mathlib.Numerals.{add-one}
use native.Mathlib.Omega.{arith}
use lib.Bits.{bit_or, bit_and, or_shifted, and_mask, and_high}
use lib.ListN.{length, take, drop, get_or, set, length-append, length-drop, take-append-drop}
use lib.Pow.{pow_pos, shl_exact, ones_split, ones_lt, high}
use lib.Seq.{take-append-le, take-append-add, take-add, drop-append-add, drop-append-le, take-suc, take-suc-set, take-take, take_all, drop-drop, drop-cons, set_split, length-take-le}
use Rattle.crc.specs.Bits.{Bits, binary, bits_of}
use Rattle.crc.proofs.Rows.{length-binary, binary-mod, binary_join, take-binary, drop-binary}
use Rattle.crc.proofs.Bytes.{length-bits_of, take-bits_of, drop-bits_of, bits_of-append, bits_of_last, take_bytes, drop_bytes, packed}
use Rattle.line.specs.Receiving.{overwrite, store_at}

-- ---- parts of a byte

module _ (n : ℕ) (h : n ≤ 8) where
  both : n + (8 - n) ≡ 8
  both = omega arith

  pub take_byte : (x : ℕ) → take n (binary 8 x) ≡ binary n (x / 2 ^ (8 - n))
  take_byte x = ap (λ (w : ℕ). take n (binary w x)) (sym both) ∙ take-binary n (8 - n) x

  pub drop_byte : (x : ℕ) → drop n (binary 8 x) ≡ binary (8 - n) x
  drop_byte x = ap (λ (w : ℕ). drop n (binary w x)) (sym both) ∙ drop-binary n (8 - n) x

  pub byte_join : (a b : ℕ) → b < 2 ^ (8 - n) → binary 8 (a * 2 ^ (8 - n) + b) ≡ binary n a ++ binary (8 - n) b
  byte_join a b l = ap (λ (w : ℕ). binary w (a * 2 ^ (8 - n) + b)) (sym both) ∙ binary_join n (8 - n) a b l

-- ---- as the code has them

module _ (n : ℕ) (h : n < 8) where
  within : n ≤ 8
  within = le_of_lt h

  module _ (c x : ℕ) (lc : c < 256) (lx : x < 256) where
    both_bytes : bit_or ((c * 256) % 65536) x ≡ c * 256 + x
    both_bytes = ap (λ (m : ℕ). bit_or m x) (shl_exact 8 8 16 lc (omega arith)) ∙ or_shifted c 8 x lx

    pub joined_bits : binary 8 (bit_and (bit_or ((c * 256) % 65536) x / 2 ^ n) 255) ≡ take 8 (binary n c ++ binary 8 x)
    joined_bits =
        let w : ℕ = c * 256 + x in
        let e : 8 + n ≡ n + 8 = omega arith in
        ap (λ (m : ℕ). binary 8 (bit_and (m / 2 ^ n) 255)) both_bytes ∙ ap (binary 8) (and_mask (w / 2 ^ n) 8) ∙ binary-mod 8 (w / 2 ^ n)
        ∙ sym (take-binary 8 n w) ∙ ap (λ (v : ℕ). take 8 (binary v w)) e ∙ ap (take 8) (binary_join n 8 c x lx)

  ones : 255 / 2 ^ n ≡ 2 ^ (8 - n) - 1
  ones =
      let e : (8 - n) + n ≡ 8 = omega arith in
      ap (λ (w : ℕ). (2 ^ w - 1) / 2 ^ n) (sym e) ∙ ap (λ (m : ℕ). m / 2 ^ n) (ones_split (8 - n) n)
      ∙ high (2 ^ (8 - n) - 1) n (ones_lt n)

  other_ones : 255 - 255 / 2 ^ n ≡ 2 ^ (n + (8 - n)) - 2 ^ (8 - n)
  other_ones =
      ap (λ (m : ℕ). 255 - m) ones ∙ less (2 ^ (8 - n)) (pow_pos (8 - n))
      ∙ ap (λ (w : ℕ). 2 ^ w - 2 ^ (8 - n)) (sym (both n within))
    where
      less : (p : ℕ) → 0 < p → 255 - (p - 1) ≡ 2 ^ 8 - p
      less p q = omega arith

  pub merged_bits : (a b : ℕ) → binary 8 (bit_or (bit_and a (255 - 255 / 2 ^ n)) (bit_and b (255 / 2 ^ n))) ≡ take n (binary 8 a) ++ drop n (binary 8 b)
  merged_bits a b =
      let q : ℕ = 8 - n in
      let l : b % 2 ^ q < 2 ^ q = mod-lt b (pow_pos q) in
      ap₂ (λ (x y : ℕ). binary 8 (bit_or x y)) (ap (bit_and a) other_ones ∙ and_high a n q) (ap (bit_and b) ones ∙ and_mask b q)
      ∙ ap (binary 8) (or_shifted (a / 2 ^ q % 2 ^ n) q (b % 2 ^ q) l)
      ∙ byte_join n within (a / 2 ^ q % 2 ^ n) (b % 2 ^ q) l
      ∙ ap₂ (λ (x y : Bits). x ++ y) (binary-mod n (a / 2 ^ q) ∙ sym (take_byte n within a)) (binary-mod q b ∙ sym (drop_byte n within b))

-- ---- a row written behind the bits held: every byte that fills, then the last

drop_past : (x y : Bits) (n m : ℕ) → n ≡ length x + m → drop n (x ++ y) ≡ drop m y
drop_past x y n m e = ap (λ (k : ℕ). drop k (x ++ y)) e ∙ drop-append-add x y m

take_past : (x y : Bits) (n m : ℕ) → n ≡ length x + m → take n (x ++ y) ≡ x ++ take m y
take_past x y n m e = ap (λ (k : ℕ). take k (x ++ y)) e ∙ take-append-add x y m

-- the bits held: whole bytes and the first bits of the next
pub held_bits_lem : (array : List ℕ) (held at s c : ℕ) → 8 * at + s ≡ held → s ≤ 8 → at < length array
    → binary s c ≡ take s (binary 8 (get_or array at 0)) → bits_of (take at array) ++ binary s c ≡ take held (bits_of array)
unfolding bits_of
held_bits_lem array held at s c e hs ha h =
    let b : Bits = binary 8 (get_or array at 0) in
    let r : Bits = bits_of (drop (suc at) array) in
    let l : s ≤ length b = omega (arith, length-binary 8 (get_or array at 0)) in
    ap₂ (λ (x y : Bits). x ++ y) (sym (take-bits_of at array))
    (h ∙ sym (take-append-le s b r l) ∙ ap (λ (k : List ℕ). take s (bits_of k)) (sym (drop-cons array at 0 ha)) ∙ ap (take s) (sym (drop-bits_of at array)))
    ∙ sym (take-add (8 * at) s (bits_of array))
    ∙ ap (λ (k : ℕ). take k (bits_of array)) e

-- a byte joined of carried bits and a new byte, and the bits carried on
carry_on : (s c x v : ℕ) → s ≤ 8 → binary 8 v ≡ take 8 (binary s c ++ binary 8 x) → binary 8 v ++ binary s x ≡ binary s c ++ binary 8 x
carry_on s c x v h e =
    let l : 8 - s ≤ 8 = omega arith in
    let k : 8 - (8 - s) ≡ s = omega arith in
    let f : binary s x ≡ drop (8 - s) (binary 8 x) = sym (drop_byte (8 - s) l x ∙ ap (λ (w : ℕ). binary w x) k) in
    let n : 8 ≡ length (binary s c) + (8 - s) = omega (arith, length-binary s c) in
    ap₂ (λ (a b : Bits). a ++ b) e (f ∙ sym (drop_past (binary s c) (binary 8 x) 8 (8 - s) n))
    ∙ take-append-drop 8 (binary s c ++ binary 8 x)

pub one_byte_more : (array line : List ℕ) (at i s c v : ℕ) (front : Bits) → at < length array → i < length line → s ≤ 8
    → binary 8 v ≡ take 8 (binary s c ++ binary 8 (get_or line i 0))
    → bits_of (take at array) ++ binary s c ≡ front ++ bits_of (take i line)
    → bits_of (take (suc at) (set array at v)) ++ binary s (get_or line i 0) ≡ front ++ bits_of (take (suc i) line)
one_byte_more array line at i s c v front ha hl hs e h =
    let x : ℕ = get_or line i 0 in
    let t : Bits = bits_of (take at array) in
    ap (λ (l : List ℕ). bits_of l ++ binary s x) (take-suc-set array at v ha)
    ∙ ap (λ (l : Bits). l ++ binary s x) (bits_of_last (take at array) v)
    ∙ append_assoc t (binary 8 v) (binary s x)
    ∙ ap (λ (l : Bits). t ++ l) (carry_on s c x v hs e)
    ∙ sym (append_assoc t (binary s c) (binary 8 x))
    ∙ ap (λ (l : Bits). l ++ binary 8 x) h
    ∙ append_assoc front (bits_of (take i line)) (binary 8 x)
    ∙ ap (λ (l : Bits). front ++ l) (sym (bits_of_last (take i line) x) ∙ ap bits_of (sym (take-suc line i 0 hl)))

-- the bits wanted of a line are among its first bytes and the next, or zero behind the last
next_byte_lem : (line : List ℕ) (i count : ℕ) → i ≤ length line → count ≤ 8 * suc i → count ≤ 8 * length line
    → take count (bits_of (take i line) ++ binary 8 (get_or line i 0)) ≡ take count (bits_of line)
next_byte_lem line i count hi hc hl =
    ⊎_elim
    (λ (e : i ≡ length line).
    let n : count ≤ length (bits_of line) = omega (arith, length-bits_of line) in
    let a : length line ≤ i = omega arith in
    ap (λ (l : List ℕ). take count (bits_of l ++ binary 8 (get_or line i 0))) (take_all i line a)
    ∙ take-append-le count (bits_of line) (binary 8 (get_or line i 0)) n)
    (λ (h : i < length line).
    ap (take count) (sym (bits_of_last (take i line) (get_or line i 0)) ∙ ap bits_of (sym (take-suc line i 0 h)) ∙ sym (take-bits_of (suc i) line))
    ∙ take-take count (8 * suc i) (bits_of line) hc)
    (eq-or-lt_of_le hi)

pub further : (x y : List ℕ) (i : ℕ) → drop i x ≡ drop i y → drop (suc i) x ≡ drop (suc i) y
further x y i e =
    let f : i + 1 ≡ suc i = add-one i in
    ap (λ (k : ℕ). drop k x) (sym f) ∙ sym (drop-drop 1 i x) ∙ ap (drop 1) e ∙ drop-drop 1 i y ∙ ap (λ (k : ℕ). drop k y) f

module _ (array array₀ line : List ℕ) (held count at i s n c v w : ℕ) (ha : at < length array) (hh : held ≤ 8 * length array₀)
    (same : drop at array ≡ drop at array₀) (hi : i ≤ length line) (hc : count ≤ 8 * suc i) (hl : count ≤ 8 * length line) (hn : n ≤ 8)
    (places : 8 * at + n ≡ held + count) where
  module _ (e : binary 8 v ≡ take 8 (binary s c ++ binary 8 (get_or line i 0)))
      (h : bits_of (take at array) ++ binary s c ≡ take held (bits_of array₀) ++ bits_of (take i line)) where
    front : bits_of (take at array) ++ take n (binary 8 v) ≡ take held (bits_of array₀) ++ take count (bits_of line)
    front =
        let t : Bits = bits_of (take at array) in
        let x : Bits = binary 8 (get_or line i 0) in
        let u : Bits = take held (bits_of array₀) in
        let lt : 8 * at ≡ length t = sym (length-bits_of (take at array) ∙ ap (λ (k : ℕ). 8 * k) (length-take-le at array (le_of_lt ha))) in
        let lu : length u ≡ held = length-take-le held (bits_of array₀) (omega (arith, length-bits_of array₀)) in
        let p : 8 * at + n ≡ length t + n = omega arith in
        let q : 8 * at + n ≡ length u + count = omega arith in
        ap (λ (l : Bits). t ++ l) (ap (take n) e ∙ take-take n 8 (binary s c ++ x) hn)
        ∙ sym (take_past t (binary s c ++ x) (8 * at + n) n p)
        ∙ ap (take (8 * at + n)) (sym (append_assoc t (binary s c) x) ∙ ap (λ (l : Bits). l ++ x) h ∙ append_assoc u (bits_of (take i line)) x)
        ∙ take_past u (bits_of (take i line) ++ x) (8 * at + n) count q
        ∙ ap (λ (l : Bits). u ++ l) (next_byte_lem line i count hi hc hl)

  back : drop n (binary 8 (get_or array at 0)) ++ bits_of (drop (suc at) array) ≡ drop (held + count) (bits_of array₀)
  unfolding bits_of
  back =
      let b : Bits = binary 8 (get_or array at 0) in
      let r : Bits = bits_of (drop (suc at) array) in
      let l : n ≤ length b = omega (arith, length-binary 8 (get_or array at 0)) in
      sym (drop-append-le n b r l)
      ∙ ap (λ (k : List ℕ). drop n (bits_of k)) (sym (drop-cons array at 0 ha) ∙ same)
      ∙ ap (drop n) (sym (drop-bits_of at array₀)) ∙ drop-drop n (8 * at) (bits_of array₀)
      ∙ ap (λ (k : ℕ). drop k (bits_of array₀)) places

  pub last_byte : binary 8 v ≡ take 8 (binary s c ++ binary 8 (get_or line i 0))
      → binary 8 w ≡ take n (binary 8 v) ++ drop n (binary 8 (get_or array at 0))
      → bits_of (take at array) ++ binary s c ≡ take held (bits_of array₀) ++ bits_of (take i line)
      → bits_of (set array at w) ≡ overwrite held (take count (bits_of line)) (bits_of array₀)
  unfolding bits_of
  last_byte e f h =
      let t : Bits = bits_of (take at array) in
      let r : Bits = bits_of (drop (suc at) array) in
      let x : Bits = take n (binary 8 v) in
      let y : Bits = drop n (binary 8 (get_or array at 0)) in
      let u : Bits = take held (bits_of array₀) in
      let new : Bits = take count (bits_of line) in
      let ln : count ≡ length new = sym (length-take-le count (bits_of line) (omega (arith, length-bits_of line))) in
      ap bits_of (set_split array at w ha)
      ∙ bits_of-append (take at array) (w ∷ drop (suc at) array)
      ∙ ap (λ (l : Bits). t ++ (l ++ r)) f
      ∙ ap (λ (l : Bits). t ++ l) (append_assoc x y r)
      ∙ sym (append_assoc t x (y ++ r))
      ∙ ap₂ (λ (k l : Bits). k ++ l) (front e h) back
      ∙ append_assoc u new (drop (held + count) (bits_of array₀))
      ∙ ap (λ (k : ℕ). u ++ (new ++ drop (held + k) (bits_of array₀))) ln

-- ---- bytes over a part of the store

append_bytes : (x y : List ℕ) → ((i : ℕ) → get_or x i 0 < 256) → ((i : ℕ) → get_or y i 0 < 256) → (i : ℕ) → get_or (x ++ y) i 0 < 256
append_bytes [] y h k i = k i
append_bytes (a ∷ x) y h k zero = h 0
append_bytes (a ∷ x) y h k (suc i) = append_bytes x y (λ j. h (suc j)) k i

pub placed_store : (store new : List ℕ) (from : ℕ) → from + length new ≤ length store → ((i : ℕ) → get_or store i 0 < 256)
    → ((i : ℕ) → get_or new i 0 < 256) → take from store ++ (new ++ drop (length new) (drop from store)) ≡ store_at (8 * from) (bits_of new) store
unfolding store_at
placed_store store new from h bs bn =
    let front : List ℕ = take from store in
    let back : List ℕ = drop (length new) (drop from store) in
    let d : back ≡ drop (from + length new) store = drop-drop (length new) from store in
    let n : length (front ++ (new ++ back)) ≡ length store =
    length-append front (new ++ back)
    ∙ ap₂ (λ (x y : ℕ). x + y) (length-take-le from store (omega arith))
    (length-append new back ∙ ap (λ (x : ℕ). length new + x) (length-drop (length new) (drop from store) ∙ ap (λ (x : ℕ). x - length new) (length-drop from store)))
    ∙ omega arith in
    let e : 8 * (from + length new) ≡ 8 * from + length (bits_of new) = omega (arith, length-bits_of new) in
    packed (front ++ (new ++ back)) (length store) (overwrite (8 * from) (bits_of new) (bits_of store)) n
    (append_bytes front (new ++ back) (take_bytes from store bs)
    (append_bytes new back bn (drop_bytes (length new) (drop from store) (drop_bytes from store bs))))
    (bits_of-append front (new ++ back)
    ∙ ap₂ (λ (x y : Bits). x ++ y) (sym (take-bits_of from store))
    (bits_of-append new back
    ∙ ap (λ (l : Bits). bits_of new ++ l) (ap bits_of d ∙ sym (drop-bits_of (from + length new) store) ∙ ap (λ (k : ℕ). drop k (bits_of store)) e)))
