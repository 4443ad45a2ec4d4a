-- How data are packed behind the order's last whole byte: rows cut short, with zeros behind them. Assumes nothing.
use mathlib.Core.Path.{◌≡◌, refl, ap, ap₂, sym, ◌∙◌}
use mathlib.Core.Bool.{false}
use mathlib.Core.List.{List, [], ◌∷◌, ◌++◌}
use Prim.Native.Nat.{ℕ, zero, suc, ◌+◌, ◌-◌, ◌*◌, ◌/◌, ◌%◌, ◌≤◌, ◌<◌}
use native.Mathlib.Omega.{arith}
use lib.ListN.{length, get_or, set, take, drop, replicate, length-drop, length-replicate, drop_of_length-le, replicate-append-replicate}
use lib.Seq.{length-take-le, take-add, take-append-le, take-append-add, drop_at, drop-cons, get_or-drop, set_at, take_at}
use Rattle.crc.specs.Bits.{Bits, binary, bits_of, bytes_of, number, zeros}
use Rattle.crc.proofs.Rows.{length-binary, binary-zero}
use Rattle.crc.proofs.Bytes.{length-bits_of, drop-bits_of, drop_bytes, packed_front, bytes_of-append}

-- ---- zeros

pub bytes_of_none : (n : ℕ) → bytes_of n [] ≡ replicate n 0
unfolding bytes_of number
bytes_of_none zero = refl
bytes_of_none (suc n) = ap (λ (l : List ℕ). 0 ∷ l) (bytes_of_none n)

pub bits_of-zeros : (n : ℕ) → bits_of (replicate n 0) ≡ zeros (8 * n)
unfolding bits_of
bits_of-zeros zero = refl
bits_of-zeros (suc n) =
    let e : 8 * suc n ≡ 8 + 8 * n = omega arith in
    ap₂ (λ (x y : Bits). x ++ y) (binary-zero 8) (bits_of-zeros n) ∙ replicate-append-replicate 8 (8 * n) false
    ∙ ap zeros (sym e)

-- zeros behind a row, cut within the zeros
pub take-zeros : (k n : ℕ) (row : Bits) → length row ≤ k → k ≤ length row + n
    → take k (row ++ zeros n) ≡ row ++ zeros (k - length row)
take-zeros k n row h g =
    let d : ℕ = k - length row in
    let e : k ≡ length row + d = omega arith in
    let f : n ≡ d + (n - d) = omega arith in
    ap (λ (j : ℕ). take j (row ++ zeros n)) e ∙ take-append-add row (zeros n) d
    ∙ ap (λ (l : Bits). row ++ l)
    (ap (λ (j : ℕ). take d (zeros j)) f ∙ ap (take d) (sym (replicate-append-replicate d (n - d) false))
    ∙ take_at (zeros d) (zeros (n - d)) d (length-replicate d false))

-- ---- rows cut short

pub drop-take : (a b : ℕ) (l : Bits) → a ≤ b → b ≤ length l → drop a (take b l) ≡ take (b - a) (drop a l)
drop-take a b l h g =
    let e : b ≡ a + (b - a) = omega arith in
    ap (λ (n : ℕ). drop a (take n l)) e ∙ ap (drop a) (take-add a (b - a) l)
    ∙ drop_at (take a l) (take (b - a) (drop a l)) a (length-take-le a l (omega arith))

-- the byte behind the copied ones
pub written : (m : ℕ) (s : List ℕ) (n v : ℕ) → m ≤ length s → m < n
    → set (take m s ++ replicate (n - m) 0) m v ≡ take m s ++ (v ∷ replicate (n - (m + 1)) 0)
written m s n v h g =
    let e : n - m ≡ suc (n - (m + 1)) = omega arith in
    ap (λ (z : ℕ). set (take m s ++ replicate z 0) m v) e
    ∙ set_at (take m s) 0 (replicate (n - (m + 1)) 0) v m (length-take-le m s h)

module _ (s : List ℕ) (bytes : (i : ℕ) → get_or s i 0 < 256) (m : ℕ) where
  -- whole bytes, and some bits behind them
  packed_parts : (rest n : ℕ) → m ≤ length s
      → bytes_of (m + n) (take (8 * m + rest) (bits_of s)) ≡ take m s ++ bytes_of n (take rest (bits_of (drop m s)))
  packed_parts rest n h =
      ap (bytes_of (m + n)) (take-add (8 * m) rest (bits_of s))
      ∙ bytes_of-append m n (take (8 * m) (bits_of s)) (take rest (drop (8 * m) (bits_of s)))
      (length-take-le (8 * m) (bits_of s) (omega (arith, length-bits_of s)))
      ∙ ap₂ (λ (x : List ℕ) (y : Bits). x ++ bytes_of n (take rest y)) (packed_front m s bytes h) (drop-bits_of m s)

  -- the first bits of the byte behind
  next_bits : (rest : ℕ) → m < length s → rest < 8 → take rest (bits_of (drop m s)) ≡ take rest (binary 8 (get_or s m 0))
  unfolding bits_of
  next_bits rest h r =
      ap (λ (l : List ℕ). take rest (bits_of l)) (drop-cons s m 0 h)
      ∙ take-append-le rest (binary 8 (get_or s m 0)) (bits_of (drop (suc m) s)) (omega (arith, length-binary 8 (get_or s m 0)))

  packed_next : (rest n : ℕ) → m < length s → rest < 8
      → bytes_of (suc n) (take rest (bits_of (drop m s)))
      ≡ number (take 8 (take rest (binary 8 (get_or s m 0)) ++ zeros 8)) ∷ replicate n 0
  unfolding bytes_of
  packed_next rest n h r =
      let x : Bits = take rest (binary 8 (get_or s m 0)) in
      let none : drop 8 x ≡ [] =
      drop_of_length-le x {i = 8} (omega (arith, length-take-le rest (binary 8 (get_or s m 0)) (omega (arith, length-binary 8 (get_or s m 0)))))
      in
      ap (bytes_of (suc n)) (next_bits rest h r)
      ∙ ap (λ (l : List ℕ). number (take 8 (x ++ zeros 8)) ∷ l) (ap (bytes_of n) none ∙ bytes_of_none n)

-- ---- the order from byte start on

module _ (order : List ℕ) (bytes : (i : ℕ) → get_or order i 0 < 256) (bits start : ℕ) (from : 8 * start ≤ bits)
    (lent : bits ≤ 8 * length order) where
  order_row : drop (8 * start) (take bits (bits_of order)) ≡ take (8 * (bits / 8 - start) + bits % 8) (bits_of (drop start order))
  order_row =
      let e : bits - 8 * start ≡ 8 * (bits / 8 - start) + bits % 8 = omega arith in
      drop-take (8 * start) bits (bits_of order) from (omega (arith, length-bits_of order))
      ∙ ap₂ (λ (n : ℕ) (l : Bits). take n l) e (drop-bits_of start order)

  pub order_packed : (n : ℕ)
      → bytes_of (bits / 8 - start + n) (drop (8 * start) (take bits (bits_of order)))
      ≡ take (bits / 8 - start) (drop start order) ++ bytes_of n (take (bits % 8) (bits_of (drop (bits / 8 - start) (drop start order))))
  order_packed n =
      ap (bytes_of (bits / 8 - start + n)) order_row
      ∙ packed_parts (drop start order) (drop_bytes start order bytes) (bits / 8 - start) (bits % 8) n
      (omega (arith, length-drop start order))

  -- no bits, or some bits, behind the last whole byte
  pub packed_whole : (n : ℕ) → bits % 8 ≡ 0
      → take (bits / 8 - start) (drop start order) ++ replicate n 0
      ≡ bytes_of (bits / 8 - start + n) (drop (8 * start) (take bits (bits_of order)))
  packed_whole n z = sym (order_packed n ∙ rw z (ap (λ (l : List ℕ). take (bits / 8 - start) (drop start order) ++ l) (bytes_of_none n)))

  pub packed_rest : (n : ℕ) → 0 < bits % 8
      → take (bits / 8 - start) (drop start order)
      ++ (number (take 8 (take (bits % 8) (binary 8 (get_or order (start + (bits / 8 - start)) 0)) ++ zeros 8)) ∷ replicate n 0)
      ≡ bytes_of (bits / 8 - start + suc n) (drop (8 * start) (take bits (bits_of order)))
  packed_rest n h =
      let w : ℕ = bits / 8 - start in
      sym
      (order_packed (suc n)
      ∙ ap (λ (l : List ℕ). take w (drop start order) ++ l)
      (packed_next (drop start order) (drop_bytes start order bytes) w (bits % 8) n (omega (arith, length-drop start order)) (omega arith)
      ∙ ap (λ (x : ℕ). number (take 8 (take (bits % 8) (binary 8 x) ++ zeros 8)) ∷ replicate n 0) (get_or-drop start order w 0)))
