-- Rows packed into bytes half a byte at a time: what a byte joined of two halves holds, and a row's first bytes. Assumes
-- nothing.
use mathlib.Core.Path.{◌≡◌, refl, sym, ap, ap₂, ◌∙◌}
use mathlib.Core.Bool.{cond}
use mathlib.Core.List.{List, [], ◌∷◌, ◌++◌, append_assoc}
use Prim.Native.Nat.{ℕ, suc, ◌+◌, ◌-◌, ◌*◌, ◌/◌, ◌%◌, ◌^◌, ◌≤◌, ◌<◌}
use native.Mathlib.Nat.{add-suc, le_of_lt}
use native.Mathlib.Numerals.{add-one, add-two}
use native.Mathlib.Omega.{arith}
use lib.Bits.{bit_or, bit_and, or_shifted, and_mask}
use lib.Dec.{eqb}
use lib.ListN.{length, take, drop, get_or, set, length-append, take-append-drop}
use lib.Seq.{take-take, drop_at, take-suc, drop-cons, take-add, length-take-le, sets-eq}
use Rattle.crc.specs.Bits.{Bits, zeros, binary, number, bits_of, bytes_of}
use Rattle.crc.specs.Check.{remainder, passes}
use Rattle.crc.proofs.Rows.{length-binary, number-binary, binary-mod, binary_join, binary_split}
use Rattle.crc.proofs.Bytes.{length-bits_of, bits_of-append, take-bits_of, drop-bits_of, bits_of_last, bits_of-bytes_of, bytes_of-zeros, byte_first, bytes_of_front}
use Rattle.block.specs.Lengths.{block_length, block_bytes}
use Rattle.block.specs.Block.{passed, failed, verdict}
use Rattle.block.specs.Calls.{overwritten}

-- ---- the first bytes of a row

pub halves_first : (m a b : ℕ) (r : Bits) → a < 16 → b < 16 → bytes_of (suc m) (binary 4 a ++ (binary 4 b ++ r)) ≡ (a * 16 + b) ∷ bytes_of m r
halves_first m a b r ha hb =
    ap (bytes_of (suc m)) (sym (append_assoc (binary 4 a) (binary 4 b) r) ∙ ap (λ (l : Bits). l ++ r) (sym (binary_join 4 4 a b hb)))
    ∙ byte_first m (a * 16 + b) r (omega arith)

-- a half and a byte: the first byte of them, and the half that is left
pub half_byte_first : (m c x : ℕ) (r : Bits) → x < 256
    → bytes_of (suc m) (binary 4 c ++ (binary 8 x ++ r)) ≡ (c % 16 * 16 + x / 16) ∷ bytes_of m (binary 4 x ++ r)
half_byte_first m c x r h =
    ap (bytes_of (suc m))
    (ap₂ (λ (l t : Bits). l ++ t) (sym (binary-mod 4 c))
    (ap (λ (l : Bits). l ++ r) (binary_split 4 4 x) ∙ append_assoc (binary 4 (x / 16)) (binary 4 x) r))
    ∙ halves_first m (c % 16) (x / 16) (binary 4 x ++ r) (omega arith) (omega arith)

-- as the code joins them
pub joined : (c h : ℕ) → h < 16 → bit_or ((c * 2 ^ 4) % 2 ^ 8) h ≡ c % 16 * 16 + h
joined c h b =
    let e : (c * 2 ^ 4) % 2 ^ 8 ≡ c % 16 * 2 ^ 4 = omega arith in
    rw e (or_shifted (c % 16) 4 h b)

-- ---- a row's first bytes and the others

pub bytes_of-take : (m : ℕ) (bs : Bits) → 8 * m ≤ length bs → bytes_of m (take (8 * m) bs) ≡ bytes_of m bs
bytes_of-take m bs h =
    sym (bytes_of_front m (take (8 * m) bs) (drop (8 * m) bs) (omega (arith, length-take-le (8 * m) bs h)))
    ∙ ap (bytes_of m) (take-append-drop (8 * m) bs)

-- a row of n bits over the first bytes of a slice: behind it stand four zero bits and the other bytes
pub bits_overwritten : (k : ℕ) (row : Bits) (slice : List ℕ) → k % 8 ≡ 0 → length row ≡ block_length k
    → bits_of (overwritten (block_bytes k) row slice) ≡ row ++ (zeros 4 ++ bits_of (drop (block_bytes k) slice))
bits_overwritten k row slice whole n =
    let e : 8 * block_bytes k - length row ≡ 4 = omega arith in
    let behind : List ℕ = drop (block_bytes k) slice in
    bits_of-append (bytes_of (block_bytes k) row) behind
    ∙ ap (λ (l : Bits). l ++ bits_of behind)
    (bits_of-bytes_of (block_bytes k) row (omega arith) ∙ ap (λ (j : ℕ). row ++ zeros j) e)
    ∙ append_assoc row (zeros 4) (bits_of behind)

-- ---- bytes shifted by half a byte

-- one byte more
pub shifted_first : (m c : ℕ) (p : List ℕ) (i : ℕ) → i < length p → get_or p i 0 < 256
    → bytes_of (suc m) (binary 4 c ++ bits_of (drop i p))
    ≡ bit_or ((c * 2 ^ 4) % 2 ^ 8) (get_or p i 0 / 2 ^ 4) ∷ bytes_of m (binary 4 (get_or p i 0) ++ bits_of (drop (suc i) p))
unfolding bits_of
shifted_first m c p i h b =
    ap (λ (l : List ℕ). bytes_of (suc m) (binary 4 c ++ bits_of l)) (drop-cons p i 0 h)
    ∙ half_byte_first m c (get_or p i 0) (bits_of (drop (suc i) p)) b
    ∙ ap (λ (x : ℕ). x ∷ bytes_of m (binary 4 (get_or p i 0) ++ bits_of (drop (suc i) p))) (sym (joined c (get_or p i 0 / 16) (omega arith)))

-- where the bytes start
pub drop_half_first : (p : List ℕ) → 0 < length p → drop 4 (bits_of p) ≡ binary 4 (get_or p 0 0) ++ bits_of (drop 1 p)
unfolding bits_of binary
drop_half_first [] h = absurd (omega arith)
drop_half_first (x ∷ p) h = refl

-- and where they end: the half that has no byte yet
pub shifted_rest : (c j : ℕ) (p : List ℕ) → j < length p → drop (8 * suc j) (binary 4 c ++ bits_of (take (suc j) p)) ≡ binary 4 (get_or p j 0)
shifted_rest c j p h =
    let x : ℕ = get_or p j 0 in
    let front : Bits = binary 4 c ++ (bits_of (take j p) ++ binary 4 (x / 16)) in
    let e : bits_of (take (suc j) p) ≡ (bits_of (take j p) ++ binary 4 (x / 16)) ++ binary 4 x =
    ap bits_of (take-suc p j 0 h) ∙ bits_of_last (take j p) x ∙ ap (λ (l : Bits). bits_of (take j p) ++ l) (binary_split 4 4 x)
    ∙ sym (append_assoc (bits_of (take j p)) (binary 4 (x / 16)) (binary 4 x)) in
    let n : length front ≡ 8 * suc j =
    length-append (binary 4 c) (bits_of (take j p) ++ binary 4 (x / 16))
    ∙ ap₂ (λ (u v : ℕ). u + v) (length-binary 4 c)
    (length-append (bits_of (take j p)) (binary 4 (x / 16))
    ∙ ap₂ (λ (u v : ℕ). u + v) (length-bits_of (take j p) ∙ ap (λ (u : ℕ). 8 * u) (length-take-le j p (le_of_lt h))) (length-binary 4 (x / 16)))
    ∙ omega arith in
    ap (λ (l : Bits). drop (8 * suc j) (binary 4 c ++ l)) e
    ∙ ap (drop (8 * suc j)) (sym (append_assoc (binary 4 c) (bits_of (take j p) ++ binary 4 (x / 16)) (binary 4 x)))
    ∙ drop_at front (binary 4 x) (8 * suc j) n

-- ---- a packed block taken apart

head_parts : (x y z : ℕ) (r : List ℕ) → take 20 (bits_of (x ∷ y ∷ z ∷ r)) ≡ binary 4 (x / 16) ++ (binary 4 x ++ (binary 8 y ++ binary 4 (z / 16)))
unfolding binary bits_of
head_parts x y z r =
    ap₂ (λ (a c : Bits). take 20 (a ++ (binary 8 y ++ (c ++ bits_of r)))) (binary_split 4 4 x) (binary_split 4 4 z)

-- a slice from a place on: three bytes, and the others
pub drop_three : (m : ℕ) (s : List ℕ) → m + 3 ≤ length s
    → drop m s ≡ get_or s m 0 ∷ get_or s (m + 1) 0 ∷ get_or s (m + 2) 0 ∷ drop (m + 3) s
drop_three m s h =
    let x : ℕ = get_or s m 0 in
    let y : ℕ = get_or s (m + 1) 0 in
    let z : ℕ = get_or s (m + 2) 0 in
    let b : m + 1 < length s = omega arith in
    let c : m + 2 < length s = omega arith in
    drop-cons s m 0 (omega arith)
    ∙ ap (λ (l : List ℕ). x ∷ l) (ap (λ (n : ℕ). drop n s) (sym (add-one m)) ∙ drop-cons s (m + 1) 0 b)
    ∙ ap (λ (l : List ℕ). x ∷ y ∷ l) (ap (λ (n : ℕ). drop n s) (sym (add-suc m 1)) ∙ drop-cons s (m + 2) 0 c)
    ∙ ap (λ (n : ℕ). x ∷ y ∷ z ∷ drop n s) (sym (add-suc m 2))

-- its service bits and data, and its check bits
pub block_parts : (m : ℕ) (s : List ℕ) → m + 3 ≤ length s
    → take (8 * m + 20) (bits_of s)
    ≡ (bits_of (take m s) ++ binary 4 (get_or s m 0 / 16)) ++ (binary 4 (get_or s m 0) ++ (binary 8 (get_or s (m + 1) 0) ++ binary 4 (get_or s (m + 2) 0 / 16)))
block_parts m s h =
    let x : ℕ = get_or s m 0 in
    let y : ℕ = get_or s (m + 1) 0 in
    let z : ℕ = get_or s (m + 2) 0 in
    take-add (8 * m) 20 (bits_of s)
    ∙ ap₂ (λ (l t : Bits). l ++ take 20 t) (take-bits_of m s) (drop-bits_of m s ∙ ap bits_of (drop_three m s h))
    ∙ ap (λ (l : Bits). bits_of (take m s) ++ l) (head_parts x y z (drop (m + 3) s))
    ∙ sym (append_assoc (bits_of (take m s)) (binary 4 (x / 16)) (binary 4 x ++ (binary 8 y ++ binary 4 (z / 16))))

pub service_first : (s : List ℕ) → 0 < length s → take 4 (bits_of s) ≡ binary 4 (get_or s 0 0 / 16)
unfolding binary bits_of
service_first [] h = absurd (omega arith)
service_first (x ∷ s) h = ap (λ (l : Bits). take 4 (l ++ bits_of s)) (binary_split 4 4 x)

-- the service bits of a row's first n bits, as a number
pub service_number : (n : ℕ) (s : List ℕ) → 4 ≤ n → 0 < length s → get_or s 0 0 < 256
    → number (take 4 (take n (bits_of s))) ≡ get_or s 0 0 / 16
service_number n s h l b =
    ap number (take-take 4 n (bits_of s) h ∙ service_first s l) ∙ number-binary 4 (get_or s 0 0 / 16) (omega arith)

-- the row judged by its remainder
pub row_judged : (n : ℕ) (s : List ℕ) (r : ℕ) → 4 ≤ n → 0 < length s → get_or s 0 0 < 256 → r ≡ remainder (take n (bits_of s))
    → cond (eqb r 0) (passed (get_or s 0 0 / 16)) (failed r) ≡ verdict (take n (bits_of s))
unfolding verdict passes
row_judged n s r h l b e = rw (e, service_number n s h l b)

-- ---- the last three bytes of a block: four data bits, the check, four spare bits

last_half : (c : ℕ) → bytes_of 1 (binary 4 c) ≡ (c % 16 * 16) ∷ []
unfolding binary bytes_of
last_half c =
    sym (bytes_of-zeros 1 (binary 4 c) 4)
    ∙ ap (λ (l : Bits). bytes_of 1 (l ++ zeros 4)) (sym (binary-mod 4 c))
    ∙ halves_first 0 (c % 16) 0 [] (omega arith) (omega arith)
    ∙ ap (λ (x : ℕ). x ∷ []) (omega arith)

pub check_bytes : (x c : ℕ) → c < 2 ^ 16
    → bytes_of 3 (binary 4 x ++ binary 16 c)
    ≡ bit_or ((x * 2 ^ 4) % 2 ^ 8) (c / 2 ^ 12) ∷ bit_and (c / 2 ^ 4) 255 ∷ (bit_and c 15 * 2 ^ 4) % 2 ^ 8 ∷ []
check_bytes x c h =
    let e : (bit_and c 15 * 2 ^ 4) % 2 ^ 8 ≡ c % 16 * 16 = rw (and_mask c 4) (omega arith) in
    let g : c / 4096 < 16 = omega arith in
    ap (bytes_of 3) (ap₂ (λ (l t : Bits). l ++ t) (sym (binary-mod 4 x)) (binary_split 4 12 c))
    ∙ halves_first 2 (x % 16) (c / 4096) (binary 12 c) (omega arith) (omega arith)
    ∙ ap (λ (l : List ℕ). (x % 16 * 16 + c / 4096) ∷ l)
    (ap (bytes_of 2) (binary_split 8 4 c ∙ ap (λ (l : Bits). l ++ binary 4 c) (sym (binary-mod 8 (c / 16))))
    ∙ byte_first 1 (c / 16 % 256) (binary 4 c) (omega arith)
    ∙ ap (λ (l : List ℕ). (c / 16 % 256) ∷ l) (last_half c))
    ∙ rw (joined x (c / 4096), and_mask (c / 16) 8, e)

-- three stores in a row
pub three_stores : (l : List ℕ) (m a b c : ℕ) → m + 3 ≤ length l
    → set (set (set l m a) (m + 1) b) (m + 2) c ≡ take m l ++ ((a ∷ b ∷ c ∷ []) ++ drop (m + 3) l)
three_stores l m a b c h =
    rw (add-one, add-two) (sets-eq (a ∷ b ∷ c ∷ []) l m h ∙ append_assoc (take m l) (a ∷ b ∷ c ∷ []) (drop (m + 3) l))
