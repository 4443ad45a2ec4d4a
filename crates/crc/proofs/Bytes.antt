-- Bytes as rows of bits, and rows packed into bytes. Assumes nothing.
use mathlib.Core.Path.{◌≡◌, refl, sym, ap, ap₂, ◌∙◌, subst}
use mathlib.Core.Bool.{false}
use mathlib.Core.List.{List, [], ◌∷◌, ◌++◌, append_assoc, append-nil}
use Prim.Native.Nat.{ℕ, zero, suc, ◌+◌, ◌-◌, ◌*◌, ◌^◌, ◌≤◌, ◌<◌}
use native.Mathlib.Nat.{zero-add, suc-add, add_comm, sub-zero, zero-sub, suc-sub-suc}
use native.Mathlib.Omega.{arith}
use lib.Dec.{lit<}
use lib.ListN.{length, take, drop, get_or, set, length-append, length-drop, length-replicate, replicate-append-replicate, take-append-drop}
use lib.Seq.{take-nil, drop-nil, take-append-add, drop-append-add, take-append-le, drop-append-le, drop-drop, take_at, drop_at, length-take-le, get_or-drop}
use Rattle.crc.specs.Bits.{Bits, zeros, binary, number, bits_of, bytes_of}
use Rattle.crc.proofs.Rows.{length-binary, number-binary, binary-number, number_lt}

-- ---- bytes to bits

pub length-bits_of : (s : List ℕ) → length (bits_of s) ≡ 8 * length s
unfolding bits_of
length-bits_of [] = refl
length-bits_of (x ∷ s) = length-append (binary 8 x) (bits_of s) ∙ ap₂ ◌+◌ (length-binary 8 x) (length-bits_of s) ∙ omega arith

pub bits_of-append : (s t : List ℕ) → bits_of (s ++ t) ≡ bits_of s ++ bits_of t
unfolding bits_of
bits_of-append [] t = refl
bits_of-append (x ∷ s) t = ap (λ (l : Bits). binary 8 x ++ l) (bits_of-append s t) ∙ sym (append_assoc (binary 8 x) (bits_of s) (bits_of t))

eight_more : (i x : ℕ) → 8 * suc i ≡ length (binary 8 x) + 8 * i
eight_more i x = omega (arith, length-binary 8 x)

pub take-bits_of : (i : ℕ) (s : List ℕ) → take (8 * i) (bits_of s) ≡ bits_of (take i s)
unfolding bits_of
take-bits_of zero s = refl
take-bits_of (suc i) [] = take-nil (8 * suc i)
take-bits_of (suc i) (x ∷ s) =
    ap (λ (n : ℕ). take n (binary 8 x ++ bits_of s)) (eight_more i x) ∙ take-append-add (binary 8 x) (bits_of s) (8 * i)
    ∙ ap (λ (l : Bits). binary 8 x ++ l) (take-bits_of i s)

pub drop-bits_of : (i : ℕ) (s : List ℕ) → drop (8 * i) (bits_of s) ≡ bits_of (drop i s)
unfolding bits_of
drop-bits_of zero s = refl
drop-bits_of (suc i) [] = drop-nil (8 * suc i)
drop-bits_of (suc i) (x ∷ s) =
    ap (λ (n : ℕ). drop n (binary 8 x ++ bits_of s)) (eight_more i x) ∙ drop-append-add (binary 8 x) (bits_of s) (8 * i) ∙ drop-bits_of i s

-- one byte behind the others
pub bits_of_last : (s : List ℕ) (x : ℕ) → bits_of (s ++ x ∷ []) ≡ bits_of s ++ binary 8 x
unfolding bits_of
bits_of_last s x = bits_of-append s (x ∷ []) ∙ ap (λ (l : Bits). bits_of s ++ l) (append-nil (binary 8 x))

-- ---- lists of bytes

-- a part of bytes is bytes
pub take_bytes : (n : ℕ) (s : List ℕ) → ((i : ℕ) → get_or s i 0 < 256) → (i : ℕ) → get_or (take n s) i 0 < 256
take_bytes zero s h i = lit< tt
take_bytes (suc n) [] h i = h i
take_bytes (suc n) (x ∷ s) h zero = h 0
take_bytes (suc n) (x ∷ s) h (suc i) = take_bytes n s (λ j. h (suc j)) i

pub drop_bytes : (n : ℕ) (s : List ℕ) → ((i : ℕ) → get_or s i 0 < 256) → (i : ℕ) → get_or (drop n s) i 0 < 256
drop_bytes n s h i = rw (get_or-drop n s i 0) (h (n + i))

-- a byte set among bytes
pub set_bytes : (s : List ℕ) (j x : ℕ) → x < 256 → ((i : ℕ) → get_or s i 0 < 256) → (i : ℕ) → get_or (set s j x) i 0 < 256
set_bytes [] j x l h i = h i
set_bytes (y ∷ s) zero x l h zero = l
set_bytes (y ∷ s) zero x l h (suc i) = h (suc i)
set_bytes (y ∷ s) (suc j) x l h zero = h 0
set_bytes (y ∷ s) (suc j) x l h (suc i) = set_bytes s j x l (λ n. h (suc n)) i

-- ---- rows with zeros behind them

drop-zeros : (j n : ℕ) → drop j (zeros n) ≡ zeros (n - j)
drop-zeros zero n = ap zeros (sym (sub-zero n))
drop-zeros (suc j) zero = ap zeros (sym (zero-sub (suc j)))
drop-zeros (suc j) (suc n) = drop-zeros j n ∙ ap zeros (sym (suc-sub-suc n j))

drop_behind : (j : ℕ) (bs : Bits) (n : ℕ) → drop j (bs ++ zeros n) ≡ drop j bs ++ zeros (n - (j - length bs))
drop_behind zero bs n = let e : n ≡ n - (0 - length bs) = omega arith in ap (λ (k : ℕ). bs ++ zeros k) e
drop_behind (suc j) [] n = drop-zeros (suc j) n ∙ ap (λ (k : ℕ). zeros (n - k)) (sym (sub-zero (suc j)))
drop_behind (suc j) (b ∷ bs) n =
    drop_behind j bs n ∙ ap (λ (k : ℕ). drop j bs ++ zeros (n - k)) (sym (suc-sub-suc j (length bs)))

-- a row filled up with zeros holds at least eight bits
filled : (bs : Bits) → 8 ≤ length (bs ++ zeros 8)
filled bs = omega (arith, length-append bs (zeros 8), length-replicate 8 false)

take_behind : (bs : Bits) (n : ℕ) → take 8 ((bs ++ zeros n) ++ zeros 8) ≡ take 8 (bs ++ zeros 8)
take_behind bs n =
    ap (take 8)
    (append_assoc bs (zeros n) (zeros 8)
    ∙ ap (λ (l : Bits). bs ++ l) (replicate-append-replicate n 8 false ∙ ap zeros (add_comm n 8) ∙ sym (replicate-append-replicate 8 n false))
    ∙ sym (append_assoc bs (zeros 8) (zeros n)))
    ∙ take-append-le 8 (bs ++ zeros 8) (zeros n) (filled bs)

-- ---- rows packed into bytes

pub length-bytes_of : (m : ℕ) (bs : Bits) → length (bytes_of m bs) ≡ m
unfolding bytes_of
length-bytes_of zero bs = refl
length-bytes_of (suc m) bs = ap suc (length-bytes_of m (drop 8 bs))

first_eight : (bs : Bits) → length (take 8 (bs ++ zeros 8)) ≡ 8
first_eight bs = length-take-le 8 (bs ++ zeros 8) (filled bs)

pub bytes_of_lt : (m : ℕ) (bs : Bits) (i : ℕ) → get_or (bytes_of m bs) i 0 < 256
unfolding bytes_of
bytes_of_lt zero bs i = lit< tt
bytes_of_lt (suc m) bs zero =
    subst (λ (n : ℕ). number (take 8 (bs ++ zeros 8)) < 2 ^ n) (first_eight bs) (number_lt (take 8 (bs ++ zeros 8)))
bytes_of_lt (suc m) bs (suc i) = bytes_of_lt m (drop 8 bs) i

pub bytes_of-zeros : (m : ℕ) (bs : Bits) (n : ℕ) → bytes_of m (bs ++ zeros n) ≡ bytes_of m bs
unfolding bytes_of
bytes_of-zeros zero bs n = refl
bytes_of-zeros (suc m) bs n =
    ap₂ (λ (l : Bits) (r : List ℕ). number l ∷ r) (take_behind bs n)
    (ap (bytes_of m) (drop_behind 8 bs n) ∙ bytes_of-zeros m (drop 8 bs) (n - (8 - length bs)))

-- a row of whole bytes
pub bits_of-bytes_of_exact : (m : ℕ) (bs : Bits) → length bs ≡ 8 * m → bits_of (bytes_of m bs) ≡ bs
unfolding bits_of bytes_of
bits_of-bytes_of_exact zero [] h = refl
bits_of-bytes_of_exact zero (b ∷ bs) h = absurd (omega arith)
bits_of-bytes_of_exact (suc m) bs h =
    let t : Bits = take 8 (bs ++ zeros 8) in
    let k : 8 ≤ length bs = omega arith in
    let r : length (drop 8 bs) ≡ 8 * m = omega (arith, length-drop 8 bs) in
    ap₂ (λ (x y : Bits). x ++ y)
    (ap (λ (n : ℕ). binary n (number t)) (sym (first_eight bs)) ∙ binary-number t ∙ take-append-le 8 bs (zeros 8) k)
    (bits_of-bytes_of_exact m (drop 8 bs) r)
    ∙ take-append-drop 8 bs

pub bits_of-bytes_of : (m : ℕ) (bs : Bits) → length bs ≤ 8 * m → bits_of (bytes_of m bs) ≡ bs ++ zeros (8 * m - length bs)
bits_of-bytes_of m bs h =
    let n : ℕ = 8 * m - length bs in
    let e : length (bs ++ zeros n) ≡ 8 * m = omega (arith, length-append bs (zeros n), length-replicate n false) in
    ap bits_of (sym (bytes_of-zeros m bs n)) ∙ bits_of-bytes_of_exact m (bs ++ zeros n) e

pub byte_first : (m x : ℕ) (r : Bits) → x < 256 → bytes_of (suc m) (binary 8 x ++ r) ≡ x ∷ bytes_of m r
unfolding bytes_of
byte_first m x r h =
    ap₂ (λ (y : ℕ) (l : Bits). y ∷ bytes_of m l)
    (ap (λ (l : Bits). number (take 8 l)) (append_assoc (binary 8 x) r (zeros 8))
    ∙ ap number (take_at (binary 8 x) (r ++ zeros 8) 8 (length-binary 8 x)) ∙ number-binary 8 x h)
    (drop_at (binary 8 x) r 8 (length-binary 8 x))

pub bytes_of-bits_of : (s : List ℕ) → ((i : ℕ) → get_or s i 0 < 256) → bytes_of (length s) (bits_of s) ≡ s
unfolding bits_of bytes_of
bytes_of-bits_of [] h = refl
bytes_of-bits_of (x ∷ s) h = byte_first (length s) x (bits_of s) (h 0) ∙ ap (λ (l : List ℕ). x ∷ l) (bytes_of-bits_of s (λ i. h (suc i)))

-- bytes are packed as their bits
pub packed : (s : List ℕ) (m : ℕ) (bs : Bits) → length s ≡ m → ((i : ℕ) → get_or s i 0 < 256) → bits_of s ≡ bs → s ≡ bytes_of m bs
packed s m bs n h e = sym (bytes_of-bits_of s h) ∙ ap₂ bytes_of n e

pub packed_front : (m : ℕ) (s : List ℕ) → ((i : ℕ) → get_or s i 0 < 256) → m ≤ length s → bytes_of m (take (8 * m) (bits_of s)) ≡ take m s
packed_front m s h n = sym (packed (take m s) m (take (8 * m) (bits_of s)) (length-take-le m s n) (take_bytes m s h) (sym (take-bits_of m s)))

pub bytes_of-add : (i n : ℕ) (bs : Bits) → bytes_of (i + n) bs ≡ bytes_of i bs ++ bytes_of n (drop (8 * i) bs)
unfolding bytes_of
bytes_of-add zero n bs = ap (λ (x : ℕ). bytes_of x bs) (zero-add n)
bytes_of-add (suc i) n bs =
    let e : 8 + 8 * i ≡ 8 * suc i = omega arith in
    ap (λ (x : ℕ). bytes_of x bs) (suc-add i n)
    ∙ ap (λ (l : List ℕ). number (take 8 (bs ++ zeros 8)) ∷ l)
    (bytes_of-add i n (drop 8 bs)
    ∙ ap (λ (l : Bits). bytes_of i (drop 8 bs) ++ bytes_of n l) (drop-drop (8 * i) 8 bs ∙ ap (λ (x : ℕ). drop x bs) e))

-- what stands behind the first bytes does not matter
pub bytes_of_front : (m : ℕ) (x y : Bits) → 8 * m ≤ length x → bytes_of m (x ++ y) ≡ bytes_of m x
unfolding bytes_of
bytes_of_front zero x y h = refl
bytes_of_front (suc m) x y h =
    let k : 8 ≤ length x = omega arith in
    let r : 8 * m ≤ length (drop 8 x) = omega (arith, length-drop 8 x) in
    ap₂ (λ (l : Bits) (t : List ℕ). number l ∷ t)
    (ap (take 8) (append_assoc x y (zeros 8)) ∙ take-append-le 8 x (y ++ zeros 8) k ∙ sym (take-append-le 8 x (zeros 8) k))
    (ap (bytes_of m) (drop-append-le 8 x y k) ∙ bytes_of_front m (drop 8 x) y r)

pub bytes_of-append : (i m : ℕ) (x y : Bits) → length x ≡ 8 * i → bytes_of (i + m) (x ++ y) ≡ bytes_of i x ++ bytes_of m y
bytes_of-append i m x y h =
    bytes_of-add i m (x ++ y)
    ∙ ap₂ (λ (l : List ℕ) (t : Bits). l ++ bytes_of m t) (bytes_of_front i x y (omega arith)) (drop_at x y (8 * i) h)
