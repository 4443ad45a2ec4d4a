-- A pattern laid over 16 bits of a slice: what the three bytes hold that it reaches into, and the row that they make. Assumes
-- nothing.
use Rattle.std.proofs.Common.{◌≡◌, ℕ, zero, suc, ◌+◌, ◌-◌, ◌*◌, ◌/◌, ◌%◌, ◌^◌, ◌<◌, ◌≤◌, false, List, [], ◌∷◌, ◌++◌, length, get_or, set, take, drop, replicate, sym, refl, ap, ◌∙◌, ap₂, append_assoc, append-nil, add-zero, arith, length-append, length-drop, take-append-drop, length-take-le, pow_pos}
use Rattle.std.proofs.lemmas.List.{take_more}
use Rattle.std.specs.Int.{w32, to_be_bytes}
use lib.Bits.{bit_xor, xor_comm}
use lib.ListN.{length-replicate, replicate-append-replicate}
use Rattle.crc.specs.Bits.{Bits, zeros, binary, xor_bits, bits_of}
use Rattle.crc.proofs.Rows.{length-binary, binary-zero, binary-mod, binary_join, binary_split, binary-xor, xor_bits-append, xor_bits-zeros}
use Rattle.crc.proofs.Bytes.{length-bits_of, bits_of-append}

-- ---- the pattern in three bytes

-- 16 bits with s zero bits in front and j behind, as a number
span_row : (s j p : ℕ) → s + j ≡ 8 → p < 2 ^ 16 → binary 24 (p * 2 ^ j) ≡ zeros s ++ (binary 16 p ++ zeros j)
span_row s j p e h =
    let w : 24 ≡ (s + 16) + j = omega arith in
    let z : p / 2 ^ 16 ≡ 0 = omega arith in
    ap (λ (x : ℕ). binary x (p * 2 ^ j)) w ∙ ap (binary ((s + 16) + j)) (sym (add-zero (p * 2 ^ j)))
    ∙ binary_join (s + 16) j p 0 (pow_pos j)
    ∙ ap₂ (λ (l t : Bits). l ++ t) (binary_split s 16 p ∙ ap (λ (l : Bits). l ++ binary 16 p) (ap (binary s) z ∙ binary-zero s)) (binary-zero j)
    ∙ append_assoc (zeros s) (binary 16 p) (zeros j)

-- the number's three lowest bytes
three_bytes : (x : ℕ) → bits_of (drop 1 (to_be_bytes w32 x)) ≡ binary 24 x
unfolding bits_of
three_bytes x =
    ap (λ (l : Bits). binary 8 (x / 65536 % 256) ++ (binary 8 (x / 256 % 256) ++ l)) (append-nil (binary 8 (x % 256)))
    ∙ ap₂ (λ (l t : Bits). l ++ t) (binary-mod 8 (x / 65536)) (ap₂ (λ (l t : Bits). l ++ t) (binary-mod 8 (x / 256)) (binary-mod 8 x))
    ∙ ap (λ (l : Bits). binary 8 (x / 65536) ++ l) (sym (binary_split 8 8 x)) ∙ sym (binary_split 8 16 x)

-- ---- a slice's bytes, each xor its mask

pub xored : List ℕ → List ℕ → List ℕ
xored [] s = s
xored (m ∷ masks) [] = []
xored (m ∷ masks) (b ∷ s) = bit_xor b m ∷ xored masks s

-- masks from a place on
abbrev pub masked : ℕ → List ℕ → List ℕ → List ℕ
masked at masks s = xored (replicate at 0 ++ masks) s

-- zeros change nothing
pub masked-none : (at : ℕ) (s : List ℕ) → s ≡ masked at [] s
unfolding xored
masked-none zero s = refl
masked-none (suc at) [] = refl
masked-none (suc at) (b ∷ s) = ap₂ (λ (x : ℕ) (l : List ℕ). x ∷ l) (xor_comm 0 b) (masked-none at s)

-- one mask more
xored-last : (masks : List ℕ) (m : ℕ) (s : List ℕ)
    → xored (masks ++ m ∷ []) s ≡ set (xored masks s) (length masks) (bit_xor (get_or (xored masks s) (length masks) 0) m)
unfolding xored
xored-last [] m [] = refl
xored-last [] m (b ∷ s) = refl
xored-last (x ∷ masks) m [] = refl
xored-last (x ∷ masks) m (b ∷ s) = ap (λ (l : List ℕ). bit_xor b x ∷ l) (xored-last masks m s)

pub masked-more : (at i : ℕ) (masks s : List ℕ) → i < length masks
    → set (masked at (take i masks) s) (at + i) (bit_xor (get_or (masked at (take i masks) s) (at + i) 0) (get_or masks i 0))
    ≡ masked at (take (i + 1) masks) s
masked-more at i masks s h =
    let l : List ℕ = replicate at 0 ++ take i masks in
    let m : ℕ = get_or masks i 0 in
    let e : length l ≡ at + i = length-append (replicate at 0) (take i masks) ∙ ap₂ (λ (x y : ℕ). x + y) (length-replicate at 0) (length-take-le i masks (omega arith)) in
    ap (λ (n : ℕ). set (xored l s) n (bit_xor (get_or (xored l s) n 0) m)) (sym e) ∙ sym (xored-last l m s)
    ∙ ap (λ (t : List ℕ). xored t s)
    (append_assoc (replicate at 0) (take i masks) (m ∷ []) ∙ ap (λ (t : List ℕ). replicate at 0 ++ t) (sym (take_more masks i 0 h)))

-- the row of the slice with its masks
xored-row : (masks s : List ℕ) → length masks ≤ length s
    → bits_of (xored masks s) ≡ xor_bits (bits_of s) (bits_of masks ++ zeros (8 * (length s - length masks)))
unfolding bits_of xored
xored-row [] s h =
    let e : 8 * length s ≡ 8 * (length s - 0) = omega arith in
    sym (xor_bits-zeros (bits_of s)) ∙ ap (λ (n : ℕ). xor_bits (bits_of s) (zeros n)) (length-bits_of s ∙ e)
xored-row (m ∷ masks) [] h = absurd (omega arith)
xored-row (m ∷ masks) (b ∷ s) h =
    let e : length s - length masks ≡ length (b ∷ s) - length (m ∷ masks) = omega arith in
    ap₂ (λ (l t : Bits). l ++ t) (binary-xor 8 b m) (xored-row masks s (omega arith))
    ∙ sym (xor_bits-append (binary 8 b) (binary 8 m) (bits_of s) (bits_of masks ++ zeros (8 * (length s - length masks))) (length-binary 8 b ∙ sym (length-binary 8 m)))
    ∙ ap (xor_bits (binary 8 b ++ bits_of s))
    (sym (append_assoc (binary 8 m) (bits_of masks) (zeros (8 * (length s - length masks)))) ∙ ap (λ (n : ℕ). (binary 8 m ++ bits_of masks) ++ zeros (8 * n)) e)

zero-bytes : (n : ℕ) → bits_of (replicate n 0) ≡ zeros (8 * n)
unfolding bits_of
zero-bytes zero = refl
zero-bytes (suc n) =
    let e : 8 + 8 * n ≡ 8 * suc n = omega arith in
    ap₂ (λ (l t : Bits). l ++ t) (binary-zero 8) (zero-bytes n) ∙ replicate-append-replicate 8 (8 * n) false ∙ ap zeros e

masked-row : (at : ℕ) (masks s : List ℕ) → at + length masks ≤ length s
    → bits_of (masked at masks s) ≡ xor_bits (bits_of s) (zeros (8 * at) ++ (bits_of masks ++ zeros (8 * (length s - (at + length masks)))))
masked-row at masks s h =
    let n : length (replicate at 0 ++ masks) ≡ at + length masks = length-append (replicate at 0) masks ∙ ap (λ (x : ℕ). x + length masks) (length-replicate at 0) in
    xored-row (replicate at 0 ++ masks) s (omega (arith, n))
    ∙ ap (xor_bits (bits_of s))
    (ap₂ (λ (l : Bits) (x : ℕ). l ++ zeros (8 * (length s - x))) (bits_of-append (replicate at 0) masks ∙ ap (λ (l : Bits). l ++ bits_of masks) (zero-bytes at)) n
    ∙ append_assoc (zeros (8 * at)) (bits_of masks) (zeros (8 * (length s - (at + length masks)))))

-- ---- the zero bits around a pattern

zeros-add : (a b : ℕ) → zeros (a + b) ≡ zeros a ++ zeros b
zeros-add a b = sym (replicate-append-replicate a b false)

-- around three bytes and within them
around : (at s j rest : ℕ) (row : Bits)
    → zeros (8 * at) ++ ((zeros s ++ (row ++ zeros j)) ++ zeros rest) ≡ zeros (8 * at + s) ++ (row ++ zeros (j + rest))
around at s j rest row =
    ap (λ (l : Bits). zeros (8 * at) ++ l)
    (append_assoc (zeros s) (row ++ zeros j) (zeros rest)
    ∙ ap (λ (l : Bits). zeros s ++ l) (append_assoc row (zeros j) (zeros rest) ∙ ap (λ (l : Bits). row ++ l) (sym (zeros-add j rest))))
    ∙ sym (append_assoc (zeros (8 * at)) (zeros s) (row ++ zeros (j + rest)))
    ∙ ap (λ (l : Bits). l ++ (row ++ zeros (j + rest))) (sym (zeros-add (8 * at) s))

-- ---- a pattern laid over a slice, as the code does it

pub laid_row : (place p x : ℕ) (s : List ℕ) → place / 8 + 3 ≤ length s → p < 2 ^ 16 → x ≡ p * 2 ^ (8 - place % 8)
    → bits_of (masked (place / 8) (drop 1 (to_be_bytes w32 x)) s)
    ≡ xor_bits (bits_of s) (zeros place ++ (binary 16 p ++ zeros (8 * length s - (place + 16))))
laid_row place p x s h b d =
    let at : ℕ = place / 8 in
    let e : place % 8 + (8 - place % 8) ≡ 8 = omega arith in
    let f : 8 * at + place % 8 ≡ place = omega arith in
    let g : (8 - place % 8) + 8 * (length s - (at + 3)) ≡ 8 * length s - (place + 16) = omega arith in
    masked-row at (drop 1 (to_be_bytes w32 x)) s h
    ∙ ap (λ (l : Bits). xor_bits (bits_of s) (zeros (8 * at) ++ (l ++ zeros (8 * (length s - (at + 3))))))
    (three_bytes x ∙ ap (binary 24) d ∙ span_row (place % 8) (8 - place % 8) p e b)
    ∙ ap (xor_bits (bits_of s))
    (around at (place % 8) (8 - place % 8) (8 * (length s - (at + 3))) (binary 16 p)
    ∙ ap₂ (λ (m n : ℕ). zeros m ++ (binary 16 p ++ zeros n)) f g)

-- ---- the n bits of a block, and the bits behind them

pub length_pattern : (place p j : ℕ) → length (zeros place ++ (binary 16 p ++ zeros j)) ≡ place + (16 + j)
length_pattern place p j =
    length-append (zeros place) (binary 16 p ++ zeros j)
    ∙ ap₂ (λ (x y : ℕ). x + y) (length-replicate place false)
    (length-append (binary 16 p) (zeros j) ∙ ap₂ (λ (x y : ℕ). x + y) (length-binary 16 p) (length-replicate j false))

pub laid-block : (n place p : ℕ) (s : List ℕ) → place + 16 ≤ n → n ≤ 8 * length s
    → xor_bits (bits_of s) (zeros place ++ (binary 16 p ++ zeros (8 * length s - (place + 16))))
    ≡ xor_bits (take n (bits_of s)) (zeros place ++ (binary 16 p ++ zeros (n - (place + 16)))) ++ drop n (bits_of s)
laid-block n place p s h k =
    let row : Bits = zeros place ++ (binary 16 p ++ zeros (n - (place + 16))) in
    let e : 8 * length s - (place + 16) ≡ (n - (place + 16)) + (8 * length s - n) = omega arith in
    let m : length (take n (bits_of s)) ≡ n = length-take-le n (bits_of s) (omega (arith, length-bits_of s)) in
    let q : length (drop n (bits_of s)) ≡ 8 * length s - n = length-drop n (bits_of s) ∙ ap (λ (x : ℕ). x - n) (length-bits_of s) in
    let r : length row ≡ n = length_pattern place p (n - (place + 16)) ∙ omega arith in
    ap₂ xor_bits (sym (take-append-drop n (bits_of s)))
    (ap (λ (x : ℕ). zeros place ++ (binary 16 p ++ zeros x)) e
    ∙ ap (λ (l : Bits). zeros place ++ l)
    (ap (λ (l : Bits). binary 16 p ++ l) (zeros-add (n - (place + 16)) (8 * length s - n))
    ∙ sym (append_assoc (binary 16 p) (zeros (n - (place + 16))) (zeros (8 * length s - n))))
    ∙ sym (append_assoc (zeros place) (binary 16 p ++ zeros (n - (place + 16))) (zeros (8 * length s - n))))
    ∙ xor_bits-append (take n (bits_of s)) row (drop n (bits_of s)) (zeros (8 * length s - n)) (m ∙ sym r)
    ∙ ap (λ (l : Bits). xor_bits (take n (bits_of s)) row ++ l)
    (ap (λ (x : ℕ). xor_bits (drop n (bits_of s)) (zeros x)) (sym q) ∙ xor_bits-zeros (drop n (bits_of s)))
