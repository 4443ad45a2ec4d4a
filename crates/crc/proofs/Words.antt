-- Lists of words as rows of bits, and what they leave in the register. Assumes nothing.
use mathlib.Core.Path.{◌≡◌, refl, sym, ap, ap₂, ◌∙◌}
use mathlib.Core.List.{List, [], ◌∷◌, ◌++◌, append_assoc, append-nil, map}
use Prim.Native.Nat.{ℕ, zero, suc, ◌+◌, ◌*◌, ◌^◌, ◌<◌}
use native.Mathlib.Omega.{arith}
use lib.Bits.{bit_xor}
use lib.ListN.{length, take, drop, get_or, length-append, length-drop, take-append-drop}
use lib.Seq.{length-take-le}
use Rattle.std.specs.Int.{from_be_bytes, w64}
use Rattle.std.specs.List.{range_with_len, FoldsTo}
use Rattle.std.specs.Simd.{first_chunks}
use Rattle.std.proofs.lemmas.List.FromFn.{fill_by_all}
use Rattle.crc.specs.Bits.{Bits, zeros, binary, bits_of, xor_bits}
use Rattle.crc.specs.Words.{bits_of_words, left_by}
use Rattle.crc.specs.Check.{register}
use Rattle.crc.proofs.Rows.{length-binary, binary-zero, binary-xor, binary_join, xor_bits-append}
use Rattle.crc.proofs.Bytes.{bits_of-append, take_bytes, drop_bytes}
use Rattle.crc.proofs.Register.{register-append, register-rest}

-- the sum of two lists of words
abbrev pub xor_words : List ℕ → List ℕ → List ℕ
xor_words [] vs = []
xor_words (w ∷ ws) [] = []
xor_words (w ∷ ws) (v ∷ vs) = bit_xor w v ∷ xor_words ws vs

pub length-bits_of_words : (ws : List ℕ) → length (bits_of_words ws) ≡ 64 * length ws
unfolding bits_of_words
length-bits_of_words [] = refl
length-bits_of_words (w ∷ ws) =
    length-append (binary 64 w) (bits_of_words ws) ∙ ap₂ ◌+◌ (length-binary 64 w) (length-bits_of_words ws) ∙ omega arith

pub bits_of_words-xor : (ws vs : List ℕ) → length ws ≡ length vs → bits_of_words (xor_words ws vs) ≡ xor_bits (bits_of_words ws) (bits_of_words vs)
unfolding bits_of_words xor_bits
bits_of_words-xor [] vs h = refl
bits_of_words-xor (w ∷ ws) [] h = absurd (omega arith)
bits_of_words-xor (w ∷ ws) (v ∷ vs) h =
    ap₂ (λ (x y : Bits). x ++ y) (binary-xor 64 w v) (bits_of_words-xor ws vs (omega arith))
    ∙ sym (xor_bits-append (binary 64 w) (binary 64 v) (bits_of_words ws) (bits_of_words vs) (length-binary 64 w ∙ sym (length-binary 64 v)))

pub bits_of_words_one : (w : ℕ) → bits_of_words (w ∷ []) ≡ binary 64 w
unfolding bits_of_words
bits_of_words_one w = append-nil (binary 64 w)

pub bits_of_words-append : (ws vs : List ℕ) → bits_of_words (ws ++ vs) ≡ bits_of_words ws ++ bits_of_words vs
unfolding bits_of_words
bits_of_words-append [] vs = refl
bits_of_words-append (w ∷ ws) vs =
    ap (λ (l : Bits). binary 64 w ++ l) (bits_of_words-append ws vs) ∙ sym (append_assoc (binary 64 w) (bits_of_words ws) (bits_of_words vs))

-- ---- words of eight bytes

-- a list written out, as the code's patterns take an array apart
pub written_out : (n : ℕ) (s : List ℕ) → length s ≡ n → map (λ k. get_or s k 0) (range_with_len 0 n) ≡ s
written_out n s l = sym (fill_by_all (λ k. get_or s k 0) s n 0 l (λ k h. refl))

-- a number with bytes behind it
abbrev bytes_behind : ℕ → List ℕ → ℕ
bytes_behind n [] = n
bytes_behind n (x ∷ s) = bytes_behind (n * 2 ^ 8 + x) s

binary-bytes_behind : (w n : ℕ) (s : List ℕ) → ((i : ℕ) → get_or s i 0 < 256) → binary (w + 8 * length s) (bytes_behind n s) ≡ binary w n ++ bits_of s
unfolding bits_of
binary-bytes_behind w n [] h = let e : w + 8 * 0 ≡ w = omega arith in ap (λ (k : ℕ). binary k n) e ∙ sym (append-nil (binary w n))
binary-bytes_behind w n (x ∷ s) h =
    let e : w + 8 * suc (length s) ≡ (w + 8) + 8 * length s = omega arith in
    ap (λ (k : ℕ). binary k (bytes_behind (n * 2 ^ 8 + x) s)) e ∙ binary-bytes_behind (w + 8) (n * 2 ^ 8 + x) s (λ i. h (suc i))
    ∙ ap (λ (l : Bits). l ++ bits_of s) (binary_join w 8 n x (h 0)) ∙ append_assoc (binary w n) (binary 8 x) (bits_of s)

-- eight bytes, read as a word
pub binary-from_be_bytes : (s : List ℕ) → length s ≡ 8 → ((i : ℕ) → get_or s i 0 < 256) → binary 64 (from_be_bytes w64 s) ≡ bits_of s
unfolding binary
binary-from_be_bytes s l h =
    ap (binary 64) (one_behind_another ∙ ap (bytes_behind 0) (written_out 8 s l))
    ∙ ap (λ (k : ℕ). binary (0 + 8 * k) (bytes_behind 0 s)) (sym l) ∙ binary-bytes_behind 0 0 s h
  where
    one_behind_another : from_be_bytes w64 s ≡ bytes_behind 0 (map (λ k. get_or s k 0) (range_with_len 0 8))
    one_behind_another = omega arith

-- bytes in chunks of eight, each read as a word
pub bits_of_words-chunks : (k : ℕ) (s : List ℕ) → length s ≡ 8 * k → ((i : ℕ) → get_or s i 0 < 256)
    → bits_of_words (map (from_be_bytes w64) (first_chunks 8 k s)) ≡ bits_of s
unfolding bits_of_words bits_of
bits_of_words-chunks zero [] e h = refl
bits_of_words-chunks zero (x ∷ s) e h = absurd (omega arith)
bits_of_words-chunks (suc k) s e h =
    ap₂ (λ (x y : Bits). x ++ y)
    (binary-from_be_bytes (take 8 s) (length-take-le 8 s (omega arith)) (take_bytes 8 s h))
    (bits_of_words-chunks k (drop 8 s) (omega (arith, length-drop 8 s)) (drop_bytes 8 s h))
    ∙ sym (bits_of-append (take 8 s) (drop 8 s)) ∙ ap bits_of (take-append-drop 8 s)

pub first_of_chunks : (k : ℕ) (s : List ℕ) → 0 < k → get_or (first_chunks 8 k s) 0 [] ≡ take 8 s
first_of_chunks zero s h = absurd (omega arith)
first_of_chunks (suc k) s h = refl

-- ---- the register

pub register-zeros : (k : ℕ) → register 0 (zeros k) ≡ 0
unfolding register
register-zeros zero = refl
register-zeros (suc k) = register-zeros k

-- zeros in front of a row change nothing
pub register-zeros_front : (k : ℕ) (l : Bits) → register 0 (zeros k ++ l) ≡ register 0 l
register-zeros_front k l = register-append 0 (zeros k) l ∙ ap (λ (x : ℕ). register x l) (register-zeros k)

pub register-zero_word : (ws : List ℕ) → left_by (0 ∷ ws) ≡ left_by ws
unfolding bits_of_words
register-zero_word ws =
    ap (λ (l : Bits). register 0 (l ++ bits_of_words ws)) (binary-zero 64) ∙ register-zeros_front 64 (bits_of_words ws)

-- words that leave the same leave the same with others behind them
pub register-words_behind : (ws vs us : List ℕ) → left_by ws ≡ left_by vs → left_by (ws ++ us) ≡ left_by (vs ++ us)
register-words_behind ws vs us e =
    ap (register 0) (bits_of_words-append ws us) ∙ register-append 0 (bits_of_words ws) (bits_of_words us)
    ∙ ap (λ (x : ℕ). register x (bits_of_words us)) e
    ∙ sym (register-append 0 (bits_of_words vs) (bits_of_words us)) ∙ sym (ap (register 0) (bits_of_words-append vs us))

-- words folded in one after another, each of which leaves what it leaves behind the words before
pub left_by_folded : {P : Type 0} (R : P → ℕ → P → Type 0) (words : P → List ℕ)
    → ((p : P) (w : ℕ) (q : P) → R p w q → left_by (words q) ≡ left_by (words p ++ w ∷ []))
    → (p : P) (ws : List ℕ) (q : P) → FoldsTo R p ws q → left_by (words q) ≡ left_by (words p ++ ws)
left_by_folded R words step p [] q e = ap left_by (ap words (sym e) ∙ sym (append-nil (words p)))
left_by_folded R words step p (w ∷ ws) q (j, one, others) =
    left_by_folded R words step j ws q others ∙ register-words_behind (words j) (words p ++ w ∷ []) ws (step p w j one)
    ∙ ap left_by (append_assoc (words p) (w ∷ []) ws)

-- the bytes before the first whole word, as the last word of a window of zeros
pub register-start : (c w : ℕ) (ws s : List ℕ) (h : ℕ) → left_by (w ∷ []) ≡ register c (bits_of (take h s)) → bits_of_words ws ≡ bits_of (drop h s)
    → left_by ((0 ∷ 0 ∷ 0 ∷ w ∷ []) ++ ws) ≡ register c (bits_of s)
register-start c w ws s h e f =
    register-zero_word (0 ∷ 0 ∷ w ∷ ws) ∙ register-zero_word (0 ∷ w ∷ ws) ∙ register-zero_word (w ∷ ws)
    ∙ ap (register 0) (bits_of_words-append (w ∷ []) ws) ∙ register-append 0 (bits_of_words (w ∷ [])) (bits_of_words ws)
    ∙ ap₂ register e f ∙ register-rest c s h
