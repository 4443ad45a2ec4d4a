-- Folding: a word in front of others is left out and a multiple of the generator added to all of them, and the register
-- holds the same as before. Assumes nothing.
use mathlib.Core.Path.{◌≡◌, refl, sym, ap, ap₂, ◌∙◌, subst}
use mathlib.Core.Bool.{Bool, true, false}
use mathlib.Core.List.{List, [], ◌∷◌}
use Prim.Native.Nat.{ℕ, zero, suc, ◌*◌, ◌/◌, ◌%◌, ◌^◌, ◌<◌}
use native.Mathlib.Nat.{zero-mul, mul-one, one-mul, mod-lt, zero-lt-suc, pow-suc}
use native.Mathlib.Omega.{arith}
use lib.Arith.{lt-one}
use lib.Bits.{bit_xor, xor_comm, xor_self, xor_zero_r, xor_shifted, xor_mod}
use lib.Dec.{T, lit<}
use lib.ListN.{length}
use lib.Pow.{split}
use Rattle.crc.specs.Bits.{Bits, bit, odd, binary, number}
use Rattle.crc.specs.Words.{bits_of_words, left_by}
use Rattle.crc.specs.Polynomial.{polynomial, times, Divides}
use Rattle.crc.specs.Check.{remainder, register}
use Rattle.crc.proofs.Xor.{xor_swap, xor_shl}
use Rattle.crc.proofs.Rows.{bit-odd, number_append, number-binary, number-binary-mod, number_lt}
use Rattle.crc.proofs.Division.{divides_xor, divides_twice, divides_remainder}
use Rattle.crc.proofs.Codeword.{check-zero}
use Rattle.crc.proofs.Register.{register-xor, register-check}
use Rattle.crc.proofs.Words.{xor_words, length-bits_of_words, bits_of_words-xor, register-zero_word}
use Rattle.crc.proofs.Basis.{same_on, by_basis, Term, reg, new, ◌>>◌, shl, ◌⊕◌, ◌into◌, eval, eval_xor}

-- ---- what the generator divides is closed under products

divides_bit : (b : Bool) {p : ℕ} → Divides p → Divides (bit b * p)
divides_bit false {p} d = ([], sym (zero-mul p))
divides_bit true {p} d = subst Divides (sym (one-mul p)) d

pub divides_times : (q : Bits) {p : ℕ} → Divides p → Divides (times q p)
divides_times [] d = ([], refl)
divides_times (b ∷ q) d = divides_xor (divides_bit b d) (divides_twice (divides_times q d))

-- ---- v times a sum of powers of x

abbrev pub times_powers : List ℕ → ℕ → ℕ
times_powers [] v = 0
times_powers (e ∷ es) v = bit_xor (v * 2 ^ e) (times_powers es v)

times_powers_xor : (es : List ℕ) (a b : ℕ) → times_powers es (bit_xor a b) ≡ bit_xor (times_powers es a) (times_powers es b)
times_powers_xor [] a b = refl
times_powers_xor (e ∷ es) a b =
    ap₂ bit_xor (sym (xor_shl a b e)) (times_powers_xor es a b) ∙ xor_swap (a * 2 ^ e) (b * 2 ^ e) (times_powers es a) (times_powers es b)

times_powers_twice : (es : List ℕ) (a : ℕ) → times_powers es (a * 2) ≡ times_powers es a * 2
times_powers_twice [] a = refl
times_powers_twice (e ∷ es) a =
    ap₂ bit_xor (turn a (2 ^ e)) (times_powers_twice es a) ∙ xor_shl (a * 2 ^ e) (times_powers es a) 1
  where
    turn : (a p : ℕ) → a * 2 * p ≡ a * p * 2
    turn a p = omega arith

times_powers_zero : (es : List ℕ) → times_powers es 0 ≡ 0
times_powers_zero [] = refl
times_powers_zero (e ∷ es) = ap₂ bit_xor (zero-mul (2 ^ e)) (times_powers_zero es)

times_powers_bit : (b : Bool) (es : List ℕ) → bit b * times_powers es 1 ≡ times_powers es (bit b * 1)
times_powers_bit false es = zero-mul (times_powers es 1) ∙ sym (times_powers_zero es)
times_powers_bit true es = one-mul (times_powers es 1)

times_powers_lem : (q : Bits) (es : List ℕ) → times q (times_powers es 1) ≡ times_powers es (times q 1)
times_powers_lem [] es = sym (times_powers_zero es)
times_powers_lem (b ∷ q) es =
    ap₂ (λ (x y : ℕ). bit_xor x (y * 2)) (times_powers_bit b es) (times_powers_lem q es)
    ∙ ap (bit_xor (times_powers es (bit b * 1))) (sym (times_powers_twice es (times q 1)))
    ∙ sym (times_powers_xor es (bit b * 1) (times q 1 * 2))

-- the w lowest coefficients of a polynomial, the lowest first
abbrev coefficients : ℕ → ℕ → Bits
coefficients zero v = []
coefficients (suc w) v = odd v ∷ coefficients w (v / 2)

times_one : (w v : ℕ) → v < 2 ^ w → times (coefficients w v) 1 ≡ v
times_one zero v h = sym (lt-one h)
times_one (suc w) v h =
    let k : v < 2 ^ w * 2 = subst (λ (x : ℕ). v < x) (pow-suc 2 w) h in
    ap₂ (λ (x y : ℕ). bit_xor x (y * 2)) (mul-one (bit (odd v)) ∙ bit-odd v) (times_one w (v / 2) (half k))
    ∙ xor_comm (v % 2) (v / 2 * 2) ∙ xor_shifted (v / 2) 1 (v % 2) (mod-lt v (zero-lt-suc 1)) ∙ split v 1
  where
    half : {v p : ℕ} → v < p * 2 → v / 2 < p
    half h = omega arith

below_power : (v : ℕ) → v < 2 ^ v
below_power zero = lit< tt
below_power (suc v) = rw pow-suc (omega (arith, below_power v))

-- v times a sum that the generator divides
pub divides_powers : (es : List ℕ) → Divides (times_powers es 1) → (v : ℕ) → Divides (times_powers es v)
divides_powers es d v =
    subst Divides (times_powers_lem (coefficients v v) es ∙ ap (times_powers es) (times_one v v (below_power v))) (divides_times (coefficients v v) d)

-- ---- the law

-- Where the generator divides w and vs as one row, w in front of other words may be left out and vs added to them.
pub register_fold : (w : ℕ) (ws vs : List ℕ) → length ws ≡ length vs → Divides (polynomial (bits_of_words (w ∷ vs)))
    → left_by (w ∷ ws) ≡ left_by (xor_words ws vs)
register_fold w ws vs h d =
    sym (xor_zero_r (register 0 l)) ∙ ap (bit_xor (register 0 l)) (sym z) ∙ sym (register-xor 0 0 l m (lit< tt) (lit< tt) lengths)
    ∙ ap (register 0) (sym (bits_of_words-xor (w ∷ ws) (w ∷ vs) (ap suc h)))
    ∙ ap (λ (x : ℕ). left_by (x ∷ xor_words ws vs)) (xor_self w) ∙ register-zero_word (xor_words ws vs)
  where
    l : Bits
    l = bits_of_words (w ∷ ws)

    m : Bits
    m = bits_of_words (w ∷ vs)

    z : register 0 m ≡ 0
    z = register-check m ∙ (check-zero m).1 ((divides_remainder m).1 d)

    lengths : length l ≡ length m
    lengths = length-bits_of_words (w ∷ ws) ∙ ap (λ (n : ℕ). 64 * suc n) h ∙ sym (length-bits_of_words (w ∷ vs))

-- ---- words that are terms of one word

abbrev pub words_at : List Term → ℕ → List ℕ
words_at [] w = []
words_at (t ∷ ts) w = eval t 0 w ∷ words_at ts w

-- their polynomial
abbrev polynomial_at : List Term → ℕ → ℕ
polynomial_at [] w = 0
polynomial_at (t ∷ ts) w = bit_xor (eval t 0 w % 2 ^ 64 * 2 ^ (64 * length ts)) (polynomial_at ts w)

polynomial_at_xor : (ts : List Term) (a b : ℕ) → polynomial_at ts (bit_xor a b) ≡ bit_xor (polynomial_at ts a) (polynomial_at ts b)
polynomial_at_xor [] a b = refl
polynomial_at_xor (t ∷ ts) a b =
    let p : ℕ = 2 ^ (64 * length ts) in
    ap₂ bit_xor
    (ap (λ (x : ℕ). x % 2 ^ 64 * p) (eval_xor t 0 0 a b) ∙ ap (λ (x : ℕ). x * p) (xor_mod (eval t 0 a) (eval t 0 b) 64)
    ∙ sym (xor_shl (eval t 0 a % 2 ^ 64) (eval t 0 b % 2 ^ 64) (64 * length ts)))
    (polynomial_at_xor ts a b)
    ∙ xor_swap (eval t 0 a % 2 ^ 64 * p) (eval t 0 b % 2 ^ 64 * p) (polynomial_at ts a) (polynomial_at ts b)

length_words_at : (ts : List Term) (w : ℕ) → length (words_at ts w) ≡ length ts
length_words_at [] w = refl
length_words_at (t ∷ ts) w = ap suc (length_words_at ts w)

polynomial_at_is : (ts : List Term) (w : ℕ) → polynomial (bits_of_words (words_at ts w)) ≡ polynomial_at ts w
unfolding bits_of_words number
polynomial_at_is [] w = refl
polynomial_at_is (t ∷ ts) w =
    let l : Bits = bits_of_words (words_at ts w) in
    number_append (binary 64 (eval t 0 w)) l
    ∙ sym (xor_shifted (number (binary 64 (eval t 0 w))) (length l) (number l) (number_lt l))
    ∙ ap₂ bit_xor
    (ap₂ (λ (x y : ℕ). x * 2 ^ y) (number-binary-mod 64 (eval t 0 w))
    (length-bits_of_words (words_at ts w) ∙ ap (λ (n : ℕ). 64 * n) (length_words_at ts w)))
    (polynomial_at_is ts w)

-- a word in front of ws folded into them by terms: with it they are q times a sum of powers of x that the generator divides
fold_terms : (es : List ℕ) (q : Term) (ts : List Term) → Divides (times_powers es 1)
    → T (same_on (polynomial_at (new ∷ ts)) (λ w. times_powers es (eval q 0 w)) 64)
    → (w : ℕ) (ws : List ℕ) → w < 2 ^ 64 → length ws ≡ length ts
    → left_by (w ∷ ws) ≡ left_by (xor_words ws (words_at ts w))
fold_terms es q ts d t w ws h n =
    register_fold w ws (words_at ts w) (n ∙ sym (length_words_at ts w))
    (subst Divides (sym (polynomial_at_is (new ∷ ts) w ∙ same)) (divides_powers es d (eval q 0 w)))
  where
    same : polynomial_at (new ∷ ts) w ≡ times_powers es (eval q 0 w)
    same =
        by_basis (polynomial_at (new ∷ ts)) (λ w. times_powers es (eval q 0 w)) 64 (λ a b x y. polynomial_at_xor (new ∷ ts) a b)
        (λ a b x y. ap (times_powers es) (eval_xor q 0 0 a b) ∙ times_powers_xor es (eval q 0 a) (eval q 0 b)) t w h

-- ---- the generator's powers 16, 8 and 4, and the words of src/

abbrev power16 : List ℕ
power16 = 256 ∷ 192 ∷ 80 ∷ 0 ∷ []

abbrev power8 : List ℕ
power8 = 128 ∷ 96 ∷ 40 ∷ 0 ∷ []

abbrev power4 : List ℕ
power4 = 64 ∷ 48 ∷ 20 ∷ 0 ∷ []

divides_sum : (es : List ℕ) (n : ℕ) → times_powers es 1 < 2 ^ n → remainder (binary n (times_powers es 1)) ≡ 0 → Divides (times_powers es 1)
divides_sum es n h e =
    subst Divides (number-binary n (times_powers es 1) h) ((divides_remainder (binary n (times_powers es 1))).0 e)

-- the generator divides x^256 + x^192 + x^80 + 1
divides_power16 : Divides (times_powers power16 1)
unfolding remainder binary
divides_power16 = divides_sum power16 257 (lit< tt) refl

divides_power8 : Divides (times_powers power8 1)
unfolding remainder binary
divides_power8 = divides_sum power8 129 (lit< tt) refl

divides_power4 : Divides (times_powers power4 1)
unfolding remainder binary
divides_power4 = divides_sum power4 65 (lit< tt) refl

-- a word four places ahead
pub fold_four : (a b c d e : ℕ) → a < 2 ^ 64
    → left_by (a ∷ b ∷ c ∷ d ∷ e ∷ [])
    ≡ left_by (bit_xor b a ∷ bit_xor c (a / 2 ^ 48) ∷ bit_xor d (a * 2 ^ 16 % 2 ^ 64) ∷ bit_xor e a ∷ [])
fold_four a b c d e h =
    fold_terms power16 new (new ∷ new >> 48 ∷ shl 64 new 16 ∷ new ∷ []) divides_power16 tt a (b ∷ c ∷ d ∷ e ∷ []) h refl

-- a word two places ahead
pub fold_two : (a b c : ℕ) → a < 2 ^ 64
    → let v : ℕ = bit_xor a (a / 2 ^ 32) in
    left_by (a ∷ b ∷ c ∷ [])
    ≡ left_by (bit_xor b (bit_xor (v * 2 ^ 32 % 2 ^ 64) (v / 2 ^ 24)) ∷ bit_xor c (bit_xor v (v * 2 ^ 40 % 2 ^ 64)) ∷ [])
fold_two a b c h =
    let v : Term = new ⊕ new >> 32 in
    fold_terms power8 v ((shl 64 v 32 ⊕ v >> 24) ∷ (v ⊕ shl 64 v 40) ∷ []) divides_power8 tt a (b ∷ c ∷ []) h refl

-- a word one place ahead
abbrev quotient4 : Term
quotient4 = new ⊕ new >> 32 into reg ⊕ reg >> 16 ⊕ reg >> 44

pub fold_one : (a b : ℕ) → a < 2 ^ 64
    → let y : ℕ = eval quotient4 0 a in
    left_by (a ∷ b ∷ []) ≡ left_by (bit_xor b (bit_xor (bit_xor y (y * 2 ^ 20 % 2 ^ 64)) (y * 2 ^ 48 % 2 ^ 64)) ∷ [])
fold_one a b h =
    fold_terms power4 quotient4 ((quotient4 into reg ⊕ shl 64 reg 20 ⊕ shl 64 reg 48) ∷ []) divides_power4 tt a (b ∷ []) h refl
