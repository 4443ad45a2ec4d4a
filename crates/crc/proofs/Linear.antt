-- Division is linear: the remainder of the sum of two rows is the sum of their remainders. Assumes nothing.
use mathlib.Core.Path.{◌≡◌, refl, sym, ap, ◌∙◌}
use mathlib.Core.Bool.{Bool}
use mathlib.Core.List.{[], ◌∷◌, ◌++◌}
use Prim.Native.Nat.{ℕ, zero, suc, ◌+◌, ◌*◌, ◌/◌, ◌^◌, ◌≤◌, ◌<◌}
use native.Mathlib.Nat.{lt_of_lt_of_le}
use native.Mathlib.Omega.{arith}
use lib.Bits.{bit_xor, xor_shr, xor_block}
use lib.Dec.{lit<}
use lib.ListN.{length}
use lib.Pow.{pow_mono}
use Rattle.crc.specs.Bits.{Bits, zeros, bit, xor, xor_bits, number, number_from}
use Rattle.crc.specs.Polynomial.{generator}
use Rattle.crc.specs.Check.{reduce, divide_bit, divide, remainder}
use Rattle.crc.proofs.Xor.{xor_swap}
use Rattle.crc.proofs.Rows.{bit-lt, bit-xor, number_lt, number_from_ge}

-- a bit behind each of two numbers
pub behind_xor : (c d : ℕ) (a b : Bool) → bit_xor (c * 2 + bit a) (d * 2 + bit b) ≡ bit_xor c d * 2 + bit (xor a b)
behind_xor c d a b = xor_block 1 c d (bit a) (bit b) (bit-lt a) (bit-lt b) ∙ ap (λ (x : ℕ). bit_xor c d * 2 + x) (bit-xor a b)

pub behind_lt : {c : ℕ} (b : Bool) → c < 2 ^ 16 → c * 2 + bit b < 2 ^ 17
behind_lt b h = omega (arith, bit-lt b)

scale_xor : (t u : ℕ) → t < 2 → u < 2 → bit_xor t u * generator ≡ bit_xor (t * generator) (u * generator)
scale_xor zero u h k = refl
scale_xor (suc zero) zero h k = refl
scale_xor (suc zero) (suc zero) h k = refl
scale_xor (suc zero) (suc (suc u)) h k = absurd (omega arith)
scale_xor (suc (suc t)) u h k = absurd (omega arith)

pub reduce-xor : (n m : ℕ) → n < 2 ^ 17 → m < 2 ^ 17 → reduce (bit_xor n m) ≡ bit_xor (reduce n) (reduce m)
reduce-xor n m h k =
    ap (λ (x : ℕ). bit_xor (x * generator) (bit_xor n m)) (xor_shr n m 16)
    ∙ ap (λ (x : ℕ). bit_xor x (bit_xor n m)) (scale_xor (n / 2 ^ 16) (m / 2 ^ 16) (omega arith) (omega arith))
    ∙ xor_swap (n / 2 ^ 16 * generator) (m / 2 ^ 16 * generator) n m

pub reduce-lt : (n : ℕ) → n < 2 ^ 17 → reduce n < 2 ^ 16
reduce-lt n h =
    let z : reduce n / 2 ^ 16 ≡ 0 = xor_shr (n / 2 ^ 16 * generator) n 16 ∙ cleared (n / 2 ^ 16) (omega arith) in
    omega arith
  where
    cleared : (t : ℕ) → t < 2 → bit_xor (t * generator / 2 ^ 16) t ≡ 0
    cleared zero l = refl
    cleared (suc zero) l = refl
    cleared (suc (suc t)) l = absurd (omega arith)

pub reduce_small : (n : ℕ) → n < 2 ^ 16 → reduce n ≡ n
reduce_small n h = let z : n / 2 ^ 16 ≡ 0 = omega arith in ap (λ (x : ℕ). bit_xor (x * generator) n) z

pub divide_bit-lt : {c : ℕ} (b : Bool) → c < 2 ^ 16 → divide_bit c b < 2 ^ 16
divide_bit-lt {c} b h = reduce-lt (c * 2 + bit b) (behind_lt b h)

pub divide_bit-xor : (c d : ℕ) (a b : Bool) → c < 2 ^ 16 → d < 2 ^ 16 → divide_bit (bit_xor c d) (xor a b) ≡ bit_xor (divide_bit c a) (divide_bit d b)
divide_bit-xor c d a b h k =
    ap reduce (sym (behind_xor c d a b)) ∙ reduce-xor (c * 2 + bit a) (d * 2 + bit b) (behind_lt a h) (behind_lt b k)

pub divide-lt : {c : ℕ} (l : Bits) → c < 2 ^ 16 → divide c l < 2 ^ 16
divide-lt [] h = h
divide-lt {c = c} (b ∷ l) h = divide-lt {c = divide_bit c b} l (divide_bit-lt b h)

pub divide-append : (c : ℕ) (l m : Bits) → divide c (l ++ m) ≡ divide (divide c l) m
divide-append c [] m = refl
divide-append c (b ∷ l) m = divide-append (divide_bit c b) l m

pub divide-xor : (c d : ℕ) (l m : Bits) → c < 2 ^ 16 → d < 2 ^ 16 → length l ≡ length m
    → divide (bit_xor c d) (xor_bits l m) ≡ bit_xor (divide c l) (divide d m)
unfolding xor_bits
divide-xor c d [] [] h k e = refl
divide-xor c d [] (b ∷ m) h k e = absurd (omega arith)
divide-xor c d (a ∷ l) [] h k e = absurd (omega arith)
divide-xor c d (a ∷ l) (b ∷ m) h k e =
    ap (λ (x : ℕ). divide x (xor_bits l m)) (divide_bit-xor c d a b h k)
    ∙ divide-xor (divide_bit c a) (divide_bit d b) l m (divide_bit-lt a h) (divide_bit-lt b k) (omega arith)

pub divide-zeros : (k : ℕ) → divide 0 (zeros k) ≡ 0
divide-zeros zero = refl
divide-zeros (suc k) = divide-zeros k

-- a row whose number is below x^16 is left as it is
pub divide-short : (c : ℕ) (l : Bits) → number_from c l < 2 ^ 16 → divide c l ≡ number_from c l
divide-short c [] h = refl
divide-short c (b ∷ l) h =
    ap (λ (x : ℕ). divide x l) (reduce_small (c * 2 + bit b) (omega (arith, number_from_ge (c * 2 + bit b) l))) ∙ divide-short (c * 2 + bit b) l h

pub remainder-lt : (l : Bits) → remainder l < 2 ^ 16
unfolding remainder
remainder-lt l = divide-lt l (lit< tt)

-- a row of at most 16 bits is its own remainder
pub remainder-short : (t : Bits) → length t ≤ 16 → remainder t ≡ number t
unfolding remainder number
remainder-short t h = divide-short 0 t (lt_of_lt_of_le (number_lt t) (pow_mono {j = 16} h))

pub remainder-append : (l m : Bits) → remainder (l ++ m) ≡ divide (remainder l) m
unfolding remainder
remainder-append l m = divide-append _ l m

pub remainder-xor : (l m : Bits) → length l ≡ length m → remainder (xor_bits l m) ≡ bit_xor (remainder l) (remainder m)
unfolding remainder
remainder-xor l m e = divide-xor 0 0 l m (lit< tt) (lit< tt) e

-- a damaged codeword leaves what the damage alone leaves
pub remainder_damaged : (l e : Bits) → length l ≡ length e → remainder l ≡ 0 → remainder (xor_bits l e) ≡ remainder e
remainder_damaged l e h z = remainder-xor l e h ∙ ap (λ (x : ℕ). bit_xor x (remainder e)) z
