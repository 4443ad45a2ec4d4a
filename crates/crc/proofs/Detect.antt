-- What the check finds: an odd number of inverted bits, and inverted bits within 16 adjacent places, at any place of a row
-- of any length. Assumes nothing.
use mathlib.Core.Path.{◌≡◌, refl, sym, ap, ap₂, ◌∙◌}
use mathlib.Core.Bool.{Bool, true, false, false≢true}
use mathlib.Core.List.{[], ◌∷◌, ◌++◌}
use Prim.Native.Nat.{ℕ, zero, suc, ◌+◌, ◌*◌, ◌/◌, ◌^◌, ◌≤◌, ◌<◌}
use native.Mathlib.Nat.{div-one, div-eq_of_lt}
use native.Mathlib.Numerals.{one-add}
use native.Mathlib.Omega.{arith}
use lib.Bits.{bit_xor}
use lib.Dec.{lit<, lit≤}
use lib.ListN.{length, length-replicate, replicate-append-replicate}
use lib.Pow.{high, shr-shr}
use Rattle.crc.specs.Bits.{Bits, zeros, bit, odd, binary, xor, xor_bits, parity}
use Rattle.crc.specs.Polynomial.{generator}
use Rattle.crc.specs.Check.{reduce, divide_bit, divide, remainder, passes}
use Rattle.crc.specs.Damage.{Damage, nothing, odd_number, burst}
use Rattle.crc.proofs.Rows.{bit-lt, odd_behind, xor_bit_assoc, xor_bits_false, binary-xor, number-zero, length-xor_bits, xor_bits_none}
use Rattle.crc.proofs.Linear.{behind_lt, reduce-lt, divide_bit-lt, remainder-short, remainder-xor}
use Rattle.crc.proofs.Division.{passes-remainder}
use Rattle.crc.proofs.Zeros.{any_place}

-- ---- an odd number of ones: the generator has an even number of terms, so each step keeps the parity

xor_exchange : (a b c d : Bool) → xor (xor a b) (xor c d) ≡ xor (xor a c) (xor b d)
xor_exchange false false c d = refl
xor_exchange false true false d = refl
xor_exchange false true true false = refl
xor_exchange false true true true = refl
xor_exchange true false false d = refl
xor_exchange true false true false = refl
xor_exchange true false true true = refl
xor_exchange true true false false = refl
xor_exchange true true false true = refl
xor_exchange true true true false = refl
xor_exchange true true true true = refl

pub parity-xor : (l m : Bits) → length l ≡ length m → parity (xor_bits l m) ≡ xor (parity l) (parity m)
unfolding parity xor_bits
parity-xor [] [] e = refl
parity-xor [] (b ∷ m) e = absurd (omega arith)
parity-xor (a ∷ l) [] e = absurd (omega arith)
parity-xor (a ∷ l) (b ∷ m) e = ap (xor (xor a b)) (parity-xor l m (omega arith)) ∙ xor_exchange a b (parity l) (parity m)

parity_last : (l : Bits) (b : Bool) → parity (l ++ b ∷ []) ≡ xor (parity l) b
unfolding parity
parity_last [] b = xor_bits_false b
parity_last (a ∷ l) b = ap (xor a) (parity_last l b) ∙ sym (xor_bit_assoc a (parity l) b)

binary_behind : (w c : ℕ) (b : Bool) → binary (suc w) (c * 2 + bit b) ≡ binary w c ++ b ∷ []
unfolding binary
binary_behind zero c b = ap (λ (x : Bool). x ∷ []) (ap odd (div-one (c * 2 + bit b)) ∙ odd_behind c b)
binary_behind (suc w) c b =
    ap₂ (λ (x : ℕ) (y : Bits). odd x ∷ y)
    (ap (λ (x : ℕ). (c * 2 + bit b) / 2 ^ x) (sym (one-add w)) ∙ sym (shr-shr (c * 2 + bit b) 1 w) ∙ ap (λ (x : ℕ). x / 2 ^ w) (high c 1 (bit-lt b)))
    (binary_behind w c b)

generator_even : (t : ℕ) → t < 2 → parity (binary 17 (t * generator)) ≡ false
unfolding parity binary
generator_even zero h = refl
generator_even (suc zero) h = refl
generator_even (suc (suc t)) h = absurd (omega arith)

parity-reduce : (n : ℕ) → n < 2 ^ 17 → parity (binary 16 (reduce n)) ≡ parity (binary 17 n)
unfolding parity binary
parity-reduce n h =
    let z : reduce n / 2 ^ 16 ≡ 0 = div-eq_of_lt (reduce-lt n h) in
    ap (λ (x : ℕ). xor (odd x) (parity (binary 16 (reduce n)))) (sym z)
    ∙ ap parity (binary-xor 17 (n / 2 ^ 16 * generator) n)
    ∙ parity-xor (binary 17 (n / 2 ^ 16 * generator)) (binary 17 n) refl
    ∙ ap (λ (x : Bool). xor x (parity (binary 17 n))) (generator_even (n / 2 ^ 16) (omega arith))

parity-divide : (c : ℕ) (l : Bits) → c < 2 ^ 16 → parity (binary 16 (divide c l)) ≡ xor (parity (binary 16 c)) (parity l)
unfolding parity
parity-divide c [] h = sym (xor_bits_false (parity (binary 16 c)))
parity-divide c (b ∷ l) h =
    parity-divide (divide_bit c b) l (divide_bit-lt b h)
    ∙ ap (λ (x : Bool). xor x (parity l))
    (parity-reduce (c * 2 + bit b) (behind_lt b h) ∙ ap parity (binary_behind 16 c b) ∙ parity_last (binary 16 c) b)
    ∙ xor_bit_assoc (parity (binary 16 c)) b (parity l)

parity-remainder : (l : Bits) → parity (binary 16 (remainder l)) ≡ parity l
unfolding parity binary remainder
parity-remainder l = parity-divide 0 l (lit< tt)

pub odd_found : (e : Bits) → parity e ≡ true → remainder e ≡ 0 → ⊥
unfolding parity binary
odd_found e h z = false≢true (sym (ap (λ (x : ℕ). parity (binary 16 x)) z) ∙ parity-remainder e ∙ h)

-- ---- within 16 adjacent places

pub burst_found : (i j : ℕ) (e : Bits) → length e ≤ 16 → remainder (zeros i ++ (e ++ zeros j)) ≡ 0 → e ≡ zeros (length e)
burst_found i j e h z = number-zero e (sym (remainder-short e h) ∙ (any_place.no_remainder i j e).0 z)

-- ---- the damage that demand 3 admits

pub damage_found : (e : Bits) → Damage e → remainder e ≡ 0 → e ≡ zeros (length e)
damage_found e (nothing n) z = ap zeros (sym (length-replicate n false))
damage_found e (odd_number h) z = absurd (odd_found e h z)
damage_found e (burst i b j h) z =
    let m : zeros i ++ (b ++ zeros j) ≡ zeros (i + (length b + j)) =
    ap (λ (l : Bits). zeros i ++ (l ++ zeros j)) (burst_found i j b h z)
    ∙ ap (λ (l : Bits). zeros i ++ l) (replicate-append-replicate (length b) j false) ∙ replicate-append-replicate i (length b + j) false in
    m ∙ ap zeros (sym (ap length m ∙ length-replicate (i + (length b + j)) false))

-- a copy of a codeword, damaged so, passes only if it is the codeword
pub damaged_passes : (copy plain : Bits) → length copy ≡ length plain → Damage (xor_bits copy plain)
    → passes plain ≡ true → passes copy ≡ true → copy ≡ plain
damaged_passes copy plain h d p q =
    let z : remainder (xor_bits copy plain) ≡ 0 =
    remainder-xor copy plain h ∙ ap₂ bit_xor ((passes-remainder copy).0 q) ((passes-remainder plain).0 p) in
    xor_bits_none copy plain h (damage_found (xor_bits copy plain) d z ∙ ap zeros (length-xor_bits copy plain h))

-- ---- such damage exists, and is found: the bits 0001 with their check bits behind them, four bits inverted within nine
-- places, and one bit inverted

abbrev plain : Bits
plain = binary 20 0x11021

pub plain_example : passes plain ≡ true
unfolding passes remainder binary
plain_example = refl

pub burst_example : Damage (xor_bits (binary 20 0x11327) plain) × (passes (binary 20 0x11327) ≡ false)
unfolding passes remainder binary xor_bits
burst_example = (burst 10 (true ∷ true ∷ false ∷ false ∷ false ∷ false ∷ false ∷ true ∷ true ∷ []) 1 (lit≤ tt), refl)

pub odd_example : Damage (xor_bits (binary 20 0x11025) plain) × (passes (binary 20 0x11025) ≡ false)
unfolding passes remainder binary xor_bits parity
odd_example = (odd_number refl, refl)

-- 17 places are too many: the generator itself is not found
pub burst_of_17 : remainder (binary 17 generator) ≡ 0
unfolding remainder binary
burst_of_17 = refl
