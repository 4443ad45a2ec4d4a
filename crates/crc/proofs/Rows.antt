-- Numbers as rows of bits, rows behind one another, and the sum of two rows. Assumes nothing.
use mathlib.Core.Path.{◌≡◌, refl, sym, ap, ap₂, ◌∙◌, subst}
use mathlib.Core.Bool.{Bool, true, false}
use mathlib.Core.List.{[], ◌∷◌, ◌++◌}
use Prim.Native.Nat.{ℕ, zero, suc, ◌+◌, ◌*◌, ◌/◌, ◌%◌, ◌^◌, ◌≤◌, ◌<◌}
use native.Mathlib.Nat.{mod-one, mod-lt, pow-suc, zero-lt-suc, zero-add, suc-add, add_comm, mod-eq_of_lt, le_refl, mul-one, div-one}
use native.Mathlib.Numerals.{one-add, add-one}
use native.Mathlib.Omega.{arith}
use lib.Arith.{digits_lt}
use lib.Bits.{bit_xor, differ, xor_shr}
use lib.Dec.{eqb, lit<}
use lib.ListN.{length, take, drop, length-replicate}
use lib.Pow.{mod-pow-add, field, mod-mod-pow, low, high, shr-shr, split, pow_pos}
use lib.Seq.{take_at, drop_at}
use Rattle.crc.specs.Bits.{Bits, zeros, bit, odd, binary, number_from, number, xor, xor_bits}
use Rattle.crc.proofs.Xor.{xor-odd}

-- ---- bits

pub bit-lt : (b : Bool) → bit b < 2
bit-lt false = lit< tt
bit-lt true = lit< tt

pub bit-xor : (a b : Bool) → bit_xor (bit a) (bit b) ≡ bit (xor a b)
bit-xor false b = refl
bit-xor true false = refl
bit-xor true true = refl

pub xor_bit_comm : (a b : Bool) → xor a b ≡ xor b a
xor_bit_comm false false = refl
xor_bit_comm false true = refl
xor_bit_comm true false = refl
xor_bit_comm true true = refl

pub xor_bit_assoc : (a b c : Bool) → xor (xor a b) c ≡ xor a (xor b c)
xor_bit_assoc false b c = refl
xor_bit_assoc true false c = refl
xor_bit_assoc true true false = refl
xor_bit_assoc true true true = refl

pub xor_bits_false : (a : Bool) → xor a false ≡ a
xor_bits_false false = refl
xor_bits_false true = refl

pub xor_bit_self : (a : Bool) → xor a a ≡ false
xor_bit_self false = refl
xor_bit_self true = refl

xor_bit_none : (a b : Bool) → xor a b ≡ false → a ≡ b
xor_bit_none false b h = sym h
xor_bit_none true false h = h
xor_bit_none true true h = refl

-- ---- the lowest digit of a number

digit_lt : (n : ℕ) → n % 2 < 2
digit_lt n = mod-lt n (zero-lt-suc 1)

odd-xor : (a b : ℕ) → odd (bit_xor a b) ≡ xor (odd a) (odd b)
odd-xor a b = ap (λ (x : ℕ). eqb x 1) (xor-odd a b) ∙ go (a % 2) (b % 2) (digit_lt a) (digit_lt b)
  where
    go : (x y : ℕ) → x < 2 → y < 2 → eqb (differ x y) 1 ≡ xor (eqb x 1) (eqb y 1)
    go zero y h k = refl
    go (suc zero) zero h k = refl
    go (suc zero) (suc zero) h k = refl
    go (suc zero) (suc (suc y)) h k = absurd (omega arith)
    go (suc (suc x)) y h k = absurd (omega arith)

pub bit-odd : (n : ℕ) → bit (odd n) ≡ n % 2
bit-odd n = go (n % 2) (digit_lt n)
  where
    go : (x : ℕ) → x < 2 → bit (eqb x 1) ≡ x
    go zero h = refl
    go (suc zero) h = refl
    go (suc (suc x)) h = absurd (omega arith)

pub odd_behind : (c : ℕ) (b : Bool) → odd (c * 2 + bit b) ≡ b
odd_behind c false = ap (λ (x : ℕ). eqb x 1) (low c 1 {lo = 0} (lit< tt))
odd_behind c true = ap (λ (x : ℕ). eqb x 1) (low c 1 {lo = 1} (lit< tt))

-- ---- the number of a row

pub number_from-append : (c : ℕ) (x y : Bits) → number_from c (x ++ y) ≡ number_from (number_from c x) y
number_from-append c [] y = refl
number_from-append c (b ∷ x) y = number_from-append (c * 2 + bit b) x y

pub number_from_ge : (c : ℕ) (l : Bits) → c ≤ number_from c l
number_from_ge c [] = le_refl c
number_from_ge c (b ∷ l) = omega (arith, number_from_ge (c * 2 + bit b) l)

regroup : (c d p m n : ℕ) → m ≡ d * p + n → (c * 2 + d) * p + n ≡ c * (p * 2) + m
regroup c d p m n h = omega arith

pub number_from_is : (c : ℕ) (l : Bits) → number_from c l ≡ c * 2 ^ length l + number l
unfolding number
number_from_is c [] = omega arith
number_from_is c (b ∷ l) =
    let e : number (b ∷ l) ≡ bit b * 2 ^ length l + number l = ap (λ (x : ℕ). number_from x l) (zero-add (bit b)) ∙ number_from_is (bit b) l in
    number_from_is (c * 2 + bit b) l ∙ regroup c (bit b) (2 ^ length l) (number (b ∷ l)) (number l) e
    ∙ ap (λ (x : ℕ). c * x + number (b ∷ l)) (sym (pow-suc 2 (length l)))

pub number_append : (x y : Bits) → number (x ++ y) ≡ number x * 2 ^ length y + number y
unfolding number
number_append x y = number_from-append 0 x y ∙ number_from_is (number_from 0 x) y

pub number-cons : (b : Bool) (l : Bits) → number (b ∷ l) ≡ bit b * 2 ^ length l + number l
unfolding number
number-cons b l = ap (λ (x : ℕ). number_from x l) (zero-add (bit b)) ∙ number_from_is (bit b) l

pub number_lt : (bs : Bits) → number bs < 2 ^ length bs
unfolding number
number_lt [] = lit< tt
number_lt (b ∷ l) =
    subst (λ (x : ℕ). x < 2 ^ suc (length l)) (sym (number-cons b l))
    (subst (λ (x : ℕ). bit b * 2 ^ length l + number l < x) (two (2 ^ length l) ∙ sym (pow-suc 2 (length l))) (digits_lt (bit-lt b) (number_lt l)))
  where
    two : (p : ℕ) → 2 * p ≡ p * 2
    two p = omega arith

pub number_from-zeros : (c k : ℕ) → number_from c (zeros k) ≡ c * 2 ^ k
number_from-zeros c zero = sym (mul-one c)
number_from-zeros c (suc k) = number_from-zeros (c * 2 + 0) k ∙ rw pow-suc (omega arith)

pub number-zeros : (k : ℕ) → number (zeros k) ≡ 0
unfolding number
number-zeros k = number_from-zeros 0 k ∙ omega arith

-- ---- a number as a row

pub length-binary : (w n : ℕ) → length (binary w n) ≡ w
unfolding binary
length-binary zero n = refl
length-binary (suc w) n = ap suc (length-binary w n)

pub number_from-binary : (c w n : ℕ) → number_from c (binary w n) ≡ c * 2 ^ w + n % 2 ^ w
unfolding binary
number_from-binary c zero n = omega (arith, mod-one n)
number_from-binary c (suc w) n =
    let e : n % 2 ^ (1 + w) ≡ (n / 2 ^ w % 2) * 2 ^ w + n % 2 ^ w = mod-pow-add n 1 w in
    let f : n % 2 ^ suc w ≡ n % 2 ^ (1 + w) = ap (λ (x : ℕ). n % 2 ^ x) (sym (one-add w)) in
    number_from-binary (c * 2 + bit (odd (n / 2 ^ w))) w n
    ∙ rw (bit-odd, f, e, pow-suc) (omega arith)

pub number-binary-mod : (w n : ℕ) → number (binary w n) ≡ n % 2 ^ w
unfolding number
number-binary-mod w n = number_from-binary 0 w n ∙ omega arith

pub number-binary : (w n : ℕ) → n < 2 ^ w → number (binary w n) ≡ n
number-binary w n h = number-binary-mod w n ∙ mod-eq_of_lt h

number_from_high : (n : ℕ) (l : Bits) → number_from n l / 2 ^ length l ≡ n
number_from_high n [] = div-one n
number_from_high n (b ∷ l) =
    ap (λ (x : ℕ). number_from n (b ∷ l) / 2 ^ x) (sym (add-one (length l))) ∙ sym (shr-shr (number_from n (b ∷ l)) (length l) 1)
    ∙ ap (λ (x : ℕ). x / 2) (number_from_high (n * 2 + bit b) l) ∙ high n 1 (bit-lt b)

pub binary-number_from : (c : ℕ) (l : Bits) → binary (length l) (number_from c l) ≡ l
unfolding binary
binary-number_from c [] = refl
binary-number_from c (b ∷ l) =
    ap₂ (λ (x : Bool) (m : Bits). x ∷ m) (ap odd (number_from_high (c * 2 + bit b) l) ∙ odd_behind c b) (binary-number_from (c * 2 + bit b) l)

pub binary-number : (bs : Bits) → binary (length bs) (number bs) ≡ bs
unfolding number
binary-number bs = binary-number_from 0 bs

pub binary-zero : (w : ℕ) → binary w 0 ≡ zeros w
binary-zero w =
    ap₂ binary (sym (length-replicate w false)) (sym (number-zeros w)) ∙ binary-number (zeros w)

-- a row whose number is 0 has no ones
pub number-zero : (bs : Bits) → number bs ≡ 0 → bs ≡ zeros (length bs)
number-zero bs e = sym (binary-number bs) ∙ ap (binary (length bs)) e ∙ binary-zero (length bs)

odd-mod : (n j : ℕ) → odd (n % 2 ^ (j + 1)) ≡ odd n
odd-mod n j = ap (λ (x : ℕ). eqb x 1) (mod-mod-pow n j 1)

-- the digits above those wanted do not matter
pub binary-mod_more : (w j n : ℕ) → binary w (n % 2 ^ (j + w)) ≡ binary w n
unfolding binary
binary-mod_more zero j n = refl
binary-mod_more (suc w) j n =
    let e : j + suc w ≡ (j + 1) + w = omega arith in
    subst (λ (x : ℕ). binary (suc w) (n % 2 ^ x) ≡ binary (suc w) n) (sym e)
    (ap₂ (λ (b : Bool) (l : Bits). b ∷ l) (ap odd (field n (j + 1) w) ∙ odd-mod (n / 2 ^ w) j) (binary-mod_more w (j + 1) n))

pub binary-mod : (w n : ℕ) → binary w (n % 2 ^ w) ≡ binary w n
binary-mod w n = ap (λ (x : ℕ). binary w (n % 2 ^ x)) (sym (zero-add w)) ∙ binary-mod_more w 0 n

-- a number that is put together of two
pub binary_join : (a b m n : ℕ) → n < 2 ^ b → binary (a + b) (m * 2 ^ b + n) ≡ binary a m ++ binary b n
unfolding binary
binary_join zero b m n h =
    ap (λ (x : ℕ). binary x (m * 2 ^ b + n)) (zero-add b) ∙ sym (binary-mod b (m * 2 ^ b + n)) ∙ ap (binary b) (low m b h)
binary_join (suc a) b m n h =
    ap (λ (x : ℕ). binary x (m * 2 ^ b + n)) (suc-add a b)
    ∙ ap₂ (λ (x : ℕ) (l : Bits). odd x ∷ l)
    (ap (λ (x : ℕ). (m * 2 ^ b + n) / 2 ^ x) (add_comm a b) ∙ sym (shr-shr (m * 2 ^ b + n) b a) ∙ ap (λ (x : ℕ). x / 2 ^ a) (high m b h))
    (binary_join a b m n h)

-- a number taken apart
pub binary_split : (a b n : ℕ) → binary (a + b) n ≡ binary a (n / 2 ^ b) ++ binary b n
binary_split a b n =
    ap (binary (a + b)) (sym (split n b)) ∙ binary_join a b (n / 2 ^ b) (n % 2 ^ b) (mod-lt n (pow_pos b))
    ∙ ap (λ (l : Bits). binary a (n / 2 ^ b) ++ l) (binary-mod b n)

pub take-binary : (a b n : ℕ) → take a (binary (a + b) n) ≡ binary a (n / 2 ^ b)
take-binary a b n = rw (binary_split a b n) (take_at (binary a (n / 2 ^ b)) (binary b n) a (length-binary a (n / 2 ^ b)))

pub drop-binary : (a b n : ℕ) → drop a (binary (a + b) n) ≡ binary b n
drop-binary a b n = rw (binary_split a b n) (drop_at (binary a (n / 2 ^ b)) (binary b n) a (length-binary a (n / 2 ^ b)))

-- ---- the sum of two rows

pub length-xor_bits : (x y : Bits) → length x ≡ length y → length (xor_bits x y) ≡ length x
unfolding xor_bits
length-xor_bits [] y h = refl
length-xor_bits (a ∷ x) [] h = absurd (omega arith)
length-xor_bits (a ∷ x) (b ∷ y) h = ap suc (length-xor_bits x y (omega arith))

pub xor_bits_comm : (x y : Bits) → xor_bits x y ≡ xor_bits y x
unfolding xor_bits
xor_bits_comm [] [] = refl
xor_bits_comm [] (b ∷ y) = refl
xor_bits_comm (a ∷ x) [] = refl
xor_bits_comm (a ∷ x) (b ∷ y) = rw (xor_bit_comm a b, xor_bits_comm x y)

pub xor_bits_assoc : (x y z : Bits) → xor_bits (xor_bits x y) z ≡ xor_bits x (xor_bits y z)
unfolding xor_bits
xor_bits_assoc [] y z = refl
xor_bits_assoc (a ∷ x) [] z = refl
xor_bits_assoc (a ∷ x) (b ∷ y) [] = refl
xor_bits_assoc (a ∷ x) (b ∷ y) (c ∷ z) = rw (xor_bit_assoc a b c, xor_bits_assoc x y z)

pub xor_bits_self : (x : Bits) → xor_bits x x ≡ zeros (length x)
unfolding xor_bits
xor_bits_self [] = refl
xor_bits_self (a ∷ x) = rw (xor_bit_self a, xor_bits_self x)

pub xor_bits-zeros : (x : Bits) → xor_bits x (zeros (length x)) ≡ x
unfolding xor_bits
xor_bits-zeros [] = refl
xor_bits-zeros (a ∷ x) = rw (xor_bits_false a, xor_bits-zeros x)

pub xor_bits_none : (x y : Bits) → length x ≡ length y → xor_bits x y ≡ zeros (length x) → x ≡ y
unfolding xor_bits
xor_bits_none [] [] h e = refl
xor_bits_none [] (b ∷ y) h e = absurd (omega arith)
xor_bits_none (a ∷ x) [] h e = absurd (omega arith)
xor_bits_none (a ∷ x) (b ∷ y) h e =
    let p : xor a b ≡ false = cc in
    let q : xor_bits x y ≡ zeros (length x) = cc in
    rw (xor_bit_none a b p, xor_bits_none x y (omega arith) q)

pub xor_bits-append : (x y u v : Bits) → length x ≡ length y → xor_bits (x ++ u) (y ++ v) ≡ xor_bits x y ++ xor_bits u v
unfolding xor_bits
xor_bits-append [] [] u v h = refl
xor_bits-append [] (b ∷ y) u v h = absurd (omega arith)
xor_bits-append (a ∷ x) [] u v h = absurd (omega arith)
xor_bits-append (a ∷ x) (b ∷ y) u v h = ap (λ (l : Bits). xor a b ∷ l) (xor_bits-append x y u v (omega arith))

pub binary-xor : (w a b : ℕ) → binary w (bit_xor a b) ≡ xor_bits (binary w a) (binary w b)
unfolding binary xor_bits
binary-xor zero a b = refl
binary-xor (suc w) a b =
    ap₂ (λ (x : Bool) (y : Bits). x ∷ y) (ap odd (xor_shr a b w) ∙ odd-xor (a / 2 ^ w) (b / 2 ^ w)) (binary-xor w a b)
