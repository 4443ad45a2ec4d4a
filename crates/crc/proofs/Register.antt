-- The register as it is built, whose bits come in at x^16: linear, and from zero it holds the check bits. Assumes nothing.
use mathlib.Core.Path.{◌≡◌, refl, sym, ap, ap₂, ◌∙◌, subst}
use mathlib.Core.Bool.{Bool, true, false}
use mathlib.Core.List.{List, [], ◌∷◌, ◌++◌}
use Prim.Native.Nat.{ℕ, ◌*◌, ◌^◌, ◌<◌}
use native.Mathlib.Nat.{add-zero}
use native.Mathlib.Omega.{arith}
use lib.Bits.{bit_xor, xor_lt, xor_zero_r}
use lib.Dec.{lit<}
use lib.ListN.{length, take, drop, take-append-drop}
use Rattle.std.specs.List.{fold}
use Rattle.crc.specs.Bits.{Bits, zeros, bit, binary, bits_of, xor, xor_bits}
use Rattle.crc.specs.Check.{reduce, divide_bit, divide, remainder, check, register_bit, register}
use Rattle.crc.proofs.Xor.{xor_swap}
use Rattle.crc.proofs.Bytes.{bits_of-append}
use Rattle.crc.proofs.Linear.{reduce-xor, divide_bit-lt, divide_bit-xor, divide-lt, divide-xor, remainder-append}

-- x^16, reduced
abbrev x16 : ℕ
x16 = reduce (2 ^ 16)

x16_lt : (b : Bool) → bit b * x16 < 2 ^ 16
x16_lt false = lit< tt
x16_lt true = lit< tt

x16_xor : (a b : Bool) → bit (xor a b) * x16 ≡ bit_xor (bit a * x16) (bit b * x16)
x16_xor false b = refl
x16_xor true false = refl
x16_xor true true = refl

register_bit_is : (c : ℕ) (b : Bool) → c < 2 ^ 16 → register_bit c b ≡ bit_xor (divide_bit c false) (bit b * x16)
register_bit_is c false h = ap reduce (xor_zero_r (c * 2) ∙ sym (add-zero (c * 2))) ∙ sym (xor_zero_r (divide_bit c false))
register_bit_is c true h =
    reduce-xor (c * 2) (2 ^ 16) (omega arith) (lit< tt) ∙ ap (λ (x : ℕ). bit_xor (reduce x) x16) (sym (add-zero (c * 2)))

register_bit-lt : {c : ℕ} (b : Bool) → c < 2 ^ 16 → register_bit c b < 2 ^ 16
register_bit-lt {c} b h =
    subst (λ (x : ℕ). x < 2 ^ 16) (sym (register_bit_is c b h)) (xor_lt 16 (divide_bit c false) (bit b * x16) (divide_bit-lt false h) (x16_lt b))

register_bit-xor : (c d : ℕ) (a b : Bool) → c < 2 ^ 16 → d < 2 ^ 16
    → register_bit (bit_xor c d) (xor a b) ≡ bit_xor (register_bit c a) (register_bit d b)
register_bit-xor c d a b h k =
    register_bit_is (bit_xor c d) (xor a b) (xor_lt 16 c d h k)
    ∙ ap₂ bit_xor (divide_bit-xor c d false false h k) (x16_xor a b)
    ∙ xor_swap (divide_bit c false) (divide_bit d false) (bit a * x16) (bit b * x16)
    ∙ sym (ap₂ bit_xor (register_bit_is c a h) (register_bit_is d b k))

pub register-lt : (c : ℕ) (l : Bits) → c < 2 ^ 16 → register c l < 2 ^ 16
unfolding register
register-lt c [] h = h
register-lt c (b ∷ l) h = register-lt (register_bit c b) l (register_bit-lt b h)

pub register-append : (c : ℕ) (l m : Bits) → register c (l ++ m) ≡ register (register c l) m
unfolding register
register-append c [] m = refl
register-append c (b ∷ l) m = register-append (register_bit c b) l m

pub register-xor : (c d : ℕ) (l m : Bits) → c < 2 ^ 16 → d < 2 ^ 16 → length l ≡ length m
    → register (bit_xor c d) (xor_bits l m) ≡ bit_xor (register c l) (register d m)
unfolding register xor_bits
register-xor c d [] [] h k e = refl
register-xor c d [] (b ∷ m) h k e = absurd (omega arith)
register-xor c d (a ∷ l) [] h k e = absurd (omega arith)
register-xor c d (a ∷ l) (b ∷ m) h k e =
    ap (λ (x : ℕ). register x (xor_bits l m)) (register_bit-xor c d a b h k)
    ∙ register-xor (register_bit c a) (register_bit d b) l m (register_bit-lt a h) (register_bit-lt b k) (omega arith)

-- ---- the register is 16 zeros ahead of the division

abbrev ahead : ℕ → ℕ
ahead r = divide r (zeros 16)

register_bit_ahead : (r : ℕ) (b : Bool) → r < 2 ^ 16 → register_bit (ahead r) b ≡ ahead (divide_bit r b)
unfolding xor_bits
register_bit_ahead r b h =
    register_bit_is (ahead r) b (divide-lt (zeros 16) h)
    ∙ ap (λ (x : ℕ). bit_xor (divide_bit (ahead r) false) x) (one b)
    ∙ sym (divide-xor (divide_bit r false) (bit b) (zeros 16) (zeros 16) (divide_bit-lt false h) (bit_small b) refl)
    ∙ ap ahead (sym (split r b h))
  where
    bit_small : (b : Bool) → bit b < 2 ^ 16
    bit_small false = lit< tt
    bit_small true = lit< tt

    one : (b : Bool) → bit b * x16 ≡ ahead (bit b)
    one false = refl
    one true = refl

    split : (r : ℕ) (b : Bool) → r < 2 ^ 16 → divide_bit r b ≡ bit_xor (divide_bit r false) (bit b)
    split r false k = sym (xor_zero_r (divide_bit r false))
    split r true k = ap (λ (x : ℕ). divide_bit x true) (sym (xor_zero_r r)) ∙ divide_bit-xor r 0 false true k (lit< tt)

register-divide : (r : ℕ) (l : Bits) → r < 2 ^ 16 → register (ahead r) l ≡ ahead (divide r l)
unfolding register
register-divide r [] h = refl
register-divide r (b ∷ l) h =
    ap (λ (x : ℕ). register x l) (register_bit_ahead r b h) ∙ register-divide (divide_bit r b) l (divide_bit-lt b h)

pub register-check : (l : Bits) → register 0 l ≡ check l
unfolding remainder check
register-check l = register-divide 0 l (lit< tt) ∙ sym (remainder-append l (zeros 16))

-- ---- bytes into the register

-- the bytes that are left
pub register-rest : (c : ℕ) (s : List ℕ) (i : ℕ) → register (register c (bits_of (take i s))) (bits_of (drop i s)) ≡ register c (bits_of s)
register-rest c s i =
    sym (register-append c (bits_of (take i s)) (bits_of (drop i s))) ∙ ap (register c) (sym (bits_of-append (take i s) (drop i s)))
    ∙ ap (λ (l : List ℕ). register c (bits_of l)) (take-append-drop i s)

-- a first byte
pub register-cons : (c x : ℕ) (s : List ℕ) → register (register c (binary 8 x)) (bits_of s) ≡ register c (bits_of (x ∷ s))
unfolding bits_of
register-cons c x s = sym (register-append c (binary 8 x) (bits_of s))

-- byte after byte
pub register_by_bytes : (c : ℕ) (s : List ℕ) → fold (λ r b. register r (binary 8 b)) c s ≡ register c (bits_of s)
unfolding register bits_of
register_by_bytes c [] = refl
register_by_bytes c (x ∷ s) = register_by_bytes (register c (binary 8 x)) s ∙ register-cons c x s
