-- Terms of shifts, masks and sums, such as the code's, are linear; and two linear functions that agree on the powers of
-- two agree everywhere. So that a term feeds the register is a test that antt computes. Assumes nothing.
use mathlib.Core.Path.{◌≡◌, refl, sym, ap, ap₂, ◌∙◌, subst}
use mathlib.Core.Bool.{Bool, true, false, ◌&&◌}
use Prim.Native.Nat.{ℕ, zero, suc, ◌+◌, ◌-◌, ◌*◌, ◌/◌, ◌%◌, ◌^◌, ◌<◌}
use native.Mathlib.Nat.{mod-lt, pow-suc, one-mul}
use native.Mathlib.Numerals.{one-add}
use native.Mathlib.Omega.{arith}
use lib.Arith.{lt-one}
use lib.Bits.{bit_xor, bit_and, xor_shr, xor_mod, xor_shifted, xor_zero_r, and_mask}
use lib.Dec.{T, eqb, eqb→eq, lit<}
use lib.Pow.{pow_pos, split, shr_lt}
use Rattle.crc.specs.Bits.{binary}
use Rattle.crc.specs.Check.{register}
use Rattle.crc.proofs.Xor.{xor_swap, xor_shl}
use Rattle.crc.proofs.Rows.{binary-xor, length-binary}
use Rattle.crc.proofs.Register.{register-xor}

infixl 60 ◌⊕◌
infixl 50 ◌into◌
infixl 70 ◌>>◌
-- ---- linear functions

-- f takes sums to sums, below 2^k
abbrev pub Additive : ℕ → (ℕ → ℕ) → Type 0
Additive k f = (a b : ℕ) → a < 2 ^ k → b < 2 ^ k → f (bit_xor a b) ≡ bit_xor (f a) (f b)

-- f and h agree at 0 and at the k lowest powers of two
abbrev pub same_on : (ℕ → ℕ) → (ℕ → ℕ) → ℕ → Bool
same_on f h zero = eqb (f 0) (h 0)
same_on f h (suc k) = eqb (f (2 ^ k)) (h (2 ^ k)) && same_on f h k

pub and_left : (a b : Bool) → T (a && b) → T a
and_left true b t = tt
and_left false b t = t

pub and_right : (a b : Bool) → T (a && b) → T b
and_right true b t = t
and_right false b t = absurd t

half_lt : {n : ℕ} (k : ℕ) → n < 2 ^ k → n < 2 ^ suc k
half_lt {n} k h = rw pow-suc (omega arith)

-- what holds of the digits below holds with one more
module _ (f h : ℕ → ℕ) (k : ℕ) (p : Additive (suc k) f) (q : Additive (suc k) h) (e : f (2 ^ k) ≡ h (2 ^ k)) where
  with_top : (d r : ℕ) → d < 2 → r < 2 ^ k → f r ≡ h r → f (d * 2 ^ k + r) ≡ h (d * 2 ^ k + r)
  with_top zero r u v g = let z : r ≡ 0 * 2 ^ k + r = omega arith in subst (λ (x : ℕ). f x ≡ h x) z g
  with_top (suc zero) r u v g =
      let o : 1 * 2 ^ k < 2 ^ suc k = rw pow-suc (omega (arith, pow_pos k)) in
      let i : 1 * 2 ^ k ≡ 2 ^ k = one-mul (2 ^ k) in
      subst (λ (x : ℕ). f x ≡ h x) (xor_shifted 1 k r v)
      (p (1 * 2 ^ k) r o (half_lt k v) ∙ ap₂ bit_xor (ap f i ∙ e ∙ ap h (sym i)) g ∙ sym (q (1 * 2 ^ k) r o (half_lt k v)))
  with_top (suc (suc d)) r u v g = absurd (omega arith)

pub by_basis : (f h : ℕ → ℕ) (k : ℕ) → Additive k f → Additive k h → T (same_on f h k) → (n : ℕ) → n < 2 ^ k → f n ≡ h n
by_basis f h zero p q t n l = ap f (lt-one l) ∙ eqb→eq (f 0) (h 0) t ∙ ap h (sym (lt-one l))
by_basis f h (suc k) p q t n l =
    subst (λ (x : ℕ). f x ≡ h x) (split n k)
    (with_top f h k p q (eqb→eq (f (2 ^ k)) (h (2 ^ k)) (and_left (eqb (f (2 ^ k)) (h (2 ^ k))) (same_on f h k) t)) (n / 2 ^ k) (n % 2 ^ k)
    (shr_lt 1 k (subst (λ (x : ℕ). n < 2 ^ x) (sym (one-add k)) l)) (mod-lt n (pow_pos k))
    (by_basis f h k (λ a b x y. p a b (half_lt k x) (half_lt k y)) (λ a b x y. q a b (half_lt k x) (half_lt k y))
    (and_right (eqb (f (2 ^ k)) (h (2 ^ k))) (same_on f h k) t) (n % 2 ^ k) (mod-lt n (pow_pos k))))

-- ---- terms over two numbers, the register and the new bits

pub data Term : Type 0 where
  reg : Term
  new : Term
  ◌>>◌ : Term → ℕ → Term
  -- shifted to the left within a width
  shl : ℕ → Term → ℕ → Term
  -- the lowest bits
  low : Term → ℕ → Term
  ◌⊕◌ : Term → Term → Term
  -- the first term's value as the second's register
  ◌into◌ : Term → Term → Term

abbrev pub eval : Term → ℕ → ℕ → ℕ
eval reg c b = c
eval new c b = b
eval (e >> k) c b = eval e c b / 2 ^ k
eval (shl w e k) c b = (eval e c b * 2 ^ k) % 2 ^ w
eval (low e k) c b = bit_and (eval e c b) (2 ^ k - 1)
eval (e ⊕ f) c b = bit_xor (eval e c b) (eval f c b)
eval (e into f) c b = eval f (eval e c b) b

pub eval_xor : (e : Term) (c d a b : ℕ) → eval e (bit_xor c d) (bit_xor a b) ≡ bit_xor (eval e c a) (eval e d b)
eval_xor reg c d a b = refl
eval_xor new c d a b = refl
eval_xor (e >> k) c d a b = ap (λ (x : ℕ). x / 2 ^ k) (eval_xor e c d a b) ∙ xor_shr (eval e c a) (eval e d b) k
eval_xor (shl w e k) c d a b =
    ap (λ (x : ℕ). (x * 2 ^ k) % 2 ^ w) (eval_xor e c d a b) ∙ ap (λ (x : ℕ). x % 2 ^ w) (sym (xor_shl (eval e c a) (eval e d b) k))
    ∙ xor_mod (eval e c a * 2 ^ k) (eval e d b * 2 ^ k) w
eval_xor (low e k) c d a b =
    ap (λ (x : ℕ). bit_and x (2 ^ k - 1)) (eval_xor e c d a b) ∙ and_mask (bit_xor (eval e c a) (eval e d b)) k
    ∙ xor_mod (eval e c a) (eval e d b) k ∙ sym (ap₂ bit_xor (and_mask (eval e c a) k) (and_mask (eval e d b) k))
eval_xor (e ⊕ f) c d a b =
    ap₂ bit_xor (eval_xor e c d a b) (eval_xor f c d a b) ∙ xor_swap (eval e c a) (eval e d b) (eval f c a) (eval f d b)
eval_xor (e into f) c d a b =
    ap (λ (x : ℕ). eval f x (bit_xor a b)) (eval_xor e c d a b) ∙ eval_xor f (eval e c a) (eval e d b) a b

pub register-binary-xor : (m c d a b : ℕ) → c < 2 ^ 16 → d < 2 ^ 16
    → register (bit_xor c d) (binary m (bit_xor a b)) ≡ bit_xor (register c (binary m a)) (register d (binary m b))
register-binary-xor m c d a b h k =
    ap (register (bit_xor c d)) (binary-xor m a b)
    ∙ register-xor c d (binary m a) (binary m b) h k (length-binary m a ∙ sym (length-binary m b))

-- a term that feeds the m lowest bits of a number of w bits
feeds : (e : Term) (m w : ℕ) → T (same_on (λ c. eval e c 0) (λ c. register c (binary m 0)) 16)
    → T (same_on (eval e 0) (λ b. register 0 (binary m b)) w)
    → (c b : ℕ) → c < 2 ^ 16 → b < 2 ^ w → eval e c b ≡ register c (binary m b)
feeds e m w s t c b h k =
    ap (λ (x : ℕ). eval e x b) (sym (xor_zero_r c)) ∙ eval_xor e c 0 0 b
    ∙ ap₂ bit_xor
    (by_basis (λ c. eval e c 0) (λ c. register c (binary m 0)) 16 (λ a b x y. eval_xor e a b 0 0) (λ a b x y. register-binary-xor m a b 0 0 x y) s c h)
    (by_basis (eval e 0) (λ b. register 0 (binary m b)) w (λ a b x y. eval_xor e 0 0 a b)
    (λ a b x y. register-binary-xor m 0 0 a b (lit< tt) (lit< tt)) t b k)
    ∙ sym (register-binary-xor m c 0 0 b h (lit< tt)) ∙ ap (λ (x : ℕ). register x (binary m b)) (xor_zero_r c)

-- ---- the terms of src/

abbrev nibble_in : Term
nibble_in = reg >> 12 ⊕ low new 4

abbrev nibble_term : Term
nibble_term = shl 16 reg 4 ⊕ nibble_in ⊕ shl 16 nibble_in 5 ⊕ shl 16 nibble_in 12

pub nibble_feeds : (c b : ℕ) → c < 2 ^ 16 → b < 2 ^ 8 → eval nibble_term c b ≡ register c (binary 4 b)
unfolding register binary
nibble_feeds = feeds nibble_term 4 8 tt tt

abbrev byte_top : Term
byte_top = reg >> 8 ⊕ new

abbrev byte_in : Term
byte_in = byte_top ⊕ byte_top >> 4

abbrev byte_term : Term
byte_term = shl 16 reg 8 ⊕ shl 16 byte_in 12 ⊕ shl 16 byte_in 5 ⊕ byte_in

pub byte_feeds : (c b : ℕ) → c < 2 ^ 16 → b < 2 ^ 8 → eval byte_term c b ≡ register c (binary 8 b)
unfolding register binary
byte_feeds = feeds byte_term 8 8 tt tt

-- the quotient by the generator, from its powers 8, 4, 2 and 1, and then what it leaves
abbrev pub word_sum : Term
word_sum =
    new ⊕ shl 64 reg 48
    into reg ⊕ reg >> 32
    into reg ⊕ reg >> 16 ⊕ reg >> 44
    into reg ⊕ reg >> 8 ⊕ reg >> 22 ⊕ reg >> 32
    into reg ⊕ reg >> 4 ⊕ reg >> 11 ⊕ reg >> 16
    into reg ⊕ shl 64 reg 5 ⊕ shl 64 reg 12

pub word_feeds : (c b : ℕ) → c < 2 ^ 16 → b < 2 ^ 64 → eval (low word_sum 16) c b ≡ register c (binary 64 b)
unfolding register binary
word_feeds = feeds (low word_sum 16) 64 64 tt tt
