-- Zero bits divided: they take the registers of 16 bits to one another one to one, and 0 to 0. So zero bits around a row do not
-- change whether it passes, and of the 16-bit patterns at a place exactly one leaves a given remainder. Assumes nothing.
use mathlib.Core.Path.{◌≡◌, refl, sym, ap, ◌∙◌}
use mathlib.Core.Logic.Iff
use mathlib.Core.Logic.{◌↔◌}
use mathlib.Core.Bool.{Bool, true, false}
use mathlib.Core.List.{◌++◌}
use Prim.Native.Nat.{ℕ, zero, suc, ◌/◌, ◌^◌, ◌<◌}
use native.Mathlib.Omega.{arith}
use lib.Bits.{xor_lt}
use lib.Dec.{lit<}
use Rattle.crc.specs.Bits.{Bits, zeros, binary}
use Rattle.crc.specs.Check.{divide_bit, divide, remainder, passes}
use Rattle.crc.specs.AnyPlace.{AnyPlace}
use Rattle.crc.proofs.Rows.{length-binary, number-binary}
use Rattle.crc.proofs.Linear.{divide_bit-lt, divide_bit-xor, divide-append, divide-zeros, remainder-lt, remainder-short, remainder-append}
use Rattle.crc.proofs.Division.{passes-remainder}
use Rattle.crc.proofs.Basis.{Term, reg, low, ◌>>◌, shl, ◌⊕◌, eval, eval_xor, by_basis}

-- ---- one zero bit undone

-- the register halved; to one that is odd, the generator's upper bits are added
abbrev halve : Term
halve = reg >> 1 ⊕ shl 16 (low reg 1) 15 ⊕ shl 16 (low reg 1) 11 ⊕ shl 16 (low reg 1) 4

abbrev halved : ℕ → ℕ
halved c = eval halve c 0

halved_lt : (c : ℕ) → c < 2 ^ 16 → halved c < 2 ^ 16
halved_lt c h =
    xor_lt 16 _ _ (xor_lt 16 _ _ (xor_lt 16 (c / 2 ^ 1) _ (omega arith) (omega arith)) (omega arith)) (omega arith)

divide_bit_halved : (c : ℕ) → c < 2 ^ 16 → divide_bit (halved c) false ≡ c
divide_bit_halved =
    by_basis (λ c. divide_bit (halved c) false) (λ c. c) 16
    (λ a b i j. ap (λ (x : ℕ). divide_bit x false) (eval_xor halve a b 0 0) ∙ divide_bit-xor (halved a) (halved b) false false (halved_lt a i) (halved_lt b j))
    (λ a b i j. refl) tt

halved_divide_bit : (c : ℕ) → c < 2 ^ 16 → halved (divide_bit c false) ≡ c
halved_divide_bit =
    by_basis (λ c. halved (divide_bit c false)) (λ c. c) 16
    (λ a b i j. ap halved (divide_bit-xor a b false false i j) ∙ eval_xor halve (divide_bit a false) (divide_bit b false) 0 0)
    (λ a b i j. refl) tt

-- ---- any number of them

-- the register that leaves r with j zero bits behind it
abbrev pub leaving : ℕ → ℕ → ℕ
leaving r zero = r
leaving r (suc j) = halved (leaving r j)

pub leaving_lt : (r j : ℕ) → r < 2 ^ 16 → leaving r j < 2 ^ 16
leaving_lt r zero h = h
leaving_lt r (suc j) h = halved_lt (leaving r j) (leaving_lt r j h)

pub divide_leaving : (r j : ℕ) → r < 2 ^ 16 → divide (leaving r j) (zeros j) ≡ r
divide_leaving r zero h = refl
divide_leaving r (suc j) h =
    ap (λ (c : ℕ). divide c (zeros j)) (divide_bit_halved (leaving r j) (leaving_lt r j h)) ∙ divide_leaving r j h

-- no other does
pub leaving_divide : (c j : ℕ) → c < 2 ^ 16 → leaving (divide c (zeros j)) j ≡ c
leaving_divide c zero h = refl
leaving_divide c (suc j) h = ap halved (leaving_divide (divide_bit c false) j (divide_bit-lt false h)) ∙ halved_divide_bit c h

-- so division over zero bits is one to one
pub divide-zeros_same : (c d j : ℕ) → c < 2 ^ 16 → d < 2 ^ 16 → divide c (zeros j) ≡ divide d (zeros j) → c ≡ d
divide-zeros_same c d j h k e = sym (leaving_divide c j h) ∙ ap (λ (r : ℕ). leaving r j) e ∙ leaving_divide d j k

-- ---- a row with zero bits around it

pub remainder_around : (i j : ℕ) (e : Bits) → remainder (zeros i ++ (e ++ zeros j)) ≡ divide (remainder e) (zeros j)
unfolding remainder
remainder_around i j e =
    divide-append 0 (zeros i) (e ++ zeros j) ∙ ap (λ (c : ℕ). divide c (e ++ zeros j)) (divide-zeros i) ∙ remainder-append e (zeros j)

no_remainder : (i j : ℕ) (e : Bits) → (remainder (zeros i ++ (e ++ zeros j)) ≡ 0) ↔ (remainder e ≡ 0)
no_remainder i j e = (
  λ z. divide-zeros_same (remainder e) 0 j (remainder-lt e) (lit< tt) (sym (remainder_around i j e) ∙ z ∙ sym (divide-zeros j)),
  λ z. remainder_around i j e ∙ ap (λ (c : ℕ). divide c (zeros j)) z ∙ divide-zeros j,
)

same_truth : (a b : Bool) → (a ≡ true) ↔ (b ≡ true) → a ≡ b
same_truth true b h = sym (h.0 refl)
same_truth false true h = h.1 refl
same_truth false false h = refl

pub any_place : AnyPlace
any_place = record {
  no_remainder = no_remainder;
  same_verdict = λ i j e.
      let l : Bits = zeros i ++ (e ++ zeros j) in
      same_truth (passes l) (passes e)
      (Iff.trans (passes-remainder l) (Iff.trans (no_remainder i j e) (Iff.symm (passes-remainder e))));
}

-- ---- 16 bits at a place: one pattern leaves r, and no other

pub remainder_16 : (i j q : ℕ) → q < 2 ^ 16 → remainder (zeros i ++ (binary 16 q ++ zeros j)) ≡ divide q (zeros j)
remainder_16 i j q h =
    remainder_around i j (binary 16 q)
    ∙ ap (λ (c : ℕ). divide c (zeros j)) (remainder-short (binary 16 q) (omega (arith, length-binary 16 q)) ∙ number-binary 16 q h)

pub one_leaves : (i j r q : ℕ) → r < 2 ^ 16 → q < 2 ^ 16 → (remainder (zeros i ++ (binary 16 q ++ zeros j)) ≡ r) ↔ (q ≡ leaving r j)
one_leaves i j r q h k = (
  λ e. sym (leaving_divide q j k) ∙ ap (λ (x : ℕ). leaving x j) (sym (remainder_16 i j q k) ∙ e),
  λ e. remainder_16 i j q k ∙ ap (λ (x : ℕ). divide x (zeros j)) e ∙ divide_leaving r j h,
)
