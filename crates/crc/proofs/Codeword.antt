-- A row's check bits, and rows with check bits behind them. Assumes nothing.
use mathlib.Core.Path.{◌≡◌, sym, ap, ap₂, ◌∙◌, subst}
use mathlib.Core.Logic.{◌↔◌}
use mathlib.Core.Bool.{true}
use mathlib.Core.List.{◌++◌}
use Prim.Native.Nat.{ℕ, ◌*◌, ◌^◌, ◌<◌}
use native.Mathlib.Omega.{arith}
use lib.Bits.{bit_xor, xor_self, xor_zero_r}
use lib.Dec.{lit<}
use lib.ListN.{length}
use Rattle.crc.specs.Bits.{Bits, zeros, binary, number, number_from, xor_bits}
use Rattle.crc.specs.Polynomial.{polynomial, Remainder}
use Rattle.crc.specs.Check.{divide, remainder, passes, check}
use Rattle.crc.proofs.Rows.{length-binary, number-binary, number_from-append, number_from-zeros, xor_bits_comm, xor_bits-zeros}
use Rattle.crc.proofs.Linear.{divide-xor, remainder-lt, remainder-short, remainder-append}
use Rattle.crc.proofs.Division.{remainder_is, passes-remainder}
use Rattle.crc.proofs.Zeros.{any_place}

pub check-lt : (l : Bits) → check l < 2 ^ 16
unfolding check
check-lt l = remainder-lt (l ++ zeros 16)

pub check_is : (l : Bits) → Remainder (polynomial l * 2 ^ 16) (check l)
unfolding check number
check_is l =
    subst (λ (x : ℕ). Remainder x (check l)) (number_from-append 0 l (zeros 16) ∙ number_from-zeros (number_from 0 l) 16) (remainder_is (l ++ zeros 16))

-- the register, taken 16 zeros further
pub check-divide : (l : Bits) → check l ≡ divide (remainder l) (zeros 16)
unfolding check
check-divide l = remainder-append l (zeros 16)

pub remainder_behind : (l t : Bits) → length t ≡ 16 → remainder (l ++ t) ≡ bit_xor (check l) (number t)
unfolding remainder
remainder_behind l t h =
    let z : xor_bits (zeros 16) t ≡ t = ap (λ (n : ℕ). xor_bits (zeros n) t) (sym h) ∙ xor_bits_comm (zeros (length t)) t ∙ xor_bits-zeros t in
    remainder-append l t
    ∙ ap₂ divide (sym (xor_zero_r (remainder l))) (sym z)
    ∙ divide-xor (remainder l) 0 (zeros 16) t (remainder-lt l) (lit< tt) (sym h)
    ∙ ap₂ bit_xor (sym (check-divide l)) (remainder-short t (omega arith))

pub remainder_checked : (l : Bits) → remainder (l ++ binary 16 (check l)) ≡ 0
remainder_checked l =
    remainder_behind l (binary 16 (check l)) (length-binary 16 (check l))
    ∙ ap (bit_xor (check l)) (number-binary 16 (check l) (check-lt l)) ∙ xor_self (check l)

pub passes_checked : (l : Bits) → passes (l ++ binary 16 (check l)) ≡ true
passes_checked l = (passes-remainder (l ++ binary 16 (check l))).1 (remainder_checked l)

-- a row's check bits are zero exactly where its remainder is
pub check-zero : (l : Bits) → (check l ≡ 0) ↔ (remainder l ≡ 0)
unfolding check
check-zero = any_place.no_remainder 0 16

pub passes-check : (l : Bits) → (passes l ≡ true) ↔ (check l ≡ 0)
passes-check l =
    (λ e. (check-zero l).1 ((passes-remainder l).0 e), λ z. (passes-remainder l).1 ((check-zero l).0 z))
