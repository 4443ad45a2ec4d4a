-- How many ones a row has: of rows put together, of zeros, and of a number's binary digits. Assumes nothing.
use Rattle.std.proofs.Common.{◌≡◌, ℕ, zero, suc, ◌+◌, ◌*◌, ◌/◌, ◌%◌, ◌^◌, ◌<◌, ◌≤◌, [], ◌∷◌, ◌++◌, length, sym, refl, ap, ◌∙◌, ap₂, add-zero, add_assoc, add_comm, pow-suc, add-one, arith}
use lib.Count as Count
use Rattle.crc.specs.Bits.{Bits, zeros, bit, odd, binary}
use Rattle.crc.proofs.Rows.{bit-lt, bit-odd, binary_split}
use Rattle.noise.specs.Load.{ones}

pub ones-append : (x y : Bits) → ones (x ++ y) ≡ ones x + ones y
ones-append [] y = omega arith
ones-append (b ∷ x) y = ap (λ (n : ℕ). bit b + n) (ones-append x y) ∙ sym (add_assoc (bit b) (ones x) (ones y))

pub ones-zeros : (n : ℕ) → ones (zeros n) ≡ 0
ones-zeros zero = refl
ones-zeros (suc n) = omega (arith, ones-zeros n)

-- the lowest digit
ones_low : (n : ℕ) → ones (binary 1 n) ≡ n % 2
unfolding binary
ones_low n = let e : n / 1 % 2 ≡ n % 2 = omega arith in add-zero (bit (odd (n / 1))) ∙ bit-odd (n / 1) ∙ e

-- as the machine counts them
pub ones-binary : (w n : ℕ) → n < 2 ^ w → ones (binary w n) ≡ Count.ones n
unfolding binary
ones-binary zero n h = omega (arith, Count.ones-le 0 n h)
ones-binary (suc w) n h =
    let e : 2 ^ suc w ≡ 2 ^ w * 2 = pow-suc 2 w in
    let b : n / 2 < 2 ^ w = omega arith in
    ap (λ (x : ℕ). ones (binary x n)) (sym (add-one w)) ∙ ap ones (binary_split w 1 n) ∙ ones-append (binary w (n / 2)) (binary 1 n)
    ∙ ap₂ (λ (x y : ℕ). x + y) (ones-binary w (n / 2) b) (ones_low n)
    ∙ add_comm (Count.ones (n / 2)) (n % 2) ∙ sym (Count.ones_step n)

pub ones-le : (l : Bits) → ones l ≤ length l
ones-le [] = omega arith
ones-le (b ∷ l) = omega (arith, bit-lt b, ones-le l)
