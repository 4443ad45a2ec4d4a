-- The first bits of a word as a word of their own, zeros in front, the register added to the first sixteen. Assumes nothing.
use mathlib.Core.Path.{◌≡◌, sym, ap, ap₂, ◌∙◌}
use mathlib.Core.List.{◌++◌}
use Prim.Native.Nat.{ℕ, ◌+◌, ◌*◌, ◌/◌, ◌%◌, ◌^◌, ◌<◌}
use native.Mathlib.Nat.{add-zero, add_comm, le_refl}
use native.Mathlib.Omega.{arith}
use lib.Bits.{bit_xor, xor_lt, xor_shr, xor_mod, xor_zero_r}
use lib.Dec.{lit<}
use lib.ListN.{take}
use lib.Pow.{low, shr-shr, shl_exact, shl-shr}
use lib.Seq.{take-append-add}
use Rattle.crc.specs.Bits.{Bits, binary}
use Rattle.crc.specs.Check.{register}
use Rattle.crc.proofs.Rows.{length-binary, binary-zero, binary-mod, binary_split, take-binary}
use Rattle.crc.proofs.Register.{register-append}
use Rattle.crc.proofs.Words.{register-zeros_front}
use Rattle.crc.proofs.Basis.{by_basis, register-binary-xor}

-- the first n bits alone, moved to the end
register_first : (w n t : ℕ) → w < 2 ^ 64 → n + t ≡ 64 → register 0 (binary 64 (w / 2 ^ t)) ≡ register 0 (take n (binary 64 w))
register_first w n t h e =
    let z : w / 2 ^ t / 2 ^ n ≡ 0 = shr-shr w t n ∙ ap (λ (x : ℕ). w / 2 ^ x) (add_comm t n ∙ e) ∙ none in
    ap (λ (x : ℕ). register 0 (binary x (w / 2 ^ t))) (sym (add_comm t n ∙ e))
    ∙ ap (register 0) (binary_split t n (w / 2 ^ t) ∙ ap (λ (l : Bits). l ++ binary n (w / 2 ^ t)) (ap (binary t) z ∙ binary-zero t))
    ∙ register-zeros_front t (binary n (w / 2 ^ t))
    ∙ ap (register 0) (sym (take-binary n t w) ∙ ap (λ (x : ℕ). take n (binary x w)) e)
  where
    none : w / 2 ^ 64 ≡ 0
    none = omega arith

-- a word with the register added in front
module _ (c w : ℕ) (h : c < 2 ^ 16) where
  abbrev added : ℕ
  added = bit_xor w (c * 2 ^ 48 % 2 ^ 64)

  exact : c * 2 ^ 48 % 2 ^ 64 ≡ c * 2 ^ 48
  exact = shl_exact 16 48 64 h (le_refl 64)

  added_high : added / 2 ^ 48 ≡ bit_xor (w / 2 ^ 48) c
  added_high =
      xor_shr w (c * 2 ^ 48 % 2 ^ 64) 48 ∙ ap (λ (x : ℕ). bit_xor (w / 2 ^ 48) (x / 2 ^ 48)) exact
      ∙ ap (bit_xor (w / 2 ^ 48)) (shl-shr c 48)

  added_low : binary 48 added ≡ binary 48 w
  added_low =
      sym (binary-mod 48 added)
      ∙ ap (binary 48)
      (xor_mod w (c * 2 ^ 48 % 2 ^ 64) 48
      ∙ ap (bit_xor (w % 2 ^ 48)) (ap (λ (x : ℕ). x % 2 ^ 48) (exact ∙ sym (add-zero (c * 2 ^ 48))) ∙ low c 48 {lo = 0} (lit< tt))
      ∙ xor_zero_r (w % 2 ^ 48))
      ∙ binary-mod 48 w

  added_lt : w < 2 ^ 64 → added < 2 ^ 64
  added_lt l = xor_lt 64 w (c * 2 ^ 48 % 2 ^ 64) l (omega arith)

-- sixteen zeros take the register to where its bits take it from zero
register_in : (c : ℕ) → c < 2 ^ 16 → register c (binary 16 0) ≡ register 0 (binary 16 c)
unfolding register binary
register_in =
    by_basis (λ c. register c (binary 16 0)) (λ c. register 0 (binary 16 c)) 16 (λ a b x y. register-binary-xor 16 a b 0 0 x y)
    (λ a b x y. register-binary-xor 16 0 0 a b (lit< tt) (lit< tt)) tt

register_added : (c w : ℕ) → c < 2 ^ 16 → register 0 (binary 16 (bit_xor w c)) ≡ register c (binary 16 w)
register_added c w h =
    register-binary-xor 16 0 0 w c (lit< tt) (lit< tt) ∙ ap (bit_xor (register 0 (binary 16 w))) (sym (register_in c h))
    ∙ sym (register-binary-xor 16 0 c w 0 (lit< tt) h) ∙ ap (λ (x : ℕ). register c (binary 16 x)) (xor_zero_r w)

-- the first bits of a word in two parts
take_parts : (w m : ℕ) → take (16 + m) (binary 64 w) ≡ binary 16 (w / 2 ^ 48) ++ take m (binary 48 w)
take_parts w m =
    ap₂ take (ap (λ (n : ℕ). n + m) (sym (length-binary 16 (w / 2 ^ 48)))) (binary_split 16 48 w)
    ∙ take-append-add (binary 16 (w / 2 ^ 48)) (binary 48 w) m

pub register_head : (c w m t : ℕ) → c < 2 ^ 16 → w < 2 ^ 64 → (16 + m) + t ≡ 64
    → register 0 (binary 64 (bit_xor w (c * 2 ^ 48 % 2 ^ 64) / 2 ^ t)) ≡ register c (take (16 + m) (binary 64 w))
register_head c w m t h l e =
    let a : ℕ = added c w h in
    let rest : Bits = take m (binary 48 w) in
    register_first a (16 + m) t (added_lt c w h l) e
    ∙ ap (register 0)
    (take_parts a m ∙ ap₂ (λ (x : ℕ) (y : Bits). binary 16 x ++ take m y) (added_high c w h) (added_low c w h))
    ∙ register-append 0 (binary 16 (bit_xor (w / 2 ^ 48) c)) rest
    ∙ ap (λ (x : ℕ). register x rest) (register_added c (w / 2 ^ 48) h)
    ∙ sym (register-append c (binary 16 (w / 2 ^ 48)) rest) ∙ ap (register c) (sym (take_parts w m))
