-- Laws of a search's window: a bit of a slice, and at most 15 bits as a number. Assumes nothing.
use mathlib.Core.Path.{◌≡◌, refl, sym, ap, ap₂, ◌∙◌, subst}
use mathlib.Core.Bool.{Bool, true, false, ◌&&◌}
use mathlib.Core.List.{List, [], ◌∷◌, ◌++◌, append-nil}
use Prim.Native.Nat.{ℕ, zero, suc, ◌+◌, ◌-◌, ◌*◌, ◌/◌, ◌%◌, ◌^◌, ◌≤◌, ◌<◌}
use native.Mathlib.Nat.{add-zero}
use native.Mathlib.Omega.{arith}
use borrow.Author.Tests.{ne_eqb}
use lib.Bits.{bit_or, bit_and, or_shifted, and_mask}
use Rattle.std.specs.Int.{w16, to_be_bytes, from_be_bytes}
use Rattle.std.proofs.lemmas.Nat.{be_bytes_2}
use lib.Dec.{eqb, lit<}
use lib.ListN.{length, take, drop, get_or, get_or-append}
use lib.Pow.{pow_pos, pow_mono, shl_exact, shl_lt, shr_lt}
use lib.Seq.{get_or-drop, drop-cons}
use mir.Val.{bool_byte}
use Rattle.crc.specs.Bits.{Bits, bit, odd, binary, number, bits_of, bytes_of}
use Rattle.crc.proofs.Rows.{bit-lt, length-binary, number-binary, number_append, binary-mod, binary_join, take-binary, drop-binary, binary-zero}
use Rattle.crc.proofs.Bytes.{drop-bits_of, bytes_of-bits_of, bytes_of-zeros}
use Rattle.block.specs.Block.{sync_sequence}
use Rattle.line.specs.Receiving.{latest, is_sequence}

-- ---- a bit of a slice

get_d_binary : (w n i : ℕ) → i < w → get_or (binary w n) i false ≡ odd (n / 2 ^ (w - 1 - i))
unfolding binary
get_d_binary zero n i h = absurd (omega arith)
get_d_binary (suc w) n zero h = let e : w ≡ suc w - 1 - 0 = omega arith in ap (λ (k : ℕ). odd (n / 2 ^ k)) e
get_d_binary (suc w) n (suc i) h =
    let e : w - 1 - i ≡ suc w - 1 - suc i = omega arith in
    get_d_binary w n i (omega arith) ∙ ap (λ (k : ℕ). odd (n / 2 ^ k)) e

pub get_d_bits_of : (s : List ℕ) (i : ℕ) → i < 8 * length s → get_or (bits_of s) i false ≡ odd (get_or s (i / 8) 0 / 2 ^ (7 - i % 8))
unfolding bits_of
get_d_bits_of s i h =
    let q : ℕ = i / 8 in
    let r : ℕ = i % 8 in
    let x : ℕ = get_or s q 0 in
    let e : i ≡ 8 * q + r = omega arith in
    let l : q < length s = omega arith in
    let n : r < length (binary 8 x) = omega (arith, length-binary 8 x) in
    let f : 8 - 1 - r ≡ 7 - r = omega arith in
    ap (λ (k : ℕ). get_or (bits_of s) k false) e ∙ sym (get_or-drop (8 * q) (bits_of s) r false)
    ∙ ap (λ (b : Bits). get_or b r false) (drop-bits_of q s ∙ ap bits_of (drop-cons s q 0 l))
    ∙ get_or-append (binary 8 x) (bits_of (drop (suc q) s)) false r n ∙ get_d_binary 8 x r (omega arith)
    ∙ ap (λ (k : ℕ). odd (x / 2 ^ k)) f

pub masked_odd : (n : ℕ) → eqb (bit_and n 1) 1 ≡ odd n
masked_odd n = ap (λ (k : ℕ). eqb k 1) (and_mask n 1)

-- ---- one bit more

pub bool_bit : (b : Bool) → bool_byte b ≡ bit b
bool_bit false = refl
bool_bit true = refl

one_bit : (b : Bool) → binary 1 (bit b) ≡ b ∷ []
unfolding binary
one_bit false = refl
one_bit true = refl

number_bit : (b : Bool) → number (b ∷ []) ≡ bit b
unfolding number
number_bit false = refl
number_bit true = refl

module _ (held n : ℕ) (h : held ≤ 15) (l : n < 2 ^ held) (b : Bool) where
  small : n < 2 ^ 15
  small = less n (2 ^ held) (2 ^ 15) l (pow_mono h)
    where
      less : (n p q : ℕ) → n < p → p ≤ q → n < q
      less n p q a c = omega arith

  pub shifted : bit_or ((n * 2) % 65536) (bool_byte b) ≡ n * 2 + bit b
  shifted =
      let e : (n * 2) % 65536 ≡ n * 2 = shl_exact 15 1 16 small (omega arith) in
      ap₂ (λ (x y : ℕ). bit_or x y) e (bool_bit b) ∙ or_shifted n 1 (bit b) (bit-lt b)

  pub window_more : binary held n ++ (b ∷ []) ≡ binary (held + 1) (n * 2 + bit b)
  window_more = sym (binary_join held 1 n (bit b) (bit-lt b) ∙ ap (λ (r : Bits). binary held n ++ r) (one_bit b))

  length_more : length (binary held n ++ (b ∷ [])) ≡ held + 1
  length_more = ap length window_more ∙ length-binary (held + 1) (n * 2 + bit b)

  pub no_sequence : held < 15 → false ≡ is_sequence (binary held n ++ (b ∷ []))
  no_sequence k =
      let e : length (binary held n ++ (b ∷ [])) ≡ 16 → ⊥ = λ q. absurd (omega (arith, length_more)) in
      sym (rw (ne_eqb (length (binary held n ++ (b ∷ []))) 16 e))

  pub latest_more : held < 15 → binary (held + 1) (n * 2 + bit b) ≡ latest (binary held n ++ (b ∷ []))
  latest_more k =
      let e : 0 ≡ length (binary held n ++ (b ∷ [])) - 15 = omega (arith, length_more) in
      sym window_more ∙ ap (λ (m : ℕ). drop m (binary held n ++ (b ∷ []))) e

-- sixteen bits
module _ (held n : ℕ) (full : held ≡ 15) (l : n < 2 ^ held) (b : Bool) where
  within : held ≤ 15
  within = omega arith

  pub sequence : eqb (n * 2 + bit b) (number sync_sequence) ≡ is_sequence (binary held n ++ (b ∷ []))
  sequence =
      let e : length (binary held n ++ (b ∷ [])) ≡ 16 = omega (arith, length_more held n within l b) in
      sym
      (ap₂ (λ (x y : ℕ). eqb x 16 && eqb y (number sync_sequence)) e
      (number_append (binary held n) (b ∷ []) ∙ ap₂ (λ (x y : ℕ). x * 2 + y) (number-binary held n l) (number_bit b)))

  pub latest_full : binary 15 (bit_and (n * 2 + bit b) 32767) ≡ latest (binary held n ++ (b ∷ []))
  latest_full =
      let x : ℕ = n * 2 + bit b in
      let e : 1 ≡ length (binary held n ++ (b ∷ [])) - 15 = omega (arith, length_more held n within l b) in
      let w : 1 + 15 ≡ held + 1 = omega arith in
      ap (binary 15) (and_mask x 15) ∙ binary-mod 15 x ∙ sym (drop-binary 1 15 x) ∙ ap (λ (v : ℕ). drop 1 (binary v x)) w
      ∙ ap (drop 1) (sym (window_more held n within l b)) ∙ ap (λ (k : ℕ). drop k (binary held n ++ (b ∷ []))) e

-- ---- two bytes

two_bytes : (a b : ℕ) → b < 256 → binary 16 (a * 256 + b) ≡ binary 8 a ++ binary 8 b
two_bytes a b h = binary_join 8 8 a b h

bits_of-two : (x : ℕ) → x < 65536 → bits_of (to_be_bytes w16 x) ≡ binary 16 x
unfolding bits_of
bits_of-two x h =
    let e : x / 256 % 256 * 256 + x % 256 ≡ x = omega arith in
    ap (λ (r : Bits). binary 8 (x / 256 % 256) ++ r) (append-nil (binary 8 (x % 256)))
    ∙ sym (two_bytes (x / 256 % 256) (x % 256) (omega arith)) ∙ ap (binary 16) e

module _ (held : ℕ) (h : held ≤ 15) where
  both : held + (16 - held) ≡ 16
  both = omega arith

  module _ (x : ℕ) (hx : x < 65536) where
    pub loaded_lt : x / 2 ^ (16 - held) < 2 ^ held
    loaded_lt = shr_lt held (16 - held) (subst (λ (w : ℕ). x < 2 ^ w) (sym both) hx)

    pub loaded_bits : (pair : List ℕ) → length pair ≡ 2 → ((i : ℕ) → get_or pair i 0 < 256) → x ≡ from_be_bytes w16 pair
        → binary held (x / 2 ^ (16 - held)) ≡ take held (bits_of pair)
    loaded_bits pair n f e =
        sym (take-binary held (16 - held) x)
        ∙ ap (λ (w : ℕ). take held (binary w x)) both
        ∙ ap (take held) (sym (bits_of-two x hx) ∙ ap bits_of (be_bytes_2 pair x n f e))

  module _ (n : ℕ) (l : n < 2 ^ held) where
    stored : (n * 2 ^ (16 - held)) % 4294967296 ≡ n * 2 ^ (16 - held)
    stored = shl_exact held (16 - held) 32 l (omega arith)

    moved_lt : n * 2 ^ (16 - held) < 65536
    moved_lt = subst (λ (w : ℕ). n * 2 ^ (16 - held) < 2 ^ w) both (shl_lt held (16 - held) l)

    pub stored_lt : (n * 2 ^ (16 - held)) % 4294967296 < 65536
    stored_lt = subst (λ (x : ℕ). x < 65536) (sym stored) moved_lt

    pub stored_bytes : to_be_bytes w16 ((n * 2 ^ (16 - held)) % 4294967296) ≡ bytes_of 2 (binary held n)
    stored_bytes =
        let x : ℕ = n * 2 ^ (16 - held) in
        ap (to_be_bytes w16) stored
        ∙ sym (bytes_of-bits_of (to_be_bytes w16 x) (fits x))
        ∙ ap (bytes_of 2)
        (bits_of-two x moved_lt
        ∙ ap₂ (λ (w y : ℕ). binary w y) (sym both) (sym (add-zero x)) ∙ binary_join held (16 - held) n 0 (pow_pos (16 - held))
        ∙ ap (λ (r : Bits). binary held n ++ r) (binary-zero (16 - held)))
        ∙ bytes_of-zeros 2 (binary held n) (16 - held)
      where
        fits : (x i : ℕ) → get_or (to_be_bytes w16 x) i 0 < 256
        fits x zero = omega arith
        fits x (suc zero) = omega arith
        fits x (suc (suc i)) = lit< tt
