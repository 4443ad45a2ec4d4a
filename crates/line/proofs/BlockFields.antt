-- Laws of the judging of a finished block: the numbers that its bytes hold, and rule 6. Assumes nothing.
use mathlib.Core.Path.{◌≡◌, refl, sym, ap, ap₂, ◌∙◌}
use mathlib.Core.Bool.{Bool, true, false, ◌&&◌, and-false}
use mathlib.Core.List.{List, [], ◌∷◌, ◌++◌}
use Prim.Native.Nat.{ℕ, ◌+◌, ◌*◌, ◌/◌, ◌^◌, ◌≤◌, ◌<◌}
use native.Mathlib.Nat.{mod-eq_of_lt}
use native.Mathlib.Omega.{arith}
use borrow.Author.Tests.{eq-eqb, ne_eqb}
use lib.Dec.{eqb}
use lib.ListN.{length, take, drop, get_or, length-append}
use lib.Seq.{take_at, drop_at, length-take-le}
use Rattle.std.specs.Int.{w32, from_be_bytes}
use Rattle.crc.specs.Bits.{Bits, binary, number, number_from, bits_of}
use Rattle.crc.proofs.Rows.{length-binary, number-binary, number_from-append, number_from-binary}
use Rattle.crc.proofs.Bytes.{length-bits_of, take-bits_of, drop-bits_of}
use Rattle.block.specs.Lengths.{is_length, block_length}
use Rattle.block.specs.Block.{service_of, service_sync, sync_sequence}
use Rattle.block.proofs.Lengths.{length_facts}
use Rattle.block.proofs.Packing.{service_number, block_parts}
use Rattle.line.specs.Order.{valid_length, version}
use Rattle.line.specs.Receiving.{Rule, ends, wrong_length, makes_items, length_rule, end_rule, looks_sync}

-- one byte more of a number
byte_more : (c x : ℕ) (s : List ℕ) → x < 256 → number_from c (bits_of (x ∷ s)) ≡ number_from (c * 256 + x) (bits_of s)
unfolding bits_of
byte_more c x s h =
    number_from-append c (binary 8 x) (bits_of s)
    ∙ ap (λ (n : ℕ). number_from n (bits_of s)) (number_from-binary c 8 x ∙ ap (λ (n : ℕ). c * 256 + n) (mod-eq_of_lt h))

pub four_bytes : (s : List ℕ) → 5 ≤ length s → ((i : ℕ) → get_or s i 0 < 256)
    → number (take 32 (drop 8 (bits_of s))) ≡ from_be_bytes w32 (get_or s 1 0 ∷ get_or s 2 0 ∷ get_or s 3 0 ∷ get_or s 4 0 ∷ [])
unfolding number bits_of
four_bytes [] h b = absurd (omega arith)
four_bytes (v ∷ []) h b = absurd (omega arith)
four_bytes (v ∷ x ∷ []) h b = absurd (omega arith)
four_bytes (v ∷ x ∷ y ∷ []) h b = absurd (omega arith)
four_bytes (v ∷ x ∷ y ∷ z ∷ []) h b = absurd (omega arith)
four_bytes (v ∷ x ∷ y ∷ z ∷ w ∷ s) h b =
    ap (λ (l : Bits). number_from 0 (take 32 l)) (drop-bits_of 1 (v ∷ x ∷ y ∷ z ∷ w ∷ s))
    ∙ ap (number_from 0) (take-bits_of 4 (x ∷ y ∷ z ∷ w ∷ s))
    ∙ byte_more 0 x (y ∷ z ∷ w ∷ []) (b 1) ∙ byte_more (0 * 256 + x) y (z ∷ w ∷ []) (b 2)
    ∙ byte_more ((0 * 256 + x) * 256 + y) z (w ∷ []) (b 3) ∙ byte_more (((0 * 256 + x) * 256 + y) * 256 + z) w [] (b 4)
    ∙ regroup x y z w
  where
    regroup : (x y z w : ℕ) → (((0 * 256 + x) * 256 + y) * 256 + z) * 256 + w ≡ from_be_bytes w32 (x ∷ y ∷ z ∷ w ∷ [])
    regroup x y z w = omega arith

-- the version
first_byte : (s : List ℕ) → 5 ≤ length s → get_or s 0 0 < 256 → number (take 8 (bits_of s)) ≡ get_or s 0 0
unfolding bits_of
first_byte [] h b = absurd (omega arith)
first_byte (x ∷ s) h b = ap number (take_at (binary 8 x) (bits_of s) 8 (length-binary 8 x)) ∙ number-binary 8 x b

module _ (s : List ℕ) (h : 5 ≤ length s) (b : get_or s 0 0 < 256) where
  pub version_is : get_or s 0 0 ≡ version → eqb (number (take 8 (bits_of s))) version ≡ true
  version_is e = eq-eqb (number (take 8 (bits_of s))) version (first_byte s h b ∙ e)

  pub version-not : (get_or s 0 0 ≡ version → ⊥) → eqb (number (take 8 (bits_of s))) version ≡ false
  version-not e = ne_eqb (number (take 8 (bits_of s))) version (λ q. e (sym (first_byte s h b) ∙ q))

-- ---- rule 6: the version read, its length against the items taken

module _ (k r L : ℕ) where
  pub length_invalid : valid_length L ≡ false → length_rule k r true L ≡ wrong_length
  length_invalid e = rw e

  pub length_other : makes_items k L r ≡ false → length_rule k r true L ≡ wrong_length
  length_other e = rw (e, and-false (valid_length L))

  pub length_valid : valid_length L ≡ true → makes_items k L r ≡ true → length_rule k r true L ≡ ends L
  length_valid h e = rw (h, e)

  module _ (ended : Bool) (s : List ℕ) (h : 5 ≤ length s) (b : get_or s 0 0 < 256) (open_end : ended ≡ false) (v : get_or s 0 0 ≡ version)
      (l : L ≡ number (take 32 (drop 8 (bits_of s)))) where
    pub end_by_length : (x : Rule) → length_rule k r true L ≡ x → x ≡ end_rule k r ended (bits_of s)
    unfolding end_rule
    end_by_length x e = sym e ∙ ap (length_rule k r true) l ∙ sym (simp (open_end, version_is s h b v))

-- ---- rule 1: the first four bits and the last sixteen

module _ (k : ℕ) (known : is_length k ≡ true) (s : List ℕ) (h : block_length k ≤ 8 * length s) where
  abbrev row : Bits
  row = take (block_length k) (bits_of s)

  service_of_lem : get_or s 0 0 < 256 → number (service_of row) ≡ get_or s 0 0 / 16
  service_of_lem = service_number (block_length k) s (omega arith) (omega arith)

  pub other_service : get_or s 0 0 < 256 → (get_or s 0 0 / 16 ≡ number service_sync → ⊥) → false ≡ looks_sync k row
  unfolding looks_sync
  other_service b n = sym (rw (ne_eqb (number (service_of row)) (number service_sync) (λ e. n (sym (service_of_lem b) ∙ e))))

  -- the last sixteen bits, as the reader has its check bits
  module _ (m c : ℕ) (em : k / 8 ≡ m) (hc : c < 2 ^ 16)
      (e : binary 16 c ≡ binary 4 (get_or s m 0) ++ (binary 8 (get_or s (m + 1) 0) ++ binary 4 (get_or s (m + 2) 0 / 16))) where
    last_number : number (drop (k + 4) row) ≡ c
    last_number =
        let f = length_facts k known in
        let x : ℕ = get_or s m 0 in
        let front : Bits = bits_of (take m s) ++ binary 4 (x / 16) in
        let w : block_length k ≡ 8 * m + 20 = omega arith in
        let n : length front ≡ k + 4 =
        length-append (bits_of (take m s)) (binary 4 (x / 16))
        ∙ ap₂ (λ (u v : ℕ). u + v) (length-bits_of (take m s) ∙ ap (λ (u : ℕ). 8 * u) (length-take-le m s (omega arith))) (length-binary 4 (x / 16))
        ∙ omega arith in
        ap (λ (v : ℕ). number (drop (k + 4) (take v (bits_of s)))) w
        ∙ ap (λ (l : Bits). number (drop (k + 4) l)) (block_parts m s (omega arith) ∙ ap (λ (l : Bits). front ++ l) (sym e))
        ∙ ap number (drop_at front (binary 16 c) (k + 4) n) ∙ number-binary 16 c hc

    pub same_service : get_or s 0 0 < 256 → get_or s 0 0 / 16 ≡ number service_sync → eqb c (number sync_sequence) ≡ looks_sync k row
    unfolding looks_sync
    same_service b q =
        sym
        (ap₂ (λ (x y : ℕ). eqb x (number service_sync) && eqb y (number sync_sequence)) (service_of_lem b ∙ q) last_number
        ∙ rw (eq-eqb (number service_sync) (number service_sync) refl))
