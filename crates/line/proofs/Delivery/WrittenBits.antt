-- Bits written into bytes: the receiver's array and the store, as rows of bits. Assumes nothing.
use mathlib.Core.Path.{◌≡◌, refl, ap, sym, ◌∙◌}
use mathlib.Core.List.{List, ◌++◌, append_assoc}
use Prim.Native.Nat.{ℕ, ◌+◌, ◌-◌, ◌*◌, ◌≤◌}
use native.Mathlib.Omega.{arith}
use lib.ListN.{length, take, drop, length-append, length-drop, length-replicate}
use lib.Seq.{length-take-le, take_at, drop_at}
use Rattle.crc.specs.Bits.{Bits, zeros, bits_of, bytes_of}
use Rattle.crc.proofs.Bytes.{length-bits_of, bits_of-append, length-bytes_of, bits_of-bytes_of, bits_of-bytes_of_exact}
use Rattle.line.specs.Receiving.{array_bytes, zero_array, held_bits, searching, overwrite, holding, store_at}
use Rattle.line.specs.declared.receiver.Receiver.{Receiver}

-- ---- a row over a row

pub length-overwrite : (at : ℕ) (new row : Bits) → at + length new ≤ length row
    → length (overwrite at new row) ≡ length row
length-overwrite at new row h =
    omega (
      arith,
      length-append (take at row) (new ++ drop (at + length new) row),
      length-append new (drop (at + length new) row),
      length-take-le at row (omega arith),
      length-drop (at + length new) row,
    )

module _ (at : ℕ) (new row : Bits) (h : at + length new ≤ length row) where
  parts : overwrite at new row ≡ (take at row ++ new) ++ drop (at + length new) row
  parts = sym (append_assoc (take at row) new (drop (at + length new) row))

  long : length (take at row ++ new) ≡ at + length new
  long = omega (arith, length-append (take at row) new, length-take-le at row (omega arith))

  -- its first bits are the old ones and the new
  pub take-overwrite : take (at + length new) (overwrite at new row) ≡ take at row ++ new
  take-overwrite = ap (take (at + length new)) parts ∙ take_at (take at row ++ new) (drop (at + length new) row) (at + length new) long

  -- and the others stand as they were
  pub drop-overwrite : drop (at + length new) (overwrite at new row) ≡ drop (at + length new) row
  drop-overwrite = ap (drop (at + length new)) parts ∙ drop_at (take at row ++ new) (drop (at + length new) row) (at + length new) long

-- ---- the receiver's array

pub length-zero_array : length zero_array ≡ array_bytes
unfolding zero_array
length-zero_array = length-replicate {A = ℕ} array_bytes 0

pub length-held_bits : (s : Receiver) → length s.bits ≡ array_bytes → s.held ≤ 3864 → length (held_bits s) ≡ s.held
length-held_bits s a h = length-take-le s.held (bits_of s.bits) (omega (arith, length-bits_of s.bits))

pub length-holding : (s : Receiver) (new : Bits) → length (holding s new).bits ≡ array_bytes
length-holding s new = length-bytes_of array_bytes (overwrite s.held new (bits_of s.bits))

pub held_bits-holding : (s : Receiver) (new : Bits) → length s.bits ≡ array_bytes → s.held + length new ≤ 3864
    → held_bits (holding s new) ≡ held_bits s ++ new
held_bits-holding s new a h =
    ap (take (s.held + length new)) (bits_of-bytes_of_exact array_bytes (overwrite s.held new (bits_of s.bits)) long)
    ∙ take-overwrite s.held new (bits_of s.bits) fits
  where
    fits : s.held + length new ≤ length (bits_of s.bits)
    fits = omega (arith, length-bits_of s.bits)

    long : length (overwrite s.held new (bits_of s.bits)) ≡ 8 * array_bytes
    long = omega (arith, length-overwrite s.held new (bits_of s.bits) fits, length-bits_of s.bits)

pub length-searching : (s : Receiver) (window : Bits) → length s.bits ≡ array_bytes
    → length (searching s window).bits ≡ array_bytes
length-searching s window a =
    omega (arith, length-append (bytes_of 2 window) (drop 2 s.bits), length-bytes_of 2 window, length-drop 2 s.bits)

pub held_bits-searching : (s : Receiver) (window : Bits) → length window ≤ 15 → held_bits (searching s window) ≡ window
held_bits-searching s window h =
    ap (take (length window))
    (bits_of-append (bytes_of 2 window) (drop 2 s.bits)
    ∙ ap (λ (l : Bits). l ++ bits_of (drop 2 s.bits)) (bits_of-bytes_of 2 window (omega arith))
    ∙ append_assoc window (zeros (8 * 2 - length window)) (bits_of (drop 2 s.bits)))
    ∙ take_at window (zeros (8 * 2 - length window) ++ bits_of (drop 2 s.bits)) (length window) refl

-- ---- the store

module _ (at : ℕ) (payload : Bits) (store : List ℕ) (h : at + length payload ≤ 8 * length store) where
  pub bits_of-store_at : bits_of (store_at at payload store) ≡ overwrite at payload (bits_of store)
  unfolding store_at
  bits_of-store_at =
      bits_of-bytes_of_exact (length store) (overwrite at payload (bits_of store))
      (omega (
        arith,
        length-overwrite at payload (bits_of store)
            (omega (arith, length-bits_of store)),
        length-bits_of store,
      ))

pub length-store_at : (at : ℕ) (payload : Bits) (store : List ℕ) → length (store_at at payload store) ≡ length store
unfolding store_at
length-store_at at payload store = length-bytes_of (length store) (overwrite at payload (bits_of store))
