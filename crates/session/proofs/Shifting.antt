-- A slice's bits from a bit on, by bytes: each byte of them comes from two bytes of the slice. Assumes nothing.
use mathlib.Core.Path.{◌≡◌, refl, sym, ap, ◌∙◌}
use mathlib.Core.List.{List, [], ◌∷◌, ◌++◌, append_assoc, append-nil}
use Prim.Native.Nat.{ℕ, ◌+◌, ◌-◌, ◌*◌, ◌/◌, ◌%◌, ◌^◌, ◌≤◌, ◌<◌}
use native.Mathlib.Nat.{zero-div, add-zero}
use native.Mathlib.Numerals.{add-one}
use native.Mathlib.Omega.{arith}
use lib.ListN.{length, get_or, set, take, drop, length-append, length-drop}
use lib.Seq.{take-suc-set, drop-set-lt, take-append-le, drop-append-le, drop-nil, drop-drop, get_or-drop}
use Rattle.crc.specs.Bits.{Bits, binary, number, bits_of, bytes_of, zeros}
use Rattle.crc.proofs.Rows.{length-binary, number-binary-mod, binary_join, take-binary, drop-binary, binary-zero}
use Rattle.crc.proofs.Bytes.{drop-bits_of, bytes_of-add}

-- eight bits of two bytes
two_bytes : (part x y : ℕ) (r : Bits) → part ≤ 8 → y < 256
    → take 8 (drop part (binary 8 x ++ (binary 8 y ++ r))) ≡ binary 8 ((x * 256 + y) / 2 ^ (8 - part))
two_bytes part x y r h hy =
    let m : ℕ = x * 256 + y in
    let w : ℕ = 8 - part in
    let j : binary 16 m ≡ binary 8 x ++ binary 8 y = binary_join 8 8 x y hy in
    let e : 16 ≡ part + (8 + w) = omega arith in
    let l : part ≤ length (binary 16 m) = rw (length-binary 16 m) (omega arith) in
    let d : drop part (binary 16 m) ≡ binary (8 + w) m = rw e (drop-binary part (8 + w) m) in
    let f : 8 ≤ length (binary (8 + w) m) = rw (length-binary (8 + w) m) (omega arith) in
    rw (← append_assoc, ← j, drop-append-le part (binary 16 m) r l, d, take-append-le 8 (binary (8 + w) m) r f)
    (take-binary 8 w m)

-- the first byte of a slice's bits from a bit on
first_byte : (part : ℕ) (t : List ℕ) → part ≤ 8 → get_or t 1 0 < 256
    → number (take 8 (drop part (bits_of t) ++ zeros 8)) ≡ (get_or t 0 0 * 256 + get_or t 1 0) / 2 ^ (8 - part) % 256
unfolding bits_of number
first_byte part [] h b =
    rw (drop-nil part, zero-div (2 ^ (8 - part))) refl
first_byte part (x ∷ []) h b =
    let l : part ≤ length (binary 8 x) = rw (length-binary 8 x) h in
    let e : take 8 (drop part (binary 8 x) ++ zeros 8) ≡ binary 8 ((x * 256 + 0) / 2 ^ (8 - part)) =
    rw (← drop-append-le part (binary 8 x) (zeros 8) l, ← binary-zero 8) (rw append-nil at (two_bytes part x 0 [] h (omega arith))) in
    rw (append-nil, e) (number-binary-mod 8 ((x * 256 + 0) / 2 ^ (8 - part)))
first_byte part (x ∷ y ∷ t) h b =
    let r : Bits = binary 8 x ++ (binary 8 y ++ bits_of t) in
    let n : 8 ≤ length (drop part r) =
    rw (length-drop, length-append, length-append, length-binary, length-binary) (omega arith) in
    rw (take-append-le 8 (drop part r) (zeros 8) n, two_bytes part x y (bits_of t) h b)
    (number-binary-mod 8 ((x * 256 + y) / 2 ^ (8 - part)))

-- one byte more
pub byte_more : (s : List ℕ) (used i : ℕ) → ((j : ℕ) → get_or s j 0 < 256)
    → bytes_of (i + 1) (drop used (bits_of s))
    ≡ bytes_of i (drop used (bits_of s))
    ++ ((get_or s (used / 8 + i) 0 * 256 + get_or s (used / 8 + i + 1) 0) / 2 ^ (8 - used % 8) % 256 ∷ [])
unfolding bytes_of
byte_more s used i bytes =
    let t : List ℕ = drop (used / 8 + i) s in
    let u : used ≡ 8 * (used / 8) + used % 8 = omega arith in
    let e : drop (8 * i) (drop used (bits_of s)) ≡ drop (used % 8) (bits_of t) =
    drop-drop (8 * i) used (bits_of s)
    ∙ ap (λ (n : ℕ). drop n (bits_of s)) (omega_path used i)
    ∙ sym (drop-drop (used % 8) (8 * (used / 8 + i)) (bits_of s)) ∙ ap (drop (used % 8)) (drop-bits_of (used / 8 + i) s) in
    rw (bytes_of-add i 1, e, first_byte (used % 8) t (omega arith) (rw get_or-drop (bytes _)), get_or-drop, get_or-drop, add-zero)
  where
    omega_path : (used i : ℕ) → used + 8 * i ≡ 8 * (used / 8 + i) + used % 8
    omega_path used i = omega arith

-- the slice behind the bytes written is as it was
unwritten : (s s₀ : List ℕ) (i j : ℕ) → drop i s ≡ drop i s₀ → i ≤ j → get_or s j 0 ≡ get_or s₀ j 0
unwritten s s₀ i j e h =
    let p : j ≡ i + (j - i) = omega arith in
    rw (p, ← get_or-drop i s, ← get_or-drop i s₀, e)

pub shift_more : (s s₀ : List ℕ) (used i v : ℕ) → i < length s → ((j : ℕ) → get_or s₀ j 0 < 256)
    → take i s ≡ bytes_of i (drop used (bits_of s₀)) → drop i s ≡ drop i s₀
    → v ≡ (get_or s (used / 8 + i) 0 * 256 + get_or s (used / 8 + i + 1) 0) / 2 ^ (8 - used % 8) % 256
    → (take (i + 1) (set s i v) ≡ bytes_of (i + 1) (drop used (bits_of s₀))) × (drop (i + 1) (set s i v) ≡ drop (i + 1) s₀)
shift_more s s₀ used i v h bytes t d e =
    let a = unwritten s s₀ i (used / 8 + i) d (omega arith) in
    let b = unwritten s s₀ i (used / 8 + i + 1) d (omega arith) in (
      rw (byte_more s₀ used i bytes, ← a, ← b, ← e, ← t) (rw (← add-one) at (take-suc-set s i v h)),
      drop-set-lt (i + 1) s i v (omega arith) ∙ sym (drop-drop 1 i s) ∙ ap (drop 1) d ∙ drop-drop 1 i s₀,
    )
