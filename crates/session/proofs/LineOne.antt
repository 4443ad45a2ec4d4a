-- The reader over the bytes of a line keeps what the line says. Assumes nothing.
use mathlib.Core.Path.{◌≡◌, refl, ◌∙◌}
use mathlib.Core.Bool.{Bool, true, false, cond}
use mathlib.Core.List.{List, [], ◌∷◌, ◌++◌, append_assoc, append-nil}
use mathlib.Core.Logic.{⊎_elim, ◌⊎◌, inl, inr}
use Rattle.std.specs.Prelude.{Option, Some, None, option_map}
use Prim.Native.Nat.{ℕ, ◌+◌, ◌*◌, ◌≤◌, ◌<◌, min}
use native.Mathlib.Nat.{mod-eq_of_lt}
use native.Mathlib.Numerals.{add-one}
use native.Mathlib.Omega.{arith}
use lib.Dec.{ltb}
use lib.ListN.{length, take, set, length-set}
use lib.Seq.{take_all, take-append-le, take-suc-set, take-nil, length-take-le}
use borrow.Author.Tests.{ltb-true, ltb-false}
use Rattle.std.proofs.lemmas.Bool.Decides.{nat_tests}
use Rattle.std.proofs.lemmas.Grind.{common_steps}
use Rattle.block.proofs.Truth.{either}
use Rattle.session.specs.LineOne.{is_blank, decimal_value, hex_value, line_end, hex_bytes, half_byte, order_field, Order, length_field, length_start, Opening, k_field, line_one, limit, keep, grown, next_at, next_order, start, read_all}
use Rattle.session.specs.declared.line_one.LineOne.{LineOne}
use Rattle.session.specs.declared.line_one.Place.{Place}
use Rattle.session.specs.declared.line_one.Place.TheVariants as P

abbrev state : Place → ℕ → ℕ → ℕ → LineOne
state place k L n = record { place = place; k = k; length = L; kept = n }

-- what is kept where the rest of the line gives more bytes of the order
abbrev ended : ℕ → ℕ → ℕ → List ℕ → Option (List ℕ) → Option Opening
ended k L room bytes None = None
ended k L room bytes (Some more) = Some (record { k = k; order = record { bits = L; bytes = take room (bytes ++ more) } })

-- a character is a digit or not
digit_or : (o : Option ℕ) → ((v : ℕ) × (o ≡ Some v)) ⊎ (o ≡ None)
digit_or None = inr refl
digit_or (Some v) = inl (v, refl)

hex_small : (c v : ℕ) → hex_value c ≡ Some v → v < 16
unfolding hex_value
hex_small c v e = grind (arith, common_steps, nat_tests)

cond_same : (b : Bool) (s : LineOne) → cond b s s ≡ s
cond_same true s = refl
cond_same false s = refl

module _ (k L : ℕ) where
  unreadable_stays : (n : ℕ) (rest order : List ℕ) → read_all (state P.Unreadable k L n) rest order ≡ None
  unfolding read_all next_at next_order
  unreadable_stays n [] order = refl
  unreadable_stays n (c ∷ cs) order = unreadable_stays n cs order

  trailed : (n : ℕ) (rest order : List ℕ) → n ≤ length order
      → read_all (state P.Trailed k L n) rest order ≡ ended k L (length order) (take n order) (line_end rest)
  unfolding read_all next_at next_order
  trailed n [] order h = rw (append-nil, take_all (length order) (take n order) (rw (length-take-le n order h) h))
  trailed n (c ∷ cs) order h = unreadable_stays n cs order

  -- a byte behind those kept, and a byte for which there is no room
  byte_kept : (n x : ℕ) (order : List ℕ) (o : Option (List ℕ)) → n < length order
      → ended k L (length order) (take (n + 1) (set order n x)) o ≡ ended k L (length order) (take n order) (option_map (λ (bytes : List ℕ). x ∷ bytes) o)
  byte_kept n x order None h = refl
  byte_kept n x order (Some more) h = rw (add-one, take-suc-set order n x h, append_assoc)

  byte_lost : (n x : ℕ) (order : List ℕ) (o : Option (List ℕ)) → n ≤ length order → length order ≤ n
      → ended k L (length order) (take n order) o ≡ ended k L (length order) (take n order) (option_map (λ (bytes : List ℕ). x ∷ bytes) o)
  byte_lost n x order None h l = refl
  byte_lost n x order (Some more) h l =
      let e : length (take n order) ≡ n = length-take-le n order h in
      let f : length order ≤ length (take n order) = rw e l in
      rw (take-append-le (length order) (take n order) more f, take-append-le (length order) (take n order) (x ∷ more) f)

  mutual
    unfolding read_all next_at next_order

    bytes_read : (n : ℕ) (rest order : List ℕ) → n ≤ length order
        → read_all (state P.Bytes k L n) rest order ≡ ended k L (length order) (take n order) (hex_bytes rest)
    bytes_read n [] order h = rw (append-nil, take_all (length order) (take n order) (rw (length-take-le n order h) h))
    bytes_read n (c ∷ cs) order h =
        ⊎_elim (λ e. rw e.1 (half_read n e.0 cs order h (hex_small c e.0 e.1)))
        (λ e.
        rw e (⊎_elim (λ b. rw b (trailed n cs order h)) (λ b. rw b (unreadable_stays n cs order)) (either (is_blank c))))
        (digit_or (hex_value c))

    half_read : (n high : ℕ) (rest order : List ℕ) → n ≤ length order → high < 16
        → read_all (state (P.Half high) k L n) rest order ≡ ended k L (length order) (take n order) (half_byte high rest)
    half_read n high [] order h l = refl
    half_read n high (c ∷ cs) order h l =
        ⊎_elim
        (λ e.
        simp (e.1, mod-eq_of_lt l)
        (⊎_elim
        (λ (r : ltb n (length order) ≡ true).
        let x : ℕ = high * 16 + e.0 in
        let m : length (set order n x) ≡ length order = length-set order n x in
        simp r
        (bytes_read (n + 1) cs (set order n x) (rw m (omega (arith, ltb-true n (length order) r)))
        ∙ rw m (byte_kept n x order (hex_bytes cs) (ltb-true _ _ r))))
        (λ (r : ltb n (length order) ≡ false). simp r (bytes_read n cs order h ∙ byte_lost n (high * 16 + e.0) order (hex_bytes cs) h (ltb-false _ _ r)))
        (either (ltb n (length order)))))
        (λ e. rw e (unreadable_stays n cs order)) (digit_or (hex_value c))

  order_read : (rest order : List ℕ)
      → read_all (state P.Order k L 0) rest order ≡ ended k L (length order) [] (order_field rest)
  unfolding read_all next_at next_order
  order_read [] order = rw (take-nil (length order))
  order_read (c ∷ cs) order =
      ⊎_elim (λ e. rw e.1 (half_read 0 e.0 cs order (omega arith) (hex_small c e.0 e.1)))
      (λ e. rw (cond_same (is_blank c)) (rw e (unreadable_stays 0 cs order))) (digit_or (hex_value c))

-- a number up to the limit grows as the number itself
grown-limit : (m n digit : ℕ) → m ≡ min n limit → grown m digit ≡ min (n * 10 + digit) limit
grown-limit m n digit e = omega arith

-- what is kept of an order
abbrev kept_order : ℕ → ℕ → Option Order → Option Opening
kept_order k room None = None
kept_order k room (Some o) =
    Some (record { k = k; order = record { bits = min o.bits limit; bytes = take room o.bytes } })

with_length_lem : (k L L₀ room : ℕ) (o : Option (List ℕ)) → L ≡ min L₀ limit → ended k L room [] o ≡ kept_order k room (option_map (λ (bytes : List ℕ). record { bits = L₀; bytes = bytes }) o)
with_length_lem k L L₀ room None e = refl
with_length_lem k L L₀ room (Some bytes) e = rw e

length-read : (k L L₀ : ℕ) (rest order : List ℕ) → L ≡ min L₀ limit
    → read_all (state P.LengthDigits k L 0) rest order ≡ kept_order k (length order) (length_field L₀ rest)
unfolding read_all next_at next_order
length-read k L L₀ [] order h = rw (take-nil (length order), h)
length-read k L L₀ (c ∷ cs) order h =
    ⊎_elim (λ e. rw e.1 (length-read k (grown L e.0) (L₀ * 10 + e.0) cs order (grown-limit L L₀ e.0 h)))
    (λ e.
    rw e
    (⊎_elim (λ b. rw b (order_read k L cs order ∙ with_length_lem k L L₀ (length order) (order_field cs) h))
    (λ b. rw b (unreadable_stays k L 0 cs order)) (either (is_blank c))))
    (digit_or (decimal_value c))

length-start : (k : ℕ) (rest order : List ℕ) → read_all (state P.Length k 0 0) rest order ≡ kept_order k (length order) (length_start rest)
unfolding read_all next_at next_order
length-start k [] order = refl
length-start k (c ∷ cs) order =
    ⊎_elim (λ e. rw e.1 (length-read k (grown 0 e.0) e.0 cs order (omega arith)))
    (λ e. rw (cond_same (is_blank c)) (rw e (unreadable_stays k 0 0 cs order))) (digit_or (decimal_value c))

with_k : (k k₀ room : ℕ) (o : Option Order) → k ≡ min k₀ limit → kept_order k room o ≡ keep room (option_map (λ (order : Order). record { k = k₀; order = order }) o)
with_k k k₀ room None e = refl
with_k k k₀ room (Some o) e = rw e

k_read : (k k₀ : ℕ) (rest order : List ℕ) → k ≡ min k₀ limit
    → read_all (state P.KDigits k 0 0) rest order ≡ keep (length order) (k_field k₀ rest)
unfolding read_all next_at next_order
k_read k k₀ [] order h = refl
k_read k k₀ (c ∷ cs) order h =
    ⊎_elim (λ e. rw e.1 (k_read (grown k e.0) (k₀ * 10 + e.0) cs order (grown-limit k k₀ e.0 h)))
    (λ e.
    rw e
    (⊎_elim (λ b. rw b (length-start k cs order ∙ with_k k k₀ (length order) (length_start cs) h))
    (λ b. rw b (unreadable_stays k 0 0 cs order)) (either (is_blank c))))
    (digit_or (decimal_value c))

-- the reader, over the bytes of any line, keeps what the line says
pub line_one_lem : (line order : List ℕ) → read_all start line order ≡ keep (length order) (line_one line)
unfolding read_all next_at next_order
line_one_lem [] order = refl
line_one_lem (c ∷ cs) order =
    ⊎_elim (λ e. rw e.1 (k_read (grown 0 e.0) e.0 cs order (omega arith)))
    (λ e. rw (cond_same (is_blank c)) (rw e (unreadable_stays 0 0 0 cs order))) (digit_or (decimal_value c))
