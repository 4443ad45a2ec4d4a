-- The store takes the item that the order has at that place. Assumes nothing.
use mathlib.Core.Path.{◌≡◌, refl, ap, sym, ◌∙◌, subst}
use mathlib.Core.Bool.{Bool, true, false, cond}
use mathlib.Core.List.{List, ◌++◌}
use Prim.Native.Nat.{ℕ, suc, ◌+◌, ◌*◌, ◌≤◌, ◌<◌}
use native.Mathlib.Omega.{arith}
use native.Mathlib.Nat.{suc-mul}
use native.Mathlib.Numerals.{add-one}
use lib.ListN.{length, take, drop}
use lib.Seq.{drop-drop}
use Rattle.crc.specs.Bits.{Bits, bit, bits_of}
use Rattle.crc.proofs.Bytes.{length-bits_of}
use Rattle.line.specs.Order.{filled, item_payload}
use Rattle.line.specs.Receiving.{store_at}
use Rattle.line.proofs.Items.{item_within, length-item_payload, filled_next}
use Rattle.line.proofs.Delivery.WrittenBits.{take-overwrite, drop-overwrite, bits_of-store_at, length-store_at}
use Rattle.line.proofs.Delivery.State.{Session, N, Fit, Stored}

module _ (o : Session) (fit : Fit o) (r : ℕ) (store : List ℕ) (held : Stored o r store) (h : r < N o) where
  payload : Bits
  payload = item_payload o.k o.L o.content r

  at : ℕ
  at = r * o.k

  long : length payload ≡ o.k
  unfolding payload
  long = length-item_payload o.k o.L o.content fit.known fit.content r

  fits : at + length payload ≤ 8 * length store
  unfolding at
  fits = omega (arith, long, item_within r (N o) o.k h, held.size, fit.room)

  fits_row : at + length payload ≤ length (bits_of store)
  fits_row = omega (arith, fits, length-bits_of store)

  next_at : (r + 1) * o.k ≡ at + length payload
  unfolding at
  next_at = ap (λ (n : ℕ). n * o.k) (add-one r) ∙ suc-mul r o.k ∙ ap (λ (n : ℕ). r * o.k + n) (sym long)

  front : take (at + length payload) (bits_of (store_at at payload store)) ≡ take (at + length payload)
      (filled o.k o.L o.content)
  unfolding at payload
  front =
      let e : suc r * o.k ≡ at + length payload = suc-mul r o.k ∙ ap (λ (n : ℕ). r * o.k + n) (sym long) in
      ap (take (at + length payload)) (bits_of-store_at at payload store fits)
      ∙ take-overwrite at payload (bits_of store) fits_row
      ∙ ap (λ (l : Bits). l ++ payload) held.front ∙ filled_next o.k o.L o.content r h
      ∙ ap (λ (n : ℕ). take n (filled o.k o.L o.content)) e

  rest : drop (at + length payload) (bits_of (store_at at payload store)) ≡ drop (at + length payload) (bits_of o.initial_store)
  unfolding at
  rest =
      ap (drop (at + length payload)) (bits_of-store_at at payload store fits)
      ∙ drop-overwrite at payload (bits_of store) fits_row
      ∙ sym (drop-drop (length payload) at (bits_of store)) ∙ ap (drop (length payload)) held.rest
      ∙ drop-drop (length payload) at (bits_of o.initial_store)

  pub store_takes : Stored o (r + 1) (store_at (r * o.k) (item_payload o.k o.L o.content r) store)
  unfolding at payload
  store_takes =
      record {
        front = subst (λ (n : ℕ). take n (bits_of (store_at at payload store)) ≡ take n (filled o.k o.L o.content))
            (sym next_at) front;
        rest = subst (λ (n : ℕ). drop n (bits_of (store_at at payload store)) ≡ drop n (bits_of o.initial_store))
            (sym next_at) rest;
        size = length-store_at at payload store ∙ held.size;
      }

-- stored or not, by the number of items taken
pub store_after : (o : Session) (r t : ℕ) (stores : Bool) (new old : List ℕ) → t ≡ bit stores + r → Stored o r old
    → (stores ≡ true → Stored o (r + 1) new) → Stored o t (cond stores new old)
store_after o r t true new old e s n = let q : r + 1 ≡ t = omega arith in subst (λ (m : ℕ). Stored o m new) q (n refl)
store_after o r t false new old e s n = let q : r ≡ t = omega arith in subst (λ (m : ℕ). Stored o m old) q s
