-- Laws of accepting a block: where its data go, in whole bytes, and the room for them. Assumes nothing.
use mathlib.Core.Path.{◌≡◌, sym, ap, ◌∙◌}
use mathlib.Core.Bool.{true, false, not}
use mathlib.Core.List.{List, [], ◌++◌, append-nil}
use mathlib.Core.Logic.{⊎_elim}
use Prim.Native.Nat.{ℕ, ◌+◌, ◌*◌, ◌/◌, ◌≤◌, ◌<◌}
use native.Mathlib.Nat.{mul-le-mul}
use native.Mathlib.Omega.{arith}
use borrow.Author.Tests.{ltb-true, ltb-false, lt-leb, le-leb}
use lib.Dec.{leb}
use lib.ListN.{length, take, drop, get_or, length-drop, drop_of_length-le}
use lib.Seq.{length-take-le}
use Rattle.crc.specs.Bits.{Bits, bits_of, bytes_of}
use Rattle.crc.proofs.Bytes.{length-bytes_of, bytes_of_lt, bits_of-bytes_of_exact}
use Rattle.block.specs.Lengths.{is_length}
use Rattle.block.specs.Calls.{too_short}
use Rattle.block.proofs.Lengths.{length_facts, length_bytes}
use Rattle.block.proofs.Truth.{either}
use Rattle.line.specs.Order.{most_items}
use Rattle.line.specs.Receiving.{store_at}
use Rattle.line.proofs.ItemBlocks.{item_byte}
use Rattle.line.proofs.BitMoves.{placed_store}

module _ (k taken : ℕ) (known : is_length k ≡ true) where
  pub start-lt : taken ≤ most_items → taken * (k / 8) ≤ most_items * 480
  start-lt h = let f = length_facts k known in mul-le-mul {m₂ = 480} h (omega arith)

  module _ (store : List ℕ) where
    pub room : too_short store (taken * k + k) ≡ false → taken * (k / 8) + k / 8 ≤ length store
    room e =
        let i = item_byte taken k (length_facts k known).0 in
        let f = length_bytes k known in
        let h = ltb-false (8 * length store) (taken * k + k) e in
        omega arith

    -- the test in whole bytes
    pub room_test : leb (taken * (k / 8) + k / 8) (length store) ≡ not (too_short store (taken * k + k))
    room_test =
        let i = item_byte taken k (length_facts k known).0 in
        let f = length_bytes k known in
        ⊎_elim
        (λ (e : too_short store (taken * k + k) ≡ true).
        let h = ltb-true (8 * length store) (taken * k + k) e in
        lt-leb (taken * (k / 8) + k / 8) (length store) (omega arith) ∙ sym (ap not e))
        (λ (e : too_short store (taken * k + k) ≡ false). le-leb (taken * (k / 8) + k / 8) (length store) (room e) ∙ sym (ap not e))
        (either (too_short store (taken * k + k)))

    -- the part of the store that is lent for the data, put back
    module _ (n : ℕ) (part : List ℕ) where
      abbrev pub put_back : List ℕ
      put_back = take (taken * (k / 8)) store ++ (part ++ drop n (drop (taken * (k / 8)) store))

      pub accepted_store : (d : Bits) → n ≡ k / 8 → length d ≡ k → taken * (k / 8) + k / 8 ≤ length store → ((i : ℕ) → get_or store i 0 < 256)
          → part ≡ bytes_of (k / 8) d ++ drop (k / 8) (take n (drop (taken * (k / 8)) store)) → put_back ≡ store_at (taken * k) d store
      accepted_store d en ed h bs e =
          let from : ℕ = taken * (k / 8) in
          let rest : List ℕ = drop from store in
          let new : List ℕ = bytes_of (k / 8) d in
          let l : length new ≡ k / 8 = length-bytes_of (k / 8) d in
          let t : length (take n rest) ≡ n = length-take-le n rest (omega (arith, length-drop from store)) in
          let z : drop (k / 8) (take n rest) ≡ [] = drop_of_length-le (take n rest) {i = k / 8} (omega arith) in
          let p : part ≡ new = e ∙ ap (λ (x : List ℕ). new ++ x) z ∙ append-nil new in
          let g : from + length new ≤ length store = omega arith in
          ap (λ (x : List ℕ). take from store ++ (x ++ drop n rest)) p
          ∙ ap (λ (i : ℕ). take from store ++ (new ++ drop i rest)) (en ∙ sym l)
          ∙ placed_store store new from g bs (bytes_of_lt (k / 8) d)
          ∙ ap (λ (x : ℕ). store_at x (bits_of new) store) (item_byte taken k (length_facts k known).0)
          ∙ ap (λ (x : Bits). store_at (taken * k) x store) (bits_of-bytes_of_exact (k / 8) d (ed ∙ sym (length_bytes k known)))
