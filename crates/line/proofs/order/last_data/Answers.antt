-- `last_data` copies the order's whole bytes and the first bits of the next over zeros. Assumes nothing.
use mathlib.Core.Path.{◌≡◌, refl, ap, ap₂, ◌∙◌}
use mathlib.Core.List.{List, ◌∷◌, ◌++◌}
use Prim.Native.Nat.{ℕ, suc, ◌+◌, ◌-◌, ◌*◌, ◌/◌, ◌%◌, ◌≤◌, ◌<◌}
use native.Mathlib.Omega.{arith}
use lib.ListN.{length, get_or, set, take, drop, replicate, length-drop}
use Rattle.crc.specs.Bits.{Bits, binary, bits_of, bytes_of, number, zeros}
use Rattle.std.proofs.lemmas.List.{drop-replicate}
use Rattle.line.proofs.LastItem.{written, packed_whole, packed_rest}
use Rattle.line.proofs.order.last_data.Goals as goal

-- the copied bytes and the zeros behind them
copied : (order : List ℕ) (start whole : ℕ) (front : List ℕ) → front ≡ take (start + whole - start) (drop start order)
    → front ++ drop whole (replicate 480 0) ≡ take whole (drop start order) ++ replicate (480 - whole) 0
copied order start whole front e =
    let n : start + whole - start ≡ whole = omega arith in
    ap₂ (λ (x y : List ℕ). x ++ y) (e ∙ ap (λ (i : ℕ). take i (drop start order)) n) (drop-replicate whole 480 0)

module _ (order payload : List ℕ) (bits start j : ℕ) (bytes : (i : ℕ) → get_or order i 0 < 256) (from : 8 * start ≤ bits)
    (within : bits ≤ 8 * start + 3840) (lent : bits ≤ 8 * length order)
    (e : payload ≡ take j (drop start order) ++ replicate (480 - j) 0) (whole : j ≡ bits / 8 - start) where
  abbrev row : Bits
  row = drop (8 * start) (take bits (bits_of order))

  no_rest : bits % 8 ≤ 0 → payload ≡ bytes_of 480 row
  no_rest h =
      let n : bits / 8 - start + (480 - (bits / 8 - start)) ≡ 480 = omega arith in
      (e ∙ ap (λ (i : ℕ). take i (drop start order) ++ replicate (480 - i) 0) whole)
      ∙ packed_whole order bytes bits start from lent (480 - (bits / 8 - start)) (omega arith)
      ∙ ap (λ (i : ℕ). bytes_of i row) n

  some-rest : (v : ℕ) → 0 < bits % 8
      → v ≡ number (take 8 (take (bits % 8) (binary 8 (get_or order (start + (bits / 8 - start)) 0)) ++ zeros 8))
      → set payload (bits / 8 - start) v ≡ bytes_of 480 row
  some-rest v h f =
      let w : ℕ = bits / 8 - start in
      let n : w + suc (480 - (w + 1)) ≡ 480 = omega arith in
      ap (λ (l : List ℕ). set l w v) (e ∙ ap (λ (i : ℕ). take i (drop start order) ++ replicate (480 - i) 0) whole)
      ∙ written w (drop start order) 480 v (omega (arith, length-drop start order)) (omega arith)
      ∙ ap (λ (x : ℕ). take w (drop start order) ++ (x ∷ replicate (480 - (w + 1)) 0)) f
      ∙ packed_rest order bytes bits start from lent (480 - (w + 1)) h ∙ ap (λ (i : ℕ). bytes_of i row) n

pub returns-then-rest-gt0 : goal.returns-then-rest-gt0
returns-then-rest-gt0 c = let a = c.args in
    some-rest a.order.now (c.copy_from_slice.new.self ++ drop (a.bits / 8 - a.start) (replicate 480 0)) a.bits a.start (a.bits / 8 - a.start) (λ i. (c.shared_slice_known-1.given i).fits)
    (omega arith) (omega arith) (omega arith) (copied a.order.now a.start (a.bits / 8 - a.start) c.copy_from_slice.new.self c.copy_from_slice.ensures.after) refl c.keep_first.result c.if-rest-gt0.true
    c.keep_first.ensures

pub returns-else-rest-gt0 : goal.returns-else-rest-gt0
returns-else-rest-gt0 c = let a = c.args in
    no_rest a.order.now (c.copy_from_slice.new.self ++ drop (a.bits / 8 - a.start) (replicate 480 0)) a.bits a.start (a.bits / 8 - a.start) (λ i. (c.shared_slice_known-1.given i).fits)
    (omega arith) (omega arith) (omega arith) (copied a.order.now a.start (a.bits / 8 - a.start) c.copy_from_slice.new.self c.copy_from_slice.ensures.after) refl c.if-rest-gt0.false
