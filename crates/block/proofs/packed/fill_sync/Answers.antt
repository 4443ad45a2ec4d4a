-- `fill_sync`: whole bytes of 10101010, the last three behind them, and the first four bits inverted. Assumes nothing.
use mathlib.Core.Bool.{true, false}
use mathlib.Core.List.{List, [], ◌∷◌, ◌++◌, append_assoc}
use mathlib.Core.Path.{◌≡◌, refl, sym, ap, ap₂, ◌∙◌}
use native.Mathlib.Omega.{arith}
use Prim.Native.Nat.{ℕ, zero, suc, ◌+◌, ◌*◌, ◌/◌, ◌≤◌}
use native.Mathlib.Nat.{suc-add}
use lib.Bits.{bit_xor}
use lib.ListN.{length, get_or, take, drop, set, replicate, length-append, length-drop, length-replicate}
use lib.Seq.{length-take-le, take_at, drop-append-add, drop-drop}
use Rattle.crc.specs.Bits.{number, bytes_of}
use Rattle.block.specs.Block.{tens, service_sync, sync_sequence, sync_block}
use Rattle.block.specs.Calls.{overwritten}
use Rattle.block.proofs.Packing.{three_stores}
use Rattle.block.proofs.packed.fill_sync.Goals as goal

-- the row from half of a byte of 10101010 on
to_come_lem : (j : ℕ) → bytes_of (j + 3) (true ∷ false ∷ true ∷ false ∷ (tens (4 * j) ++ sync_sequence)) ≡ replicate j 0xaa ++ (0xa5 ∷ 0x0a ∷ 0x50 ∷ [])
unfolding bytes_of number
to_come_lem zero = refl
to_come_lem (suc j) =
    let e : 4 * suc j ≡ suc (suc (suc (suc (4 * j)))) = omega arith in
    ap₂ (λ (n i : ℕ). bytes_of n (true ∷ false ∷ true ∷ false ∷ (tens i ++ sync_sequence))) (suc-add j 3) e
    ∙ ap (λ (l : List ℕ). 0xaa ∷ l) (to_come_lem j)

-- the bytes of 10 repeated and the sequence
abbrev repeated : ℕ → List ℕ
repeated m = replicate m 0xaa ++ (0xa5 ∷ 0x0a ∷ 0x50 ∷ [])

-- the first four bits inverted, whether data or the sequence stand behind them
inverted : (m : ℕ) (rest : List ℕ)
    → set (repeated m ++ rest) 0 (bit_xor (get_or (repeated m ++ rest) 0 0) 0xf0) ≡ bytes_of (m + 3) (sync_block (8 * m)) ++ rest
unfolding bytes_of number sync_block
inverted zero rest = refl
inverted (suc j) rest =
    let e : 8 * suc j / 2 ≡ suc (suc (suc (suc (4 * j)))) = omega arith in
    sym
    (ap (λ (l : List ℕ). l ++ rest)
    (ap₂ (λ (n i : ℕ). bytes_of n ((service_sync ++ tens i) ++ sync_sequence)) (suc-add j 3) e
    ∙ ap (λ (l : List ℕ). 0x5a ∷ l) (to_come_lem j)))

module _ (m : ℕ) (filled block : List ℕ) (held : m + 3 ≤ length block) (fill : filled ≡ replicate m 0xaa ++ drop m block) where
  abbrev stored : List ℕ
  stored = set (set (set filled m 0xa5) (m + 1) 0x0a) (m + 2) 0x50

  bytes_stored : stored ≡ repeated m ++ drop (m + 3) block
  bytes_stored =
      let p : List ℕ = replicate m 0xaa in
      let n : length p ≡ m = length-replicate m 0xaa in
      let l : List ℕ = p ++ drop m block in
      let d : drop (m + 3) l ≡ drop (m + 3) block =
      ap (λ (x : ℕ). drop (x + 3) l) (sym n) ∙ drop-append-add p (drop m block) 3 ∙ drop-drop 3 m block in
      let hn : length l ≡ length block =
      length-append p (drop m block) ∙ ap₂ (λ (x y : ℕ). x + y) n (length-drop m block) ∙ omega arith in
      ap (λ (x : List ℕ). set (set (set x m 0xa5) (m + 1) 0x0a) (m + 2) 0x50) fill
      ∙ three_stores l m 0xa5 0x0a 0x50 (omega arith)
      ∙ ap₂ (λ (x y : List ℕ). x ++ ((0xa5 ∷ 0x0a ∷ 0x50 ∷ []) ++ y)) (take_at p (drop m block) m n) d
      ∙ sym (append_assoc p (0xa5 ∷ 0x0a ∷ 0x50 ∷ []) (drop (m + 3) block))

  written : set stored 0 (bit_xor (get_or stored 0 0) 0xf0) ≡ overwritten (m + 3) (sync_block (8 * m)) block
  written = ap (λ (x : List ℕ). set x 0 (bit_xor (get_or x 0 0) 0xf0)) bytes_stored ∙ inverted m (drop (m + 3) block)

pub returns : goal.returns
returns c = let a = c.args in
    let n : length (take a.m a.block.now) ≡ a.m = length-take-le a.m a.block.now (omega arith) in
    written a.m _ a.block.now (omega arith)
    (ap (λ (l : List ℕ). l ++ drop a.m a.block.now) (c.fill.ensures.after (λ y e. e) ∙ ap (λ (x : ℕ). replicate x 0xaa) n))
