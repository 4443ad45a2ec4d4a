-- `Setup::write_whole` builds item i from its part of the order. Assumes nothing.
use borrow.Author.Rules.{rules}
use mathlib.Core.Path.{◌≡◌, ap, ap₂, ◌∙◌}
use mathlib.Core.List.{List}
use Prim.Native.Nat.{ℕ, ◌+◌, ◌-◌, ◌*◌, ◌/◌}
use native.Mathlib.Omega.{arith}
use lib.ListN.{length, take, drop, length-drop}
use lib.Seq.{length-take-le}
use Rattle.crc.specs.Bits.{Bits, binary, bits_of}
use Rattle.block.specs.Lengths.{block_bytes}
use Rattle.block.specs.Block.{block_bits}
use Rattle.block.specs.Calls.{overwritten}
use Rattle.block.proofs.Lengths.{length_facts}
use Rattle.line.proofs.ServiceBits.{service_lt16}
use Rattle.line.proofs.ItemBlocks.{item_byte, whole_data}
use Rattle.line.proofs.sender.Setup.write_whole.Goals as goal

pub overflow_mul-start : goal.overflow_mul-start
overflow_mul-start c = let e = item_byte c.args.i c.args.self.k (length_facts c.args.self.k c.requires.0.known).0 in search rules

pub overflow_add-end : goal.overflow_add-end
overflow_add-end c = let e = item_byte c.args.i c.args.self.k (length_facts c.args.self.k c.requires.0.known).0 in
    let f = length_facts c.args.self.k c.requires.0.known in
    search rules

pub slice_bounds-build-end : goal.slice_bounds-build-end
slice_bounds-build-end c = let e = item_byte c.args.i c.args.self.k (length_facts c.args.self.k c.requires.0.known).0 in
    let f = length_facts c.args.self.k c.requires.0.known in
    search rules

-- the item's part, as the code cuts it
cut : (from m : ℕ) → from + m - from ≡ m
cut from m = omega arith

pub build-requires : goal.build-requires
build-requires c = let a = c.args in
    let f = length_facts a.self.k c.requires.0.known in
    let g = item_byte a.i a.self.k f.0 in
    let m = a.self.k / 8 in
    let from = a.i * (a.self.k / 8) in
    let part : List ℕ = take (from + m - from) (drop from a.order.now) in
    let n : length part ≡ m =
    length-take-le (from + m - from) (drop from a.order.now) (omega (arith, length-drop from a.order.now)) ∙ cut from m
    in
    (c.requires.0, rw c.data_service.ensures (service_lt16 a.self.marks a.i), omega arith)

pub returns : goal.returns
returns c = let a = c.args in
    let f = length_facts a.self.k c.requires.0.known in
    let from = a.i * (a.self.k / 8) in
    c.build.ensures
    ∙ ap₂ (λ (s : ℕ) (p : Bits). overwritten (block_bytes a.self.k) (block_bits (binary 4 s) p) a.block.now) c.data_service.ensures
    (ap (λ (j : ℕ). take a.self.k (bits_of (take j (drop from a.order.now)))) (cut from (a.self.k / 8))
    ∙ whole_data a.i a.self.k a.order.now f.0)
