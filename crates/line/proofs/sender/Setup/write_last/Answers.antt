-- `Setup::write_last` builds item i from the order's last bits. Assumes nothing.
use borrow.Author.Rules.{rules}
use mathlib.Core.Path.{◌≡◌, ap₂, ◌∙◌}
use Prim.Native.Nat.{ℕ}
use native.Mathlib.Omega.{arith}
use lib.ListN.{length}
use Rattle.crc.specs.Bits.{Bits, binary}
use Rattle.block.specs.Lengths.{block_bytes}
use Rattle.block.specs.Block.{block_bits}
use Rattle.block.specs.Calls.{overwritten}
use Rattle.block.proofs.Lengths.{length_facts}
use Rattle.line.proofs.ServiceBits.{service_lt16}
use Rattle.line.proofs.ItemBlocks.{item_byte, last_data}
use Rattle.line.proofs.sender.Setup.write_last.Goals as goal

pub overflow_mul-i : goal.overflow_mul-i
overflow_mul-i c = let e = item_byte c.args.i c.args.self.k (length_facts c.args.self.k c.requires.0.known).0 in search rules

pub last_data-payload-requires : goal.last_data-payload-requires
last_data-payload-requires c = let e = item_byte c.args.i c.args.self.k (length_facts c.args.self.k c.requires.0.known).0 in
    let f = length_facts c.args.self.k c.requires.0.known in
    search rules

pub build-requires : goal.build-requires
build-requires c = let a = c.args in
    let f = length_facts a.self.k c.requires.0.known in
    let n : length c.last_data-payload.result ≡ 480 = search rules in
    (c.requires.0, rw c.data_service.ensures (service_lt16 a.self.marks a.i), omega arith)

pub returns : goal.returns
returns c = let a = c.args in
    let f = length_facts a.self.k c.requires.0.known in
    c.build.ensures
    ∙ ap₂ (λ (s : ℕ) (p : Bits). overwritten (block_bytes a.self.k) (block_bits (binary 4 s) p) a.block.now) c.data_service.ensures
    (last_data a.i a.self.k a.self.length a.order.now c.last_data-payload.result f.0 f.2 c.requires.1 c.requires.2 c.requires.3 c.last_data-payload.ensures)
