-- `Setup::write_end` builds the end block. Assumes nothing.
use borrow.Author.Rules.{rules}
use mathlib.Core.Path.{◌≡◌, ap, ◌∙◌}
use native.Mathlib.Omega.{arith}
use lib.ListN.{length}
use Rattle.crc.specs.Bits.{Bits, binary}
use Rattle.block.specs.Lengths.{block_bytes}
use Rattle.block.specs.Block.{block_bits}
use Rattle.block.specs.Calls.{overwritten}
use Rattle.block.proofs.Lengths.{length_facts}
use Rattle.line.specs.Order.{end_service}
use Rattle.line.proofs.Items.{valid_most}
use Rattle.line.proofs.ItemBlocks.{end_data}
use Rattle.line.proofs.sender.Setup.write_end.Goals as goal

pub end_data-payload-requires : goal.end_data-payload-requires
end_data-payload-requires c = valid_most _ c.requires.valid

pub build-requires : goal.build-requires
build-requires c = let f = length_facts c.args.self.k c.requires.known in
    let n : length c.end_data-payload.result ≡ 480 = search rules in
    (c.requires, omega arith, omega arith)

pub returns : goal.returns
returns c = let a = c.args in
    let f = length_facts a.self.k c.requires.known in
    c.build.ensures
    ∙ ap (λ (p : Bits). overwritten (block_bytes a.self.k) (block_bits (binary 4 end_service) p) a.block.now)
    (end_data a.self.k a.self.length (omega arith) (omega arith) c.end_data-payload.result c.end_data-payload.ensures)
