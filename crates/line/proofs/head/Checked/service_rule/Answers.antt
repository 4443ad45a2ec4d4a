-- `service_rule` answers the rule by the service bits. Assumes nothing.
use mathlib.Core.Path.{◌≡◌, sym, ap, ◌∙◌}
use mathlib.Core.List.{List}
use Prim.Native.Nat.{ℕ}
use native.Mathlib.Omega.{arith}
use borrow.Author.Tests.{eq-eqb}
use lib.ListN.{length, take}
use Rattle.crc.specs.Bits.{Bits, bits_of}
use Rattle.crc.proofs.Bytes.{length-bits_of}
use Rattle.block.specs.Lengths.{block_length}
use Rattle.block.specs.Block.{payload_of}
use Rattle.block.proofs.Lengths.{length_facts}
use Rattle.line.specs.Receiving.{end_rule, service_rule}
use Rattle.line.proofs.BlockFinished.{length_data, moved_ok, bits_moved, end_first_bits}
use borrow.Author.Rules.{rules}
use Rattle.line.proofs.head.Checked.service_rule.Goals as goal

pub returns-then-service-eq-END : goal.returns-then-service-eq-END
unfolding service_rule
returns-then-service-eq-END c = let k : ℕ = c.args.self.head.setup.k in
    let f = length_facts k c.args.self.known in
    let payload : List ℕ = c.move_data.new.payload in
    let n : length payload ≡ 5 = search rules in
    let d : Bits = payload_of k (take (block_length k) (bits_of c.args.row.now)) in
    let l : length d ≡ k = length_data k c.args.row.now c.requires in
    c.end_rule.ensures
    ∙ end_first_bits k c.args.self.head.taken c.args.self.head.ended (bits_of payload) (omega (arith, length-bits_of payload))
    ∙ ap (end_rule k c.args.self.head.taken c.args.self.head.ended) (bits_moved k c.args.row.now c.requires 5 (omega arith) _ (omega arith) _ payload c.move_data.ensures)
    ∙ sym (end_first_bits k c.args.self.head.taken c.args.self.head.ended d (omega arith))
    ∙ sym (simp (sym c.is_letter.ensures ∙ c.if-is_letter.false, eq-eqb _ _ c.if-service-eq-END.true))

pub unwrap-requires : goal.unwrap-requires
unwrap-requires c = let k : ℕ = c.args.self.head.setup.k in
    let f = length_facts k c.args.self.known in
    moved_ok k c.args.row.now c.requires 5 (omega arith) _ (omega arith) _ c.move_data.new.payload c.move_data.ensures
