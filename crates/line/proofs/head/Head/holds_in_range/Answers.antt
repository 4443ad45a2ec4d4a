-- `Head::holds_in_range` compares the bits held with those of a block. Assumes nothing.
use native.Mathlib.Omega.{arith}
use Rattle.block.proofs.Lengths.{length_facts}
use Rattle.line.proofs.head.Head.holds_in_range.Goals as goal

pub overflow_add-result : goal.overflow_add-result
overflow_add-result c = let f = length_facts c.args.self.setup.k c.requires in
    omega arith
