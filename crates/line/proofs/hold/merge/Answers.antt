-- `merge` meets its contract: two bytes under a mask and its complement. Assumes nothing.
use Rattle.line.proofs.BitMoves.{merged_bits}
use Rattle.line.proofs.hold.merge.Goals as goal

pub returns : goal.returns
returns c = merged_bits c.args.n c.requires c.args.new c.args.old
