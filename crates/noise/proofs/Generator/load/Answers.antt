-- `Generator::load` keeps its promise: a known length leaves room for the overhead. Assumes nothing.
use Rattle.std.proofs.Common.{sym, ◌∙◌, rules}
use Rattle.block.proofs.Lengths.{length_facts}
use Rattle.noise.proofs.Generator.load.Goals as goal

pub overflow_add-k : goal.overflow_add-k
overflow_add-k c = let f = length_facts c.args.k (sym c.known_length.ensures ∙ c.if-not-known_length.false) in
    search rules
