-- `Generator::choose` keeps its promise: without a damaged span no byte changes. Assumes nothing.
use Rattle.std.proofs.Common.{refl, rules}
use Rattle.noise.proofs.Loads.{chooses_whole}
use Rattle.noise.proofs.Generator.choose.Goals as goal

pub returns-in_default : goal.returns-in_default
returns-in_default c =
    chooses_whole c.args.k c.args.self.now c.args.block.now _ c.draw.ensures.draws (search rules) _ _ c.draw.ensures.updates refl
    c.requires.1 (λ i. (c.type_inv.block i).fits)
