-- `Generator::damage` keeps its promise: a second draw, its pattern laid over the block. Assumes nothing.
use Rattle.std.proofs.Common.{◌/◌, arith, rules}
use Rattle.block.proofs.Lengths.{length_facts}
use Rattle.noise.proofs.Loads.{holds, place-room, damaged}
use Rattle.noise.proofs.Generator.damage.Goals as goal

pub overflow_add-places : goal.overflow_add-places
overflow_add-places c = let f = length_facts c.args.k c.requires.0 in
    search rules

pub lay-requires : goal.lay-requires
lay-requires c = let k = c.args.k in
    let f = length_facts k c.requires.0 in
    let h = holds k c.args.block.now c.requires.1 in
    let p = place-room k (c.draw-number.result / 65536) in
    omega arith

pub returns : goal.returns
returns c = damaged c.args.k c.args.self.now c.args.block.now c.requires.1 _ _ _ c.draw-number.ensures.updates c.draw-number.ensures.draws c.lay.ensures
