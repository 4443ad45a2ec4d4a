-- `Checked::has_room` judges the store in whole bytes. Assumes nothing.
use native.Mathlib.Omega.{arith}
use Rattle.block.proofs.Lengths.{length_facts}
use Rattle.line.proofs.StorePlace.{start-lt, room_test}
use Rattle.line.proofs.head.Checked.has_room.Goals as goal

pub overflow_mul-result : goal.overflow_mul-result
overflow_mul-result c = let h = start-lt c.args.self.head.setup.k c.args.self.head.taken c.args.self.known c.args.self.items in
    omega arith

pub overflow_add-result : goal.overflow_add-result
overflow_add-result c = let h = start-lt c.args.self.head.setup.k c.args.self.head.taken c.args.self.known c.args.self.items in
    let f = length_facts c.args.self.head.setup.k c.args.self.known in
    omega arith

pub returns : goal.returns
returns c = room_test c.args.self.head.setup.k c.args.self.head.taken c.args.self.known c.args.store.now
