-- `Receiver::receive` is the call in place on its own array. Assumes nothing.
use mathlib.Core.Path.{◌≡◌}
use lib.ListN.{length}
use Rattle.line.proofs.InPlace.{by_value}
use borrow.Author.Rules.{rules}
use Rattle.line.proofs.receiver.Receiver.receive.Goals as goal

pub returns : goal.returns
returns c = let n : length c.args.self.bits ≡ 483 = search rules in
    rw (← c.head.ensures) (by_value _ _ _ _ _ _ n _ _ _ c.receive-step.ensures)
