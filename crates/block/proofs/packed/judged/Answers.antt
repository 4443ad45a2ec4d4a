-- `judged` judges by zero. Assumes nothing.
use borrow.Author.Tests.{eq-eqb, ne_eqb}
use Rattle.block.proofs.packed.judged.Goals as goal

pub returns-then-remainder-ne0 : goal.returns-then-remainder-ne0
returns-then-remainder-ne0 c = rw (ne_eqb c.args.remainder 0 c.if-remainder-ne0.true)

pub returns : goal.returns
returns c = rw (eq-eqb c.args.remainder 0 c.if-remainder-ne0.false)
