-- `Text::item` meets its contract. Assumes nothing.
use native.Mathlib.Omega.{arith}
use Rattle.session.proofs.Decimal.{length-decimal}
use Rattle.session.proofs.text.Text.item.Goals as goal

pub decimal-requires : goal.decimal-requires
decimal-requires c = omega (arith, length-decimal 19 c.args.number (omega arith))

pub returns-else-end-clause-len_bound : goal.returns-else-end-clause-len_bound
returns-else-end-clause-len_bound c = omega (arith, c.decimal.ensures.len, length-decimal 19 c.args.number (omega arith))
