-- `judge_doses`: doses that rise are no more than twelve. Assumes nothing.
use mathlib.Core.Path.{sym, ◌∙◌}
use native.Mathlib.Omega.{arith}
use Rattle.tint.proofs.Entries.{at_most_twelve}
use Rattle.tint.proofs.judge_doses.Goals as goal

pub total_steps-requires : goal.total_steps-requires
total_steps-requires c =
    let n = at_most_twelve 0 c.args.doses.now (omega arith) (sym c.in_range_and_order.ensures ∙ c.if-not-in_range_and_order.false) in omega arith
