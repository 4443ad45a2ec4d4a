-- `refuse_short`: no dose, or the doses that are there, judged. Assumes nothing.
use Rattle.tint.proofs.Entries.{positive}
use Rattle.line_c.proofs.HeldDoses.{held_none, held_refused, held_good}
use Rattle.line_c.proofs.tint_calls.refuse_short.Goals as goal

pub returns-then-held-eq0 : goal.returns-then-held-eq0
returns-then-held-eq0 c = held_none c.args.numbers.now c.if-held-eq0.true

pub returns-in-Err : goal.returns-in-Err
returns-in-Err c = held_refused c.args.numbers.now (positive _ c.if-held-eq0.false) c.requires _ c.load_doses.ensures _ c.in-Err.ensures.answers

pub returns-in-Ok : goal.returns-in-Ok
returns-in-Ok c = held_good c.args.numbers.now (positive _ c.if-held-eq0.false) c.requires _ c.load_doses.ensures c.in-Ok.ensures.answers
