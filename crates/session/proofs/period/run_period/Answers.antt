-- `run_period` meets its contract: by what the sending call promises, the receiving calls follow. Assumes nothing.
use mathlib.Core.Path.{sym, ◌∙◌}
use native.Mathlib.Omega.{arith}
use Rattle.session.proofs.PeriodCalls.{not-sent, BlockSent, sent}
use Rattle.session.proofs.period.run_period.Goals as goal
use Rattle.session.proofs.period.run_period.Goals.{In-Ok}

-- the block that the call sent
block-sent : (c : In-Ok)
    → let a = c.args in
    let r = c.reading_of-reading in
    let w = c.send-step in
    BlockSent a.kind a.ends.sender a.ends.receiver a.order.now a.store.now r.result w.result w.new.block r.ensures w.ensures c.in-Ok.sent
block-sent c = sent _ _ _ _ _ _ _ _ _ _ _ c.in-Ok.is

pub overflow_add-count : goal.overflow_add-count
overflow_add-count c = let g = block-sent (goal.at.overflow_add-count c).In-Ok in omega (arith, g.count)

pub heard_period-requires : goal.heard_period-requires
heard_period-requires c = let g = block-sent (goal.at.heard_period-requires c).In-Ok in (g.lent, omega arith)

pub returns-in-Err : goal.returns-in-Err
returns-in-Err c = let a = c.args in
    let r = c.reading_of-reading in
    let w = c.send-step in
    not-sent a.kind a.ends.sender a.ends.receiver a.order.now a.store.now r.result w.result w.new.block r.ensures w.ensures _ c.in-Err.is

pub returns-in-Ok : goal.returns-in-Ok
returns-in-Ok c = let g = block-sent (goal.at.returns-in-Ok c).In-Ok in
    (rw c.as_shown.ensures at c.heard_period.ensures) ∙ sym g.result
