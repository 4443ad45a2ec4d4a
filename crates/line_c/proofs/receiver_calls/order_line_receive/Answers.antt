-- `order_line_receive` writes what `receive` answers in numbers. Assumes nothing.
use Rattle.line_c.proofs.receiver_calls.order_line_receive.Goals as goal

pub returns-in-Ok : goal.returns-in-Ok
returns-in-Ok c = rw (c.report.ensures.0, c.report.ensures.1, c.report.ensures.2) (c.in-Ok.ensures _ _ _)

pub returns-in-Err : goal.returns-in-Err
returns-in-Err c = rw c.from.ensures (c.in-Err.ensures _ _ _)
