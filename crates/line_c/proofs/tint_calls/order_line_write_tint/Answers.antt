-- `order_line_write_tint`: too many doses, a slice too short for them, and then what the crate `tint` answers. Assumes nothing.
use mathlib.Core.Path.{◌∙◌}
use native.Mathlib.Omega.{arith}
use Rattle.line_c.proofs.HeldDoses.{write_many, write-short, write_refused, write_done}
use Rattle.line_c.proofs.tint_calls.order_line_write_tint.Goals as goal

pub returns-then-count-gt-CANISTERS : goal.returns-then-count-gt-CANISTERS
returns-then-count-gt-CANISTERS c = let a = c.args in
    rw c.into.ensures (write_many a.doses.now a.count a.order.now a.bytes.now c.if-count-gt-CANISTERS.true)

pub returns-then-doses-count : goal.returns-then-doses-count
returns-then-doses-count c = let a = c.args in
    write-short a.doses.now a.count a.order.now a.bytes.now c.if-doses-count.true c.if-count-gt-CANISTERS.false _
    (c.into-then-doses-count.ensures ∙ c.refuse_short.ensures)

pub returns-in-Ok : goal.returns-in-Ok
returns-in-Ok c = let a = c.args in
    write_done a.doses.now a.count a.order.now a.bytes.now (omega arith) _ c.load_doses.ensures _ _ c.write.ensures _ c.in-Ok.is

pub returns-in-Err : goal.returns-in-Err
returns-in-Err c = let a = c.args in
    rw c.into-in-Err.ensures
    (write_refused a.doses.now a.count a.order.now a.bytes.now (omega arith) _ c.load_doses.ensures _ _ c.write.ensures _ c.in-Err.is)
