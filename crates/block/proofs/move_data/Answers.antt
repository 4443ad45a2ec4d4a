-- `move_data` keeps its promise: both slices judged, then the data moved. Assumes nothing.
use native.Mathlib.Omega.{arith}
use Rattle.block.proofs.Refusals.{move_slice, move_payload, moved}
use Rattle.block.proofs.move_data.Goals as goal

pub returns-then-block-m : goal.returns-then-block-m
returns-then-block-m c = let a = c.args in
    move_slice a.m a.block.now a.payload.now c.if-block-m.true

pub returns-then-payload-m : goal.returns-then-payload-m
returns-then-payload-m c = let a = c.args in
    move_payload a.m a.block.now a.payload.now (omega arith) c.if-payload-m.true

pub returns : goal.returns
returns c = let a = c.args in
    moved a.m a.block.now a.payload.now (omega arith) (omega arith) _ c.shift_half.ensures
