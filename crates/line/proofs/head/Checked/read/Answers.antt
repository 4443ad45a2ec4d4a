-- `Checked::read` meets its contract by the phase. Assumes nothing.
use mathlib.Core.Path.{sym}
use native.Mathlib.Omega.{arith}
use lib.ListN.{take}
use lib.Seq.{length-take-le}
use Rattle.crc.specs.Bits.{bits_of}
use Rattle.crc.proofs.Bytes.{length-bits_of}
use Rattle.line.specs.Receiving.{held_bits}
use Rattle.line.specs.ReceivingInPlace.{with_array}
use Rattle.line.proofs.ReceivingCall.{handed_idle, handed_by, handed_search, handed_under_alarm}
use Rattle.line.proofs.head.Checked.read.Goals as goal

pub returns-then-line-eq0 : goal.returns-then-line-eq0
returns-then-line-eq0 c = let a = c.args in
    handed_idle (with_array a.self.head a.array.now) a.store.now (take a.line.bits (bits_of a.line.bytes.now)) a.line.bits a.ready c.if-line-eq0.true _ (c.idle.ensures a.array.now)

pub returns-in-Search : goal.returns-in-Search
returns-in-Search c = let a = c.args in
    let s = with_array a.self.head a.array.now in
    let new = take a.line.bits (bits_of a.line.bytes.now) in
    handed_by s a.store.now new a.line.bits a.ready c.if-line-eq0.false _ c.in-Search.is _ _
    (handed_search s a.store.now (held_bits s) new 0 _ c.search.ensures)

pub returns-in-InStep : goal.returns-in-InStep
returns-in-InStep c = let a = c.args in
    handed_by (with_array a.self.head a.array.now) a.store.now (take a.line.bits (bits_of a.line.bytes.now)) a.line.bits a.ready c.if-line-eq0.false
    _ c.in-InStep.is _ _ c.in_step.ensures

pub returns-in-SequenceAlarm : goal.returns-in-SequenceAlarm
returns-in-SequenceAlarm c = let n = length-take-le c.args.line.bits (bits_of c.args.line.bytes.now) (omega (arith, length-bits_of c.args.line.bytes.now)) in
    handed_by (with_array c.args.self.head c.args.array.now) c.args.store.now (take c.args.line.bits (bits_of c.args.line.bytes.now)) c.args.line.bits c.args.ready c.if-line-eq0.false
    _ c.in-SequenceAlarm.is _ _ (handed_under_alarm _ _ _ _ _ (sym n) _ (c.under_alarm.ensures c.args.array.now))

pub returns-in-LengthAlarm : goal.returns-in-LengthAlarm
returns-in-LengthAlarm c = let n = length-take-le c.args.line.bits (bits_of c.args.line.bytes.now) (omega (arith, length-bits_of c.args.line.bytes.now)) in
    handed_by (with_array c.args.self.head c.args.array.now) c.args.store.now (take c.args.line.bits (bits_of c.args.line.bytes.now)) c.args.line.bits c.args.ready c.if-line-eq0.false
    _ c.in-LengthAlarm.is _ _ (handed_under_alarm _ _ _ _ _ (sym n) _ (c.under_alarm-in-LengthAlarm.ensures c.args.array.now))
