-- `Checked::in_step` meets its contract: the block is finished, or the array with the new bits is the state's. Assumes nothing.
use mathlib.Core.Path.{◌≡◌, sym, subst}
use native.Mathlib.Omega.{arith}
use lib.ListN.{length, take}
use lib.Seq.{length-take-le}
use Rattle.crc.specs.Bits.{bits_of}
use Rattle.crc.proofs.Bytes.{length-bits_of}
use Rattle.block.proofs.Lengths.{length_facts}
use Rattle.line.specs.Receiving.{Reception}
use Rattle.line.specs.ReceivingInPlace.{with_array}
use Rattle.line.specs.Code.ReceiveSteps.{step_with, Handed}
use Rattle.line.proofs.InStepBits.{in_step_more, in_step_done}
use Rattle.line.proofs.head.Checked.in_step.Goals as goal

pub overflow_add-missing : goal.overflow_add-missing
overflow_add-missing c = let f = length_facts c.args.self.head.setup.k c.args.self.known in
    omega arith

pub returns-then-missing-line : goal.returns-then-missing-line
returns-then-missing-line c = let call = c.finish in
    subst (λ (x : Reception). Handed (with_array c.args.self.head c.args.array.now) c.args.store.now x (step_with call.result call.new.array) call.new.store)
    (in_step_done (with_array c.args.self.head c.args.array.now) c.args.line.bytes.now c.args.line.bits c.args.ready c.args.line.held (omega arith))
    call.ensures

pub put_bits-requires : goal.put_bits-requires
put_bits-requires c = let f = length_facts c.args.self.head.setup.k c.args.self.known in
    omega arith

pub overflow_add-next : goal.overflow_add-next
overflow_add-next c = let f = length_facts c.args.self.head.setup.k c.args.self.known in
    omega arith

pub returns : goal.returns
returns c = let a = c.args in
    let n : a.line.bits ≡ length (take a.line.bits (bits_of a.line.bytes.now)) =
    sym (length-take-le a.line.bits (bits_of a.line.bytes.now) (omega (arith, length-bits_of a.line.bytes.now))) in
    rw (c.reports.ensures c.put_bits.new.array)
    (in_step_more (with_array a.self.head a.array.now) (take a.line.bits (bits_of a.line.bytes.now)) a.ready a.store.now _ a.line.bits c.put_bits.ensures n (omega arith))
