-- `Program::read_bytes` meets its contract: a byte a turn, its text behind those before it. Assumes nothing.
use mathlib.Core.Path.{◌≡◌}
use native.Mathlib.Omega.{arith}
use borrow.Author.Rules.{rules}
use lib.ListN.{length}
use Rattle.session.specs.Program.{output_room}
use Rattle.session.proofs.Outputs.{begins, further, all_read}
use Rattle.session.proofs.program.Program.read_bytes.Goals as goal

pub loop-c-init : goal.loop-c-init
loop-c-init c = begins c.args.self.now c.args.part.now c.args.output.now

pub loop-c-preserved : goal.loop-c-preserved
loop-c-preserved c = let a = c.args in
    let r = c.read_byte in
    let n : length a.output.now.bytes ≡ output_room = search rules in
    further a.self.now a.part.now a.output.now _ _ c.loop-c.c-index c.loop-c.invariant (omega (arith, c.requires)) c.loop-c-test.true
    r.new.self r.new.output r.ensures.program r.ensures.appends r.ensures.fits

pub returns : goal.returns
returns c = let m = all_read _ _ _ _ _ _ c.loop-c.invariant (omega arith) in
    record { program = m.0; appends = m.1 }
