-- `Program::read_bytes` meets its contract: a byte a turn, its text behind those before it. Assumes nothing.
use Rattle.session.proofs.Outputs.{Going}
use Rattle.session.proofs.program.Program.read_bytes.Given as goal

abbrev pub invariant-loop-c : goal.invariant-loop-c
invariant-loop-c l = Going l.initial.self l.part l.initial.output l.self l.output l.c-index
