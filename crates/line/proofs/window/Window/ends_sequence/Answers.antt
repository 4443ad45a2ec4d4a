-- `Window::ends_sequence` compares sixteen bits with the sequence, and fewer never. Assumes nothing.
use mathlib.Core.Path.{ap, ◌∙◌}
use Prim.Native.Nat.{ℕ}
use native.Mathlib.Omega.{arith}
use borrow.Author.Tests.{ne_eqb}
use lib.Dec.{eqb}
use Rattle.crc.specs.Bits.{number}
use Rattle.line.proofs.SearchWindow.{no_sequence, sequence}
use Rattle.line.proofs.window.Window.ends_sequence.Goals as goal

pub returns-then-self-eq15 : goal.returns-then-self-eq15
unfolding number
returns-then-self-eq15 c = let w = c.args.self in
    ap (λ (x : ℕ). eqb x 20645) c.shifted.ensures ∙ sequence w.held w.number c.if-self-eq15.true w.within c.args.next

pub returns-else-self-eq15 : goal.returns-else-self-eq15
returns-else-self-eq15 c = let w = c.args.self in
    ne_eqb w.held 15 c.if-self-eq15.false ∙ no_sequence w.held w.number w.few w.within c.args.next (omega arith)
