-- `Window::shifted` puts one bit behind the window's number. Assumes nothing.
use mathlib.Core.Path.{ap, ◌∙◌}
use Prim.Native.Nat.{◌*◌, ◌%◌}
use lib.Bits.{bit_or}
use Rattle.line.proofs.SearchWindow.{shifted}
use Rattle.line.proofs.window.Window.shifted.Goals as goal

pub returns : goal.returns
returns c = let w = c.args.self in
    ap (bit_or ((w.number * 2) % 65536)) c.from.ensures ∙ shifted w.held w.number w.few w.within c.args.next
