-- `Window::slide` keeps the latest 15 bits at most. Assumes nothing.
use mathlib.Core.Path.{ap, ◌∙◌}
use Prim.Native.Nat.{ℕ, ◌+◌}
use native.Mathlib.Omega.{arith}
use lib.Bits.{bit_and}
use Rattle.crc.specs.Bits.{binary}
use Rattle.line.proofs.SearchWindow.{latest_more, latest_full}
use Rattle.line.proofs.window.Window.slide.Goals as goal

pub returns-then-self-lt15 : goal.returns-then-self-lt15
returns-then-self-lt15 c = let w = c.args.self in
    ap (binary (w.held + 1)) c.shifted-number.ensures ∙ latest_more w.held w.number w.few w.within c.args.next c.if-self-lt15.true

pub returns : goal.returns
returns c = let w = c.args.self in
    ap (λ (n : ℕ). binary 15 (bit_and n 32767)) c.shifted-number.ensures ∙ latest_full w.held w.number (omega arith) w.within c.args.next
