-- `Window::store` packs the window into two bytes. Assumes nothing.
use mathlib.Core.Path.{ap, ◌∙◌}
use Prim.Native.Nat.{ℕ, ◌-◌, ◌*◌, ◌%◌, ◌^◌}
use Rattle.std.specs.Int.{w16, to_be_bytes}
use Rattle.line.proofs.SearchWindow.{stored_lt, stored_bytes}
use Rattle.line.proofs.window.Window.store.Goals as goal

pub overflow_cast-both-2 : goal.overflow_cast-both-2
overflow_cast-both-2 c = let w = c.args.self in
    record { fits = rw c.from.ensures (stored_lt w.held w.few w.number w.within) }

pub returns : goal.returns
returns c = let w = c.args.self in
    c.to_be_bytes.ensures
    ∙ ap (λ (n : ℕ). to_be_bytes w16 ((n * 2 ^ (16 - w.held)) % 4294967296)) c.from.ensures
    ∙ stored_bytes w.held w.few w.number w.within
