-- `Head::hold_window` writes the window into the array's first two bytes. Assumes nothing.
use mathlib.Core.Path.{sym, ap₂, ◌∙◌}
use mathlib.Core.Bool.{true}
use mathlib.Core.List.{List, ◌++◌}
use Prim.Native.Nat.{ℕ}
use lib.ListN.{drop}
use Rattle.crc.proofs.Rows.{length-binary}
use Rattle.line.specs.Code.ReceiveSteps.{stepped}
use Rattle.line.specs.declared.receiving.Event.TheVariants as E
use Rattle.line.proofs.head.Head.hold_window.Goals as goal

pub returns : goal.returns
returns c = let a = c.args in
    c.reports.ensures _
    ∙ ap₂ (λ (l : List ℕ) (n : ℕ). stepped (record { setup = a.self.setup; bits = l ++ drop 2 a.array.now; held = n; bad_row = a.self.bad_row; back = true; taken = a.self.taken; ended = a.self.ended; phase = a.self.phase }) E.None a.used)
    (c.copy_from_slice.ensures.after ∙ c.store.ensures) (sym (length-binary a.window.held a.window.number))
