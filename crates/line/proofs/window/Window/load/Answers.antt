-- `Window::load` reads the bits held out of the array's first two bytes. Assumes nothing.
use mathlib.Core.Path.{refl, ◌∙◌}
use Rattle.line.proofs.SearchWindow.{loaded_lt, loaded_bits}
use native.Mathlib.Omega.{arith}
use borrow.Author.Rules.{rules}
use Rattle.line.proofs.window.Window.load.Goals as goal

pub invariant_of-result : goal.invariant_of-result
invariant_of-result c = record { few = c.requires; within = loaded_lt c.args.held c.requires c.from-both.result (omega arith) }

pub returns : goal.returns
returns c = (
  refl,
  loaded_bits c.args.held c.requires c.from-both.result (omega arith) c.args.pair (search rules) (λ i. search rules)
      (c.from-both.ensures ∙ c.from_be_bytes.ensures),
)
