-- `end_length` reads the four bytes behind the version as one number. Assumes nothing.
use mathlib.Core.Path.{sym, ◌∙◌}
use native.Mathlib.Omega.{arith}
use borrow.Author.Rules.{rules}
use Rattle.line.proofs.BlockFields.{four_bytes}
use Rattle.line.proofs.rules.end_length.Goals as goal

pub returns : goal.returns
returns c = c.from_be_bytes.ensures ∙ sym (four_bytes c.args.payload.now (omega arith) (λ i. search rules))
