-- `check` keeps its promise: refused by its test, then the check. Assumes nothing.
use mathlib.Core.Path.{sym, ap, ◌∙◌}
use Prim.Native.Nat.{◌*◌}
use native.Mathlib.Omega.{arith}
use borrow.Author.Tests.{ltb-false}
use lib.ListN.{length}
use Rattle.block.specs.Answer.{done}
use Rattle.block.specs.Lengths.{block_length}
use Rattle.block.proofs.Refusals.{check_slice, check_done}
use Rattle.block.proofs.packed.check.Goals as goal

pub returns-then-short_of_block : goal.returns-then-short_of_block
returns-then-short_of_block c = let a = c.args in
    check_slice (8 * a.m) a.block.now (sym c.short_of_block.ensures ∙ c.if-short_of_block.true)

pub remainder_of-requires : goal.remainder_of-requires
remainder_of-requires c = let a = c.args in
    omega (arith, ltb-false (8 * length a.block.now) (block_length (8 * a.m)) (sym c.short_of_block.ensures ∙ c.if-short_of_block.false))

pub returns-else-short_of_block : goal.returns-else-short_of_block
returns-else-short_of_block c = let a = c.args in
    record {
      answers = ap done c.remainder_of.ensures
          ∙ sym (check_done (8 * a.m) a.block.now (sym c.short_of_block.ensures ∙ c.if-short_of_block.false));
    }
