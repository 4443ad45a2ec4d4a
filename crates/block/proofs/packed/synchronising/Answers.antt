-- `synchronising` keeps its promise. Assumes nothing.
use borrow.Author.Tests.{ltb-false}
use mathlib.Core.Path.{◌≡◌, sym, ap, ◌∙◌}
use native.Mathlib.Omega.{arith}
use Prim.Native.Nat.{ℕ, ◌/◌, ◌+◌, ◌*◌}
use lib.ListN.{length}
use Rattle.block.specs.Lengths.{block_length}
use Rattle.block.specs.Block.{sync_block}
use Rattle.block.specs.Calls.{overwritten}
use Rattle.block.proofs.Refusals.{sync_slice, sync_done}
use Rattle.block.proofs.packed.synchronising.Goals as goal

pub returns-then-short_of_block : goal.returns-then-short_of_block
returns-then-short_of_block c = let a = c.args in
    sync_slice (8 * a.m) a.block.now (sym c.short_of_block.ensures ∙ c.if-short_of_block.true)

pub fill_sync-requires : goal.fill_sync-requires
fill_sync-requires c = let a = c.args in
    omega (arith, ltb-false (8 * length a.block.now) (block_length (8 * a.m)) (sym c.short_of_block.ensures ∙ c.if-short_of_block.false))

pub returns : goal.returns
returns c = let a = c.args in
    let n : a.m ≡ 8 * a.m / 8 = omega arith in
    sync_done (8 * a.m) a.block.now (sym c.short_of_block.ensures ∙ c.if-short_of_block.false) _
    (c.fill_sync.ensures ∙ ap (λ (x : ℕ). overwritten (x + 3) (sync_block (8 * a.m)) a.block.now) n)
