-- The three stores of `put_check` are the last three bytes of a packed block. Assumes nothing.
use borrow.Author.Rules.{rules}
use mathlib.Core.List.{List, ◌++◌}
use mathlib.Core.Path.{sym, ap, ◌∙◌}
use mir.Facts.{Fits-mask}
use native.Mathlib.Omega.{arith}
use Prim.Native.Nat.{ℕ, ◌+◌, ◌/◌}
use lib.ListN.{take, drop, length-set}
use Rattle.block.proofs.Packing.{check_bytes, three_stores}
use Rattle.block.proofs.packed.put_check.Goals as goal

pub overflow_cast-block-2 : goal.overflow_cast-block-2
overflow_cast-block-2 c = Fits-mask (c.args.check / 16) 8 tt

pub bounds-block-m-2 : goal.bounds-block-m-2
bounds-block-m-2 c = simp length-set (omega arith)

pub overflow_cast-block-3 : goal.overflow_cast-block-3
overflow_cast-block-3 c = Fits-mask c.args.check 4 tt

pub bounds-block-m-3 : goal.bounds-block-m-3
bounds-block-m-3 c = simp length-set (omega arith)

pub returns : goal.returns
returns c = three_stores c.args.block.now c.args.m _ _ _ (search rules)
    ∙ ap (λ (l : List ℕ). take c.args.m c.args.block.now ++ (l ++ drop (c.args.m + 3) c.args.block.now))
    (sym (check_bytes c.args.last c.args.check (search rules)))
