-- `Setup::write_item` writes an end block, the last item or an item that the order fills. Assumes nothing.
use borrow.Author.Rules.{rules}
use mathlib.Core.Path.{refl, ap, sym, ◌∙◌}
use Prim.Native.Nat.{◌≤◌, ◌<◌}
use native.Mathlib.Omega.{arith}
use Rattle.crc.specs.Bits.{Bits}
use Rattle.block.specs.Lengths.{block_bytes}
use Rattle.block.specs.Calls.{overwritten}
use Rattle.block.proofs.Lengths.{length_facts}
use Rattle.line.specs.Order.{item_count, order_bits}
use Rattle.line.proofs.Items.{item_bits_end}
use Rattle.line.proofs.ItemBlocks.{item_start, filled_item, unfilled_item, whole_item, last_item, data_item}
use Rattle.line.proofs.sender.Setup.write_item.Goals as goal
use Rattle.line.proofs.sender.Setup.write_item.Goals.{Else-items-i}

pub returns-then-items-i : goal.returns-then-items-i
returns-then-items-i c = let s = c.args.self in
    let n : item_count s.k s.length ≤ c.args.i = omega (arith, c.items.ensures, c.if-items-i.true) in
    c.write_end.ensures
    ∙ ap (λ (b : Bits). overwritten (block_bytes s.k) b c.args.block.now)
    (sym (item_bits_end s.marks s.k s.length (order_bits s.length c.args.order.now) c.args.i n))

pub nonzero_div-self : goal.nonzero_div-self
nonzero_div-self c = let f = length_facts c.args.self.k c.requires.0.known in
    search rules

-- a data item is one of the order's items
item : (c : Else-items-i) → c.args.i < item_count c.args.self.k c.args.self.length
item c = omega (arith, c.items.ensures, c.if-items-i.false)

positive : (c : Else-items-i) → 0 < c.args.self.k
positive c = let f = length_facts c.args.self.k c.requires.0.known in omega arith

pub write_last-requires : goal.write_last-requires
write_last-requires c = let s = c.args.self in
    let e = (goal.at.write_last-requires c).Else-items-i in
    let from = item_start s.k s.length c.args.i (positive e) (item e) in
    let to = unfilled_item s.k s.length c.args.i (positive e) c.if-self-i.true in
    (c.requires.0, omega arith, omega arith, c.requires.1)

pub returns-then-self-i : goal.returns-then-self-i
returns-then-self-i c = let s = c.args.self in
    let e = (goal.at.returns-then-self-i c).Else-items-i in
    let to = unfilled_item s.k s.length c.args.i (positive e) c.if-self-i.true in
    c.write_last.ensures
    ∙ ap (λ (b : Bits). overwritten (block_bytes s.k) b c.args.block.now)
    (data_item s.marks s.k s.length (order_bits s.length c.args.order.now) _ c.args.i _ (item e) refl
    (last_item s.k s.length c.args.order.now (positive e) c.requires.1 c.args.i (item e) to))

pub write_whole-requires : goal.write_whole-requires
write_whole-requires c = let s = c.args.self in
    let w = filled_item s.k s.length c.args.i c.if-self-i.false in
    (c.requires.0, omega (arith, c.requires.1))

pub returns-else-self-i : goal.returns-else-self-i
returns-else-self-i c = let s = c.args.self in
    let e = (goal.at.returns-else-self-i c).Else-items-i in
    let w = filled_item s.k s.length c.args.i c.if-self-i.false in
    c.write_whole.ensures
    ∙ ap (λ (b : Bits). overwritten (block_bytes s.k) b c.args.block.now)
    (data_item s.marks s.k s.length (order_bits s.length c.args.order.now) _ c.args.i _ (item e) refl
    (whole_item s.k s.length c.args.order.now (positive e) c.requires.1 c.args.i w))
