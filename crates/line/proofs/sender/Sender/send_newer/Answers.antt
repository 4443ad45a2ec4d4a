-- `Sender::send_newer` sends the newer item, whole on reading 0 and cancelled on reading 1. Assumes nothing.
use mathlib.Core.Path.{◌≡◌, ap, ◌∙◌}
use mathlib.Core.List.{List}
use Prim.Native.Nat.{ℕ, ◌*◌, ◌≤◌}
use lib.ListN.{length}
use Rattle.crc.specs.Bits.{Bits}
use Rattle.block.specs.Answer.{done}
use Rattle.block.specs.Lengths.{block_length}
use Rattle.block.specs.Calls.{cancel_bytes}
use Rattle.block.proofs.Lengths.{length_facts}
use Rattle.line.specs.Order.{order_bits, item_bits}
use Rattle.line.specs.Sending.{transmit, sent_bits}
use Rattle.line.proofs.Items.{length-order_bits, length-item_bits}
use Rattle.line.proofs.SenderRange.{in_range}
use Rattle.line.proofs.ItemBlocks.{cancels, cancels_ok, cancel_overwritten}
use Rattle.line.proofs.sender.Sender.send_newer.Goals as goal

pub write_item-requires : goal.write_item-requires
write_item-requires c = let r = in_range c.args.self c.requires.sender.range in
    (record { known = r.known; valid = r.valid; room = c.requires.room }, c.requires.order_lent)

pub unwrap-requires : goal.unwrap-requires
unwrap-requires c = let s = c.args.self in
    let r = in_range s c.requires.sender.range in
    let room : block_length s.setup.k ≤ 8 * length c.write_item.new.block = rw c.write_item.auto.block c.requires.room in
    cancels_ok s.setup.k c.write_item.new.block _ _ (length_facts s.setup.k r.known).0 room c.cancel.ensures

pub returns-then-reading : goal.returns-then-reading
unfolding transmit sent_bits
returns-then-reading c = let b = c.cancel in
    let a = c.args in
    let s = a.self in
    let k = s.setup.k in
    let L = s.setup.length in
    let r = in_range s c.requires.sender.range in
    let whole = (length_facts k r.known).0 in
    let content : Bits = order_bits L a.order.now in
    let row : Bits = item_bits s.setup.marks k L content s.newer in
    let n : length row ≡ block_length k =
    length-item_bits k L content r.known (length-order_bits L a.order.now c.requires.order_lent) s.setup.marks s.newer
    in
    let room : block_length k ≤ 8 * length c.write_item.new.block = rw c.write_item.auto.block c.requires.room in
    rw c.if-reading.true
    (record {
      answers = ap done c.item.ensures;
      state = c.repeated.ensures;
      writes =
          cancels k c.write_item.new.block b.result b.new.block whole room b.ensures
          ∙ ap (λ (l : List ℕ). cancel_bytes k l (done tt)) c.write_item.ensures
          ∙ cancel_overwritten k row a.block.now whole n (λ i. (c.slice_known-1.given i).fits);
    })

pub returns : goal.returns
unfolding transmit sent_bits
returns c = rw c.if-reading.false
    (record {
      answers = ap done c.item-2.ensures;
      state = c.confirmed.ensures;
      writes = c.write_item.ensures;
    })
