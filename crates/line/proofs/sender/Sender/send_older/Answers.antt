-- `Sender::send_older` sends the older item whole. Assumes nothing.
use mathlib.Core.Path.{refl, ap}
use native.Mathlib.Omega.{arith}
use Rattle.block.specs.Answer.{done}
use Rattle.line.specs.Sending.{transmit, sent_bits}
use Rattle.line.proofs.SenderRange.{in_range}
use Rattle.line.proofs.sender.Sender.send_older.Goals as goal

pub overflow_sub-older : goal.overflow_sub-older
overflow_sub-older c = let r = in_range c.args.self c.requires.sender.range in
    omega (arith, r.first)

pub write_item-requires : goal.write_item-requires
write_item-requires c = let r = in_range c.args.self c.requires.sender.range in
    (record { known = r.known; valid = r.valid; room = c.requires.room }, c.requires.order_lent)

pub returns : goal.returns
unfolding transmit sent_bits
returns c reading = record {
  answers = ap done c.item.ensures;
  state = refl;
  writes = c.write_item.ensures;
}
