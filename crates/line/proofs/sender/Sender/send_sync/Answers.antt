-- `Sender::send_sync` sends a synchronising block. Assumes nothing.
use mathlib.Core.Path.{refl}
use Rattle.block.proofs.Lengths.{length_facts}
use Rattle.line.specs.Sending.{transmit, sent_bits}
use Rattle.line.proofs.SenderRange.{in_range}
use Rattle.line.proofs.ItemBlocks.{synchronised, synchronised_ok}
use Rattle.line.proofs.sender.Sender.send_sync.Goals as goal

pub unwrap-requires : goal.unwrap-requires
unwrap-requires c = let a = c.args in
    let r = in_range a.self c.requires.0.range in
    synchronised_ok a.self.setup.k a.block.now _ _ (length_facts a.self.setup.k r.known).0 c.requires.1 c.synchronising.ensures

pub returns : goal.returns
unfolding transmit sent_bits
returns c order reading = let a = c.args in
    let r = in_range a.self c.requires.0.range in
    let b = c.synchronising in
    record {
      answers = refl;
      state = refl;
      writes =
          synchronised a.self.setup.k a.block.now b.result b.new.block (length_facts a.self.setup.k r.known).0 c.requires.1 b.ensures;
    }
