-- `Setup::build` builds a block, and is not refused. Assumes nothing.
use Rattle.block.proofs.Lengths.{length_facts}
use Rattle.line.proofs.ItemBlocks.{built, built_ok}
use Rattle.line.proofs.sender.Setup.build.Goals as goal

pub unwrap-requires : goal.unwrap-requires
unwrap-requires c = let a = c.args in
    let w = c.requires.0 in
    built_ok a.self.k a.block.now _ _ (length_facts a.self.k w.known).0 w.room a.service a.payload.now c.requires.1 c.requires.2 c.build.ensures

pub returns : goal.returns
returns c = let a = c.args in
    let w = c.requires.0 in
    built a.self.k a.block.now _ _ (length_facts a.self.k w.known).0 w.room a.service a.payload.now c.requires.1 c.requires.2 c.build.ensures
