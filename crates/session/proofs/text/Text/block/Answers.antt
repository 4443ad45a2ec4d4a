-- `Text::block` meets its contract. Assumes nothing.
use native.Mathlib.Omega.{arith}
use mathlib.Core.Path.{◌≡◌}
use lib.ListN.{length}
use Rattle.session.proofs.Appending.{appends_more}
use borrow.Author.Rules.{rules}
use Rattle.session.proofs.text.Text.block.Goals as goal

pub returns-in-Item-clause-appends : goal.returns-in-Item-clause-appends
returns-in-Item-clause-appends c = let s = c.args.self.now in
    let n : length s.bytes ≡ 64 = search rules in
    rw c.in-Item.is (appends_more s c.mark.new.self c.item.new.self _ _ (omega arith) c.mark.ensures.appends c.item.ensures.appends)
