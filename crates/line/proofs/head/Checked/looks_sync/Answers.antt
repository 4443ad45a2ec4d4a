-- `Checked::looks_sync` is rule 1: the first four bits, and the last sixteen where the reader has its check bits. Assumes nothing.
use mathlib.Core.Path.{refl, ◌∙◌}
use Prim.Native.Nat.{◌/◌}
use mir.Syntax.{w16}
use mir.Val.{Fits}
use borrow.Author.Tests.{ne_eqb}
use Rattle.crc.specs.Bits.{number}
use Rattle.line.proofs.BlockFields.{other_service, same_service}
use borrow.Author.Rules.{rules}
use Rattle.line.proofs.head.Checked.looks_sync.Goals as goal

pub returns-else-row-eq-SYNC : goal.returns-else-row-eq-SYNC
unfolding number
returns-else-row-eq-SYNC c = let k = c.args.self.head.setup.k in
    ne_eqb _ _ c.if-row-eq-SYNC.false
    ∙ other_service k c.args.self.known c.args.row.now c.requires (search rules) c.if-row-eq-SYNC.false

pub returns-then-row-eq-SYNC : goal.returns-then-row-eq-SYNC
unfolding number
returns-then-row-eq-SYNC c = let k = c.args.self.head.setup.k in
    let w : Fits w16 c.received_check.result = search rules in
    same_service k c.args.self.known c.args.row.now c.requires (k / 8) c.received_check.result refl w.fits
    c.received_check.ensures (search rules) c.if-row-eq-SYNC.true
