-- `heard_period` meets its contract. Assumes nothing.
use mathlib.Core.Path.{ap}
use native.Mathlib.Omega.{arith}
use lib.ListN.{length, take}
use Rattle.crc.specs.Bits.{bits_of}
use Rattle.crc.proofs.Bytes.{length-bytes_of}
use Rattle.session.specs.Period.{line_bytes, heard_result}
use Rattle.session.proofs.ReceivingCalls.{arrives}
use Rattle.session.proofs.period.heard_period.Goals as goal

pub disturb-requires : goal.disturb-requires
disturb-requires c = let l = c.requires in
    rw (ap length l.0.1, length-bytes_of line_bytes (take c.args.count (bits_of c.args.line.now))) (omega arith)

pub hear-heard-requires : goal.hear-heard-requires
hear-heard-requires c = let a = c.args in
    rw c.disturb.ensures (arrives a.kind a.line.now a.count c.requires.0 c.requires.1).lent

pub returns : goal.returns
returns c = let a = c.args in
    let g = arrives a.kind a.line.now a.count c.requires.0 c.requires.1 in
    let e = rw (c.disturb.ensures, g.bits) at c.hear-heard.ensures in
    rw c.outcome_of.ensures (ap (heard_result a.ends.sender a.sent) e)
