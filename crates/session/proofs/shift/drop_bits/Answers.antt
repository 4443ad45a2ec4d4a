-- `drop_bits` meets its contract: the bytes so far are those of the moved bits, the others as they were. Assumes nothing.
use mathlib.Core.Path.{◌≡◌, refl, sym}
use native.Mathlib.Omega.{arith}
use borrow.Author.Rules.{rules}
use lib.ListN.{length}
use lib.Seq.{take_all}
use Rattle.crc.specs.Bits.{bytes_of}
use Rattle.session.proofs.Shifting.{shift_more}
use Rattle.session.proofs.shift.drop_bits.Goals as goal

pub loop-i-init : goal.loop-i-init
unfolding bytes_of
loop-i-init c = (search rules, refl, refl)

pub loop-i-preserved : goal.loop-i-preserved
loop-i-preserved c = let l = c.loop-i in
    let e = rw (c.byte_at-in-loop-i.ensures, c.byte_at.ensures) at c.shifted.ensures in
    let m = shift_more l.s _ _ l.i c.shifted.result (omega arith) l.invariant.0 l.invariant.1 l.invariant.2 e in
    (l.invariant.0, m.0, m.1)

pub returns : goal.returns
returns c = let l = c.loop-i in
    let n : l.i ≡ length c.args.s.now = omega arith in
    rw (← n, ← l.invariant.1) (sym (take_all l.i l.s (omega arith)))
