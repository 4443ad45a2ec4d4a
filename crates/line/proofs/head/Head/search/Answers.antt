-- `Head::search` meets its contract: searching on from the window at each bit gives what searching all the bits gives. Assumes nothing.
use mathlib.Core.Path.{refl, sym, ap, ◌∙◌}
use native.Mathlib.Omega.{arith}
use lib.ListN.{take}
use Rattle.crc.specs.Bits.{Bits, binary, bits_of}
use Rattle.line.specs.Receiving as S
use Rattle.line.specs.ReceivingInPlace.{with_array}
use Rattle.line.specs.Code.ReceiveSteps.{handed_back}
use Rattle.line.proofs.LineSearch.{window_held, search_found, search_on}
use Rattle.line.proofs.head.Head.search.Goals as goal

pub loop-used-init : goal.loop-used-init
loop-used-init c = let a = c.args in (
  refl,
  ap (λ (w : Bits). S.search (with_array a.self a.array.now) w (take a.line.bits (bits_of a.line.bytes.now)) 0)
      (c.load-window.ensures.1 ∙ window_held a.array.now a.self.held (omega arith) (omega arith)),
)

pub returns-then-ends_sequence : goal.returns-then-ends_sequence
returns-then-ends_sequence c = let l = c.loop-used in
    c.after_good.ensures
    ∙ ap handed_back
    (search_found (with_array c.args.self c.args.array.now) c.args.line.bytes.now c.args.line.bits c.args.line.held (binary l.window.held l.window.number) l.used _ c.loop-used-test.true
    c.bit_at-next.ensures (sym c.ends_sequence.ensures ∙ c.if-ends_sequence.true) ∙ l.invariant.1)

pub loop-used-preserved : goal.loop-used-preserved
loop-used-preserved c = let l = c.loop-used in (
  l.invariant.0,
  search_on (with_array c.args.self c.args.array.now) c.args.line.bytes.now c.args.line.bits c.args.line.held (binary l.window.held l.window.number) l.used _ c.loop-used-test.true
      c.bit_at-next.ensures (sym c.ends_sequence.ensures ∙ c.if-ends_sequence.false) _ c.slide-window.ensures ∙ l.invariant.1,
)
