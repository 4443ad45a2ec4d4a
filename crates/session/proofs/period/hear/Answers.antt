-- `hear` meets its contract: each call's promise is one call of the period's. Assumes nothing.
use mathlib.Core.Path.{◌≡◌, refl, sym, ◌∙◌}
use native.Mathlib.Omega.{arith}
use Rattle.session.specs.Period.{hear}
use Rattle.session.proofs.ReceivingCalls.{call-refusal, progress}
use Rattle.session.proofs.period.hear.Goals as goal

pub loop-left-init : goal.loop-left-init
loop-left-init c = (c.requires, refl, refl, refl)

pub returns-in-Err : goal.returns-in-Err
returns-in-Err c = let l = c.loop-left in
    let r = c.receive-step in
    let g =
    call-refusal l.state l.line l.left l.store l.last r.result r.new.store l.invariant.0
    c.loop-left-test.true r.ensures _ c.in-Err.is in
    sym g ∙ l.invariant.3

pub overflow_sub-left : goal.overflow_sub-left
overflow_sub-left c = let l = c.loop-left in
    let r = c.receive-step in
    let m =
    progress l.state l.line l.left l.store l.last r.result r.new.store l.invariant.0
    c.loop-left-test.true r.ensures _ c.in-Ok.is in
    m.uses.1

pub loop-left-smaller : goal.loop-left-smaller
loop-left-smaller c = let l = c.loop-left in
    let r = c.receive-step in
    let m =
    progress l.state l.line l.left l.store l.last r.result r.new.store l.invariant.0
    c.loop-left-test.true r.ensures _ c.in-Ok.is in
    omega (arith, m.uses.0, m.uses.1)

pub loop-left-preserved : goal.loop-left-preserved
loop-left-preserved c = let l = c.loop-left in
    let r = c.receive-step in
    let m =
    progress l.state l.line l.left l.store l.last r.result r.new.store l.invariant.0
    c.loop-left-test.true r.ensures _ c.in-Ok.is in
    let d = c.drop_bits in (
      rw d.ensures m.lent-next,
      d.auto.s ∙ l.invariant.1,
      r.auto.store ∙ l.invariant.2,
      rw (d.ensures, c.last_event-last.ensures) (sym m.goes_on ∙ l.invariant.3),
    )

pub returns : goal.returns
unfolding hear
returns c = let l = c.loop-left in
    let z : l.left ≡ 0 = omega arith in
    rw z at l.invariant.3
