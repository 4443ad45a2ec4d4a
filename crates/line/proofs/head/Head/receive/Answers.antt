-- `Head::receive` keeps the promise of a receiving call: what it turns away, and what it reads. Assumes nothing.
use mathlib.Core.Path.{◌≡◌, sym, ap, ◌∙◌, subst}
use mathlib.Core.Bool.{true}
use mathlib.Core.List.{List}
use Prim.Native.Nat.{ℕ}
use lib.ListN.{length}
use Rattle.line.specs.Receiving.{array_bytes, receiver_in_range}
use Rattle.line.specs.ReceivingInPlace.{with_array, ReceiveInPlace}
use Rattle.line.specs.declared.head.HeadStep.{HeadStep}
use Rattle.line.proofs.ReceivingCall.{in_range, refuses_spoiled, refuses_short, receives}
use Rattle.line.proofs.InPlace.{another_length, in_place}
use Rattle.line.proofs.head.Head.receive.Goals as goal
use Rattle.line.proofs.head.Head.receive.Goals.{In-Some, Else-not-in_range}

-- the lent slice as an array
enough : (c : In-Some) → length c.in-Some.array.now ≡ array_bytes
enough c = let e = c.in-Some.ensures.cases in ap length e.same ∙ e.long

as_lent : (c : In-Some) (r : HeadStep) (array' store' : List ℕ)
    → ReceiveInPlace c.args.self c.in-Some.array.now c.args.line.now c.args.bits c.args.ready c.args.store.now r array' store'
    → ReceiveInPlace c.args.self c.args.array.now c.args.line.now c.args.bits c.args.ready c.args.store.now r array' store'
as_lent c r array' store' =
    subst (λ (array : List ℕ). ReceiveInPlace c.args.self array c.args.line.now c.args.bits c.args.ready c.args.store.now r array' store')
    c.in-Some.ensures.cases.same

-- the place where the range was found right
ranged : (c : Else-not-in_range) → receiver_in_range (with_array c.args.self c.in-Some.array.now) ≡ true
ranged c = sym (c.in_range.ensures c.in-Some.array.now) ∙ c.if-not-in_range.false

pub returns-in_default : goal.returns-in_default
returns-in_default c = let a = c.args in
    another_length a.self a.array.now a.line.now a.bits a.ready a.store.now c.in_default.ensures.cases _ c.refused.ensures

pub returns-then-not-in_range : goal.returns-then-not-in_range
returns-then-not-in_range c = let a = c.args in
    let s = (goal.at.returns-then-not-in_range c).In-Some in
    let e = sym (c.in_range.ensures c.in-Some.array.now) ∙ c.if-not-in_range.true in
    as_lent s _ _ _
    (in_place a.self c.in-Some.array.now a.line.now a.bits a.ready a.store.now (enough s) _ _ _
    (rw c.refused-then-not-in_range.ensures (refuses_spoiled (with_array a.self c.in-Some.array.now) a.line.now a.bits a.ready a.store.now e)))

pub returns-then-too_short : goal.returns-then-too_short
returns-then-too_short c = let a = c.args in
    let s = (goal.at.returns-then-too_short c).In-Some in
    let t = sym c.too_short.ensures ∙ c.if-too_short.true in
    as_lent s _ _ _
    (in_place a.self c.in-Some.array.now a.line.now a.bits a.ready a.store.now (enough s) _ _ _
    (rw c.refused-then-too_short.ensures (refuses_short (with_array a.self c.in-Some.array.now) a.line.now a.bits a.ready a.store.now (ranged (goal.at.returns-then-too_short c).Else-not-in_range) t)))

pub invariant_of-read : goal.invariant_of-read
invariant_of-read c = let r = in_range _ (ranged (goal.at.invariant_of-read c).Else-not-in_range) in
    record { known = r.known; bad_row = r.bad_row; items = r.taken; held = r.held }

pub returns : goal.returns
returns c = let a = c.args in
    let s = (goal.at.returns c).In-Some in
    let t = sym c.too_short.ensures ∙ c.if-too_short.false in
    as_lent s _ _ _
    (in_place a.self c.in-Some.array.now a.line.now a.bits a.ready a.store.now (enough s) _ _ _
    (receives (with_array a.self c.in-Some.array.now) a.line.now a.bits a.ready a.store.now (ranged (goal.at.returns c).Else-not-in_range) t _ _ c.read.ensures))
