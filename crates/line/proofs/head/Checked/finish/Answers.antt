-- `Checked::finish` meets its contract: the finished row stands in the line, or in the copy of the array. Assumes nothing.
use mathlib.Core.Path.{◌≡◌, ap, ◌∙◌, subst}
use mathlib.Core.Bool.{Bool}
use mathlib.Core.List.{List}
use Prim.Native.Nat.{ℕ}
use native.Mathlib.Omega.{arith}
use lib.ListN.{length, take}
use Rattle.crc.specs.Bits.{Bits, bits_of}
use Rattle.block.specs.Lengths.{block_length}
use Rattle.block.proofs.Lengths.{length_facts}
use Rattle.line.specs.ReceivingInPlace.{with_array}
use Rattle.line.specs.Code.ReceiveSteps.{step_with, judged, Handed}
use Rattle.line.specs.declared.head.Head.{Head}
use Rattle.line.specs.declared.head.HeadStep.{HeadStep}
use Rattle.line.proofs.InStepBits.{finished_in_line, finished_in_array}
use borrow.Author.Rules.{rules}
use Rattle.line.proofs.head.Checked.finish.Goals as goal

-- the same row, judged
by_row : (h : Head) (array store : List ℕ) (used : ℕ) (ready : Bool) (row row' : Bits) (r : HeadStep) (array' store' : List ℕ) → row ≡ row'
    → Handed (with_array h array) store (judged (with_array h array) row ready used) (step_with r array') store'
    → Handed (with_array h array) store (judged (with_array h array) row' ready used) (step_with r array') store'
by_row h array store used ready row row' r array' store' e =
    subst (λ (x : Bits). Handed (with_array h array) store (judged (with_array h array) x ready used) (step_with r array') store') e

pub returns-then-self-eq0 : goal.returns-then-self-eq0
returns-then-self-eq0 c = by_row _ _ _ _ _ _ _ _ _ _ (finished_in_line (with_array c.args.self.head c.args.array.now) c.args.line.bytes.now c.args.line.bits c.requires c.if-self-eq0.true)
    c.judge.ensures

pub put_bits-requires : goal.put_bits-requires
put_bits-requires c = let f = length_facts c.args.self.head.setup.k c.args.self.known in
    omega arith

pub judge-requires-2 : goal.judge-requires-2
judge-requires-2 c = let f = length_facts c.args.self.head.setup.k c.args.self.known in
    let n : length c.put_bits.new.array ≡ 483 = search rules in
    omega arith

pub returns : goal.returns
returns c = let f = length_facts c.args.self.head.setup.k c.args.self.known in
    let n : ℕ = block_length c.args.self.head.setup.k in
    let full : length c.args.array.now ≡ 483 = search rules in
    by_row _ _ _ _ _ _ _ _ _ _
    (ap (λ (x : List ℕ). take n (bits_of x)) c.put_bits.ensures
    ∙ finished_in_array (with_array c.args.self.head c.args.array.now) c.args.line.bytes.now c.args.line.bits c.requires c.args.line.held full (omega arith))
    c.judge-2.ensures
