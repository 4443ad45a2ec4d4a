-- `Checked::judge` meets its contract: rule 1, the check, where the reader refuses nothing, and the rules of what passes.
-- Assumes nothing.
use mathlib.Core.Path.{◌≡◌, refl, sym, ap, ◌∙◌, subst}
use lib.ListN.{take}
use Rattle.crc.specs.Bits.{Bits, bits_of}
use Rattle.block.specs.Lengths.{block_length}
use Rattle.block.specs.Answer.{done}
use Rattle.block.specs.Block.{failed, verdict}
use Rattle.block.specs.Calls.{verdict_of, carried_remainder}
use Rattle.block.specs.declared.Read.{Read}
use Rattle.block.proofs.Lengths.{length_facts}
use Rattle.line.specs.Receiving.{Rule, reads_sync, check_fails, or_wait, stops}
use Rattle.line.specs.ReceivingInPlace.{with_array}
use Rattle.line.specs.Code.ReceiveSteps.{step_with, Handed}
use Rattle.line.proofs.BlockFinished.{handed_bad, handed_rule, rule_sync, rule_failed, rule_passed, read_ok, read_verdict}
use Rattle.line.proofs.head.Checked.judge.Goals as goal
use Rattle.line.proofs.head.Checked.judge.Goals.{After-unwrap-answer}

abbrev row : After-unwrap-answer → Bits
row c = take (block_length c.args.self.head.setup.k) (bits_of c.args.row.now)

pub unwrap-answer-requires : goal.unwrap-answer-requires
unwrap-answer-requires c = let s = c.args.self in
    read_ok s.head.setup.k c.args.row.now c.requires (length_facts s.head.setup.k s.known).0 _ c.read_service.ensures

-- what was read
found : (c : After-unwrap-answer) → verdict_of c.unwrap-answer.result ≡ verdict (row c)
found c = let s = c.args.self in
    read_verdict s.head.setup.k c.args.row.now c.requires (length_facts s.head.setup.k s.known).0 _ c.read_service.ensures _ c.unwrap-answer.ensures

pub returns-then-looks_sync : goal.returns-then-looks_sync
returns-then-looks_sync c = let a = c.args in
    let e = sym c.looks_sync.ensures ∙ c.if-looks_sync.true in
    handed_rule _ _ _ _ _ a.ready reads_sync (rule_sync (with_array a.self.head a.array.now) _ a.ready e) refl c.after_good.ensures

pub returns : goal.returns
returns c = let a = c.args in
    let s = with_array a.self.head a.array.now in
    let e = sym c.looks_sync.ensures ∙ c.if-looks_sync.false in
    let v = sym (found (goal.at.returns c).After-unwrap-answer) ∙ ap verdict_of c.in-Passed.is in
    let rule = c.or_wait-rule.ensures ∙ ap (or_wait a.ready) c.service_rule.ensures ∙ rule_passed s _ a.ready _ e v in
    subst (λ (r : Rule). Handed s a.store.now (stops s r (take (block_length a.self.head.setup.k) (bits_of a.row.now)) a.used) (step_with c.take.result c.take.new.array) c.take.new.store)
    rule c.take.ensures

pub returns-in_default : goal.returns-in_default
returns-in_default c = let a = c.args in
    let s = with_array a.self.head a.array.now in
    let e = sym c.looks_sync.ensures ∙ c.if-looks_sync.false in
    let r = c.remainder.ensures ∙ ap (λ (x : Read). carried_remainder (done (verdict_of x))) c.in_default.is in
    let v = sym (found (goal.at.returns-in_default c).After-unwrap-answer) ∙ ap verdict_of c.in_default.is ∙ ap failed (sym r) in
    handed_rule _ _ _ _ _ a.ready (check_fails c.remainder.result) (rule_failed s _ a.ready c.remainder.result e v) refl
    (c.after_bad.ensures ∙ handed_bad s c.remainder.result a.used)
