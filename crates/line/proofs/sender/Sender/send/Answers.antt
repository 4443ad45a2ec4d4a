-- `Sender::send` turns away as the definition does, and else sends the block that is next. Assumes nothing.
use mathlib.Core.Path.{◌≡◌, sym, ◌∙◌}
use Rattle.std.specs.Prelude.{Ok}
use Rattle.line.specs.Code.SendSteps.{judged}
use Rattle.line.proofs.SenderRange.{refused_call, sent-call, judged_refused, judged_lent, judged_sends}
use Rattle.line.proofs.sender.Sender.send.Goals as goal
use Rattle.line.proofs.sender.Sender.send.Goals.{In_default}

pub returns-in-Err : goal.returns-in-Err
returns-in-Err c = let a = c.args in
    refused_call a.self a.order.now a.reading a.block.now _ (judged_refused a.self a.order.now a.reading a.block.now _ (sym c.in-Err.ensures))

passed : (c : In_default) → judged c.args.self c.args.order.now c.args.block.now ≡ Ok tt
passed c = sym c.judge.ensures ∙ c.in_default.is

pub send_sync-requires : goal.send_sync-requires
send_sync-requires c = let p = judged_lent c.args.self c.args.order.now c.args.reading c.args.block.now (passed (goal.at.send_sync-requires c).In_default) in
    (p.sender, p.room)

pub send_older-requires : goal.send_older-requires
send_older-requires c = judged_lent _ _ c.args.reading _ (passed (goal.at.send_older-requires c).In_default)

pub send_newer-requires : goal.send_newer-requires
send_newer-requires c = judged_lent _ _ c.args.reading _ (passed (goal.at.send_newer-requires c).In_default)

pub returns-in-Sync : goal.returns-in-Sync
returns-in-Sync c = let a = c.args in
    sent-call a.self a.order.now a.reading a.block.now _ c.in-Sync.is
    (judged_sends _ _ _ _ (passed (goal.at.returns-in-Sync c).In_default)) _ _ (c.send_sync.ensures a.order.now a.reading)

pub returns-in-Older : goal.returns-in-Older
returns-in-Older c = let a = c.args in
    sent-call a.self a.order.now a.reading a.block.now _ c.in-Older.is
    (judged_sends _ _ _ _ (passed (goal.at.returns-in-Older c).In_default)) _ _ (c.send_older.ensures a.reading)

pub returns-in-Newer : goal.returns-in-Newer
returns-in-Newer c = let a = c.args in
    sent-call a.self a.order.now a.reading a.block.now _ c.in-Newer.is
    (judged_sends _ _ _ _ (passed (goal.at.returns-in-Newer c).In_default)) _ _ c.send_newer.ensures
