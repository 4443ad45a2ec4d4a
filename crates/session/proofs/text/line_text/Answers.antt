-- `line_text` meets its contract: each field behind those before it. Assumes nothing.
use native.Mathlib.Omega.{arith}
use mathlib.Core.Path.{◌≡◌, ap}
use mathlib.Core.List.{◌++◌}
use Prim.Native.Nat.{◌≤◌}
use Rattle.session.specs.Buffer.{Appends}
use Rattle.session.specs.Text.{empty_text, ascii, decimal, block_text, line_text}
use Rattle.session.specs.Text.{Text}
use Rattle.session.proofs.Appending.{appends_all, appends_next}
use Rattle.session.proofs.Decimal.{length-decimal, length-bit}
use Rattle.session.proofs.text.line_text.Goals as goal
use Rattle.session.proofs.text.line_text.Goals.{After-block, After-decimal, After-event, After-new-text, After-reading}

-- how long the text is after each field
newly : (c : After-new-text) → c.new-text.result.len ≡ 0
newly c = ap (λ (t : Text). t.len) c.new-text.ensures

after-period : (c : After-decimal) → c.decimal.new.self.len ≤ 20
after-period c =
    omega
    (arith, ap (λ (t : Text). t.len) c.new-text.ensures, c.decimal.ensures.len, length-decimal 19 c.args.period (omega arith))

after_block : (c : After-block) → c.block.new.self.len ≤ 42
after_block c = omega (arith, ap (λ (t : Text). t.len) c.new-text.ensures, c.decimal.ensures.len, length-decimal 19 c.args.period (omega arith), c.push.ensures.len)

after-reading : (c : After-reading) → c.reading.new.self.len ≤ 44
after-reading c = omega (arith, ap (λ (t : Text). t.len) c.new-text.ensures, c.decimal.ensures.len, length-decimal 19 c.args.period (omega arith), c.push.ensures.len, c.push-2.ensures.len)

after-event : (c : After-event) → c.event.new.self.len ≤ 59
after-event c = omega (arith, ap (λ (t : Text). t.len) c.new-text.ensures, c.decimal.ensures.len, length-decimal 19 c.args.period (omega arith), c.push.ensures.len, c.push-2.ensures.len, c.push-3.ensures.len)

pub decimal-requires : goal.decimal-requires
decimal-requires c = omega (arith, newly (goal.at.decimal-requires c).After-new-text, length-decimal 19 c.args.period (omega arith))

pub push-requires : goal.push-requires
push-requires c = omega (arith, after-period (goal.at.push-requires c).After-decimal)

pub block-requires : goal.block-requires
block-requires c = omega (arith, after-period (goal.at.block-requires c).After-decimal, c.push.ensures.len)

pub push-requires-2 : goal.push-requires-2
push-requires-2 c = omega (arith, after_block (goal.at.push-requires-2 c).After-block)

pub reading-requires : goal.reading-requires
reading-requires c = omega (arith, after_block (goal.at.reading-requires c).After-block, c.push-2.ensures.len)

pub push-requires-3 : goal.push-requires-3
push-requires-3 c = omega (arith, after-reading (goal.at.push-requires-3 c).After-reading)

pub event-requires : goal.event-requires
event-requires c = omega (arith, after-reading (goal.at.event-requires c).After-reading, c.push-3.ensures.len)

pub push-requires-4 : goal.push-requires-4
push-requires-4 c = omega (arith, after-event (goal.at.push-requires-4 c).After-event)

pub bit-requires : goal.bit-requires
bit-requires c = omega (arith, after-event (goal.at.bit-requires c).After-event, c.push-4.ensures.len)

pub push-requires-5 : goal.push-requires-5
push-requires-5 c = omega (
  arith,
  after-event (goal.at.push-requires-5 c).After-event,
  c.push-4.ensures.len,
  c.bit.ensures.len,
  length-bit c.args.line.back,
)

pub returns : goal.returns
unfolding line_text
returns c = let l = c.args.line in
    let period : Appends empty_text (decimal c.args.period) c.decimal.new.self =
    rw c.new-text.ensures at c.decimal.ensures in
    let sent : Appends empty_text (decimal c.args.period ++ ascii " " ++ block_text l.sent.block) c.block.new.self =
    appends_next _ _ _ _ (appends_next _ _ _ _ period c.push.ensures) c.block.ensures.appends in
    let read = appends_next _ _ _ _ (appends_next _ _ _ _ sent c.push-2.ensures) c.reading.ensures.appends in
    let heard = appends_next _ _ _ _ (appends_next _ _ _ _ read c.push-3.ensures) c.event.ensures.appends in
    appends_all (line_text c.args.period l) c.push-5.new.self
    (appends_next _ _ _ _ (appends_next _ _ _ _ (appends_next _ _ _ _ heard c.push-4.ensures) c.bit.ensures) c.push-5.ensures)
