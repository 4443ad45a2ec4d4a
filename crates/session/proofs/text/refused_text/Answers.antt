-- `refused_text` meets its contract. Assumes nothing.
use native.Mathlib.Omega.{arith}
use mathlib.Core.Path.{◌≡◌, ap, ◌∙◌}
use Prim.Native.Nat.{◌+◌}
use Rattle.session.specs.Buffer.{Appends}
use Rattle.session.specs.Text.{empty_text, ascii, refused_text}
use Rattle.session.specs.Text.{Text}
use Rattle.session.proofs.Appending.{appends_all, appends_next}
use Rattle.session.proofs.Decimal.{length-decimal}
use Rattle.session.proofs.text.refused_text.Goals as goal
use Rattle.session.proofs.text.refused_text.Goals.{After-append}

pub append-requires : goal.append-requires
append-requires c = rw c.new-text.ensures (omega arith)

-- how long the text is after the word
worded : (c : After-append) → c.append.new.self.len ≡ 8
worded c = c.append.ensures.len ∙ ap (λ (t : Text). t.len + 8) c.new-text.ensures

pub decimal-requires : goal.decimal-requires
decimal-requires c = omega (arith, worded (goal.at.decimal-requires c).After-append, length-decimal 19 c.from.result (omega arith))

pub append-requires-2 : goal.append-requires-2
append-requires-2 c = omega (
  arith,
  worded (goal.at.append-requires-2 c).After-append,
  c.decimal.ensures.len,
  length-decimal 19 c.from.result (omega arith),
)

pub returns : goal.returns
unfolding refused_text
returns c = let w : Appends empty_text (ascii "refused ") c.append.new.self =
    rw c.new-text.ensures at c.append.ensures in
    let d = rw c.from.ensures at c.decimal.ensures in
    appends_all (refused_text c.args.number) c.append-2.new.self
    (appends_next _ _ _ _ (appends_next _ _ _ _ w d) c.append-2.ensures)
