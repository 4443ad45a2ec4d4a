-- `Checked::end_rule` answers rule 6 of an end block's data. Assumes nothing.
use mathlib.Core.Path.{◌≡◌, sym, ◌∙◌}
use mathlib.Core.Bool.{true}
use native.Mathlib.Omega.{arith}
use borrow.Author.Rules.{rules}
use Rattle.crc.specs.Bits.{bits_of}
use Rattle.line.specs.Receiving.{Rule, end_rule, length_rule}
use Rattle.line.proofs.Items.{empty_invalid, long_invalid, other_valid}
use Rattle.line.proofs.BlockFields.{version-not, length_invalid, length_other, length_valid, end_by_length}
use Rattle.line.proofs.head.Checked.end_rule.Goals as goal
use Rattle.line.proofs.head.Checked.end_rule.Goals.{After-end_length-bits, else-bits-ne0-via-then-bits-ne0+then-bits-le-LONGEST_ORDER+else-makes_items, else-bits-ne0-via-then-bits-ne0+else-bits-le-LONGEST_ORDER, else-bits-ne0-via-else-bits-ne0}

-- the version is right
read_length : (c : After-end_length-bits) (x : Rule)
    → length_rule c.args.self.head.setup.k c.args.self.head.taken true c.end_length-bits.result ≡ x
    → x ≡ end_rule c.args.self.head.setup.k c.args.self.head.taken
    c.args.self.head.ended (bits_of c.args.payload.now)
read_length c x =
    let a = c.args in
    end_by_length a.self.head.setup.k a.self.head.taken c.end_length-bits.result a.self.head.ended a.payload.now (omega arith)
    (search rules) c.if-self.false c.if-payload-ne-VERSION.false c.end_length-bits.ensures x

pub returns-then-payload-ne-VERSION : goal.returns-then-payload-ne-VERSION
unfolding end_rule
returns-then-payload-ne-VERSION c = let a = c.args in
    sym (simp (c.if-self.false, version-not a.payload.now (omega arith) (search rules) c.if-payload-ne-VERSION.true))

pub returns-then-makes_items : goal.returns-then-makes_items
returns-then-makes_items c = read_length (goal.at.returns-then-makes_items c).After-end_length-bits _
    (length_valid _ _ _ (other_valid _ c.if-bits-ne0.true c.if-bits-le-LONGEST_ORDER.true) (sym c.makes_items.ensures ∙ c.if-makes_items.true))

pub returns : goal.returns
returns c = read_length (goal.at.returns c).After-end_length-bits _
    (elim c.else-bits-ne0.branch [
      | else-bits-ne0-via-then-bits-ne0+then-bits-le-LONGEST_ORDER+else-makes_items w ↦ length_other _ _ _ (sym w.makes_items.ensures ∙ w.if-makes_items.false)
      | else-bits-ne0-via-then-bits-ne0+else-bits-le-LONGEST_ORDER w ↦ length_invalid _ _ _ (long_invalid _ w.if-bits-le-LONGEST_ORDER.false)
      | else-bits-ne0-via-else-bits-ne0 w ↦ length_invalid _ _ _ (empty_invalid _ w.if-bits-ne0.false)
    ])
