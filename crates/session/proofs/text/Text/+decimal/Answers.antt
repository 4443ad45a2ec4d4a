-- `Text::decimal` meets its contract: one digit, or the digits of a tenth and one more. Assumes nothing.
use mathlib.Core.Path.{◌≡◌, ap}
use mathlib.Core.List.{[], ◌∷◌}
use Prim.Native.Nat.{◌+◌, ◌/◌, ◌%◌, ◌<◌}
use native.Mathlib.Omega.{arith}
use borrow.Author.Rules.{rules}
use lib.ListN.{length}
use Rattle.session.specs.Text as Text
use Rattle.session.proofs.Appending.{appends_more}
use Rattle.session.proofs.Decimal.{decimal_one, decimal_more, longer_decimal}
use Rattle.session.proofs.text.Text.+decimal.Goals as goal

pub push-requires : goal.push-requires
push-requires t c =
    let e : length (Text.decimal c.args.n) ≡ 1 = ap length (decimal_one c.args.n c.if-n-lt10.true) in
    omega (arith, c.requires)

pub decimal-requires : goal.decimal-requires
decimal-requires t c =
    let e = longer_decimal c.args.n c.if-n-lt10.false in
    let less : c.args.n / 10 < t = rw (← c.decreases) (omega arith) in
    (less, omega (arith, c.requires))

pub push-requires-else-n-lt10 : goal.push-requires-else-n-lt10
push-requires-else-n-lt10 t c =
    let e = longer_decimal c.args.n c.if-n-lt10.false in
    omega (arith, c.requires, c.decimal.ensures.len)

pub returns-then-n-lt10 : goal.returns-then-n-lt10
returns-then-n-lt10 t c = rw (decimal_one c.args.n c.if-n-lt10.true) c.push.ensures

pub returns-else-n-lt10 : goal.returns-else-n-lt10
returns-else-n-lt10 t c =
    let a = c.args in
    let n : length a.self.now.bytes ≡ 64 = search rules in
    rw (decimal_more a.n c.if-n-lt10.false)
    (appends_more a.self.now c.decimal.new.self c.push-else-n-lt10.new.self (Text.decimal (a.n / 10)) ((48 + a.n % 10) ∷ []) (omega (arith, c.requires))
    c.decimal.ensures c.push-else-n-lt10.ensures)
