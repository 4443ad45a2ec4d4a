-- `crc::feed_singles` meets its contract: a fold by `feed_byte` feeds the bytes' bits. Assumes nothing.
use mathlib.Core.Path.{◌≡◌, ◌∙◌}
use mathlib.Core.List.{List}
use Prim.Native.Nat.{ℕ}
use borrow.Author.Rules.{rules}
use Rattle.std.specs.List.{fold}
use Rattle.std.proofs.iter.runs.Made.{chains}
use Rattle.crc.specs.Bits.{binary}
use Rattle.crc.specs.Check.{register}
use Rattle.crc.proofs.Register.{register_by_bytes}
use Rattle.crc.proofs.feed_singles.Goals as goal

pub returns : goal.returns
returns c = let at : ℕ = c.args.c in
    let s : List ℕ = c.args.s.now in
    let e : c.fold.result ≡ fold (λ r b. register r (binary 8 b)) at s = search (rules, chains) in
    e ∙ register_by_bytes at s
