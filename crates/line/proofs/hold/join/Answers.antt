-- `join` meets its contract: eight of the sixteen bits of two bytes. Assumes nothing.
use mathlib.Core.Path.{ap₂, ◌∙◌}
use Prim.Native.Nat.{ℕ, ◌*◌, ◌/◌, ◌%◌, ◌^◌}
use lib.Bits.{bit_or, bit_and}
use Rattle.crc.specs.Bits.{binary}
use Rattle.line.proofs.BitMoves.{joined_bits}
use borrow.Author.Rules.{rules}
use Rattle.line.proofs.hold.join.Goals as goal

pub returns : goal.returns
returns c = ap₂ (λ (a b : ℕ). binary 8 (bit_and (bit_or ((a * 256) % 65536) b / 2 ^ c.args.n) 255)) c.from.ensures c.from-2.ensures
    ∙ joined_bits c.args.n c.requires c.args.carry c.args.x (search rules) (search rules)
