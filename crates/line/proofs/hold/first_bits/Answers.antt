-- `first_bits` meets its contract: a byte shifted right. Assumes nothing.
use mathlib.Core.Path.{sym, ap, ◌∙◌}
use Prim.Native.Nat.{ℕ, ◌-◌, ◌/◌, ◌^◌}
use native.Mathlib.Omega.{arith}
use Rattle.crc.specs.Bits.{binary}
use Rattle.line.proofs.BitMoves.{take_byte}
use Rattle.line.proofs.hold.first_bits.Goals as goal

pub returns : goal.returns
returns c = ap (λ (x : ℕ). binary c.args.n (x / 2 ^ (8 - c.args.n))) c.from.ensures ∙ sym (take_byte c.args.n (omega arith) c.args.x)
