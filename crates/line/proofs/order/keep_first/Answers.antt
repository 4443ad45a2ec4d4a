-- `keep_first` keeps the first bits of a byte: a computed test over all bytes and counts. Assumes nothing.
use borrow.Author.Rules.{rules}
use mathlib.Core.Bool.{Bool}
use mathlib.Core.List.{◌++◌}
use Prim.Native.Nat.{ℕ, ◌-◌, ◌/◌, ◌^◌}
use lib.Bits.{bit_and}
use lib.Dec.{eqb, eqb→eq}
use lib.ListN.{take}
use Rattle.crc.specs.Bits.{binary, number, zeros}
use Rattle.line.proofs.Table.{at_cell}
use Rattle.line.proofs.order.keep_first.Goals as goal

right : ℕ → ℕ → Bool
right x count =
    eqb (bit_and x (255 - 255 / 2 ^ count)) (number (take 8 (take count (binary 8 x) ++ zeros 8)))

pub returns : goal.returns
unfolding right binary number
returns c = let x = c.args.x in
    let count = c.args.count in
    eqb→eq (bit_and x (255 - 255 / 2 ^ count)) (number (take 8 (take count (binary 8 x) ++ zeros 8)))
    (at_cell right 256 8 tt x count c.ranges.x.fits (search rules))
