-- The examples of docs/PROTOCOL.md that are proved: one fact over all rows of their table. Assumes nothing.
use mathlib.Core.Path.{◌≡◌, refl}
use mathlib.Core.Bool.{true}
use Rattle.crc.specs.Bits.{binary}
use Rattle.crc.specs.Check.{remainder, check}
use Rattle.block.specs.Lengths.{is_length}
use Rattle.line.specs.LoopTime.{is_speed, block_time, has_entry, longest_loop, loop_time}
use Rattle.line.specs.Order.{item_count}
use Rattle.line.specs.Examples.{examples, right, all_right}

pub examples-right : all_right examples ≡ true
unfolding
    examples
    right
    all_right
    binary
    remainder
    check
    is_length
    is_speed
    block_time
    has_entry
    longest_loop
    loop_time
    item_count
examples-right = refl
