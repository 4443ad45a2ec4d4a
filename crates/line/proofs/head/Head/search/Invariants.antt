-- `Head::search` meets its contract: searching on from the window at each bit gives what searching all the bits gives. Assumes nothing.
use mathlib.Core.Path.{◌≡◌}
use lib.ListN.{take, drop}
use Rattle.crc.specs.Bits.{binary, bits_of}
use Rattle.line.specs.Receiving as S
use Rattle.line.specs.Receiving.{held_bits}
use Rattle.line.specs.ReceivingInPlace.{with_array}
use Rattle.line.proofs.head.Head.search.Given as goal

abbrev pub invariant-loop-used : goal.invariant-loop-used
invariant-loop-used l = (l.array ≡ l.initial.array)
    × (S.search (with_array l.self l.initial.array) (binary l.window.held l.window.number) (drop l.used (take l.line.bits (bits_of l.line.bytes.now))) l.used ≡ S.search (with_array l.self l.initial.array) (held_bits (with_array l.self l.initial.array)) (take l.line.bits (bits_of l.line.bytes.now)) 0)
