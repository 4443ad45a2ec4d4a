-- `put_bits` meets its contract: after i turns the array's first bytes and the carried bits are the bits held and i bytes of the line. Assumes nothing.
use mathlib.Core.Path.{◌≡◌}
use mathlib.Core.List.{◌++◌}
use Prim.Native.Nat.{◌+◌}
use lib.ListN.{take, drop}
use Rattle.crc.specs.Bits.{binary, bits_of}
use Rattle.line.proofs.hold.put_bits.Given as goal

abbrev pub invariant-loop-i : goal.invariant-loop-i
invariant-loop-i l = (drop (l.from + l.i) l.array ≡ drop (l.from + l.i) l.initial.array)
    × (bits_of (take (l.from + l.i) l.array) ++ binary l.shift l.carry ≡ take l.held (bits_of l.initial.array) ++ bits_of (take l.i l.line.bytes.now))
