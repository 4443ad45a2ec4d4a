-- `drop_bits` meets its contract: the bytes so far are those of the moved bits, the others as they were. Assumes nothing.
use mathlib.Core.Path.{◌≡◌}
use Prim.Native.Nat.{ℕ, ◌<◌}
use lib.ListN.{get_or, take, drop}
use Rattle.crc.specs.Bits.{bits_of, bytes_of}
use Rattle.session.proofs.shift.drop_bits.Given as goal

abbrev pub invariant-loop-i : goal.invariant-loop-i
invariant-loop-i l = ((j : ℕ) → get_or l.initial.s j 0 < 256)
    × (take l.i l.s ≡ bytes_of l.i (drop l.used (bits_of l.initial.s))) × (drop l.i l.s ≡ drop l.i l.initial.s)
