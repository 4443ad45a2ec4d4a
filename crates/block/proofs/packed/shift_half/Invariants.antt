-- The loop of `shift_half`: the bytes written so far, and in front of those to come the half byte that is carried.
-- Assumes nothing.
use mathlib.Core.List.{List, ◌++◌}
use mathlib.Core.Path.{◌≡◌}
use Prim.Native.Nat.{ℕ, ◌+◌, ◌-◌, ◌≤◌}
use lib.ListN.{length, get_or, take, drop}
use Rattle.crc.specs.Bits.{Bits, binary, bits_of, bytes_of}
use Rattle.block.proofs.packed.shift_half.Given as goal

-- what is to come from place i on: the half of the byte there, and the bytes behind it
abbrev pub to_come : List ℕ → ℕ → Bits
to_come from i = binary 4 (get_or from i 0) ++ bits_of (drop (i + 1) from)

abbrev pub invariant-loop-i : goal.invariant-loop-i
invariant-loop-i l = (l.i ≤ l.m) × (length l.to ≡ length l.initial.to) × (drop l.i l.to ≡ drop l.i l.initial.to)
    × (take l.i l.to ++ bytes_of (l.m - l.i) (to_come l.from l.i) ≡ bytes_of l.m (drop 4 (bits_of l.from)))
