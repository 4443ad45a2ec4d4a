-- The loop of `write_entries`: the entries written so far, and the slice as it was behind them. Assumes nothing.
use mathlib.Core.List.{◌++◌}
use mathlib.Core.Path.{◌≡◌}
use Prim.Native.Nat.{◌*◌}
use lib.ListN.{take, drop}
use Rattle.tint.specs.Code.{low_entries}
use Rattle.tint.proofs.write_entries.Given as goal

abbrev pub invariant-loop-place : goal.invariant-loop-place
invariant-loop-place l = l.entries ≡ low_entries (take l.place l.doses) ++ drop (l.place * 3) l.initial.entries
