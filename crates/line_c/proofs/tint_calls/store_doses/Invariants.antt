-- The loop of `store_doses`: the numbers written so far, and the slice as it was behind them. Assumes nothing.
use mathlib.Core.List.{◌++◌}
use mathlib.Core.Path.{◌≡◌}
use Prim.Native.Nat.{◌*◌}
use lib.ListN.{take, drop}
use Rattle.line_c.specs.TintCalls.{numbers_of}
use Rattle.line_c.proofs.tint_calls.store_doses.Given as goal

abbrev pub invariant-loop-place : goal.invariant-loop-place
invariant-loop-place l = l.numbers ≡ numbers_of (take l.place l.doses) ++ drop (l.place * 2) l.initial.numbers
