-- The loop of `load_doses`: the doses so far, and none behind them. Assumes nothing.
use mathlib.Core.List.{List, map}
use mathlib.Core.Path.{◌≡◌}
use Prim.Native.Nat.{ℕ}
use lib.ListN.{get_or, take}
use Rattle.tint.specs.Calls.{filled_up}
use Rattle.tint.specs.declared.Dose.{Dose}
use Rattle.line_c.proofs.tint_calls.load_doses.Given as goal

-- the dose of two numbers
abbrev pub dose_of : List ℕ → Dose
dose_of pair = record { canister = get_or pair 0 0; steps = get_or pair 1 0 }

abbrev pub invariant-loop-place : goal.invariant-loop-place
invariant-loop-place l = l.list ≡ filled_up (map dose_of (take l.place l.pairs))
