-- The loop of `load_entries`: the doses so far, and none behind them. Assumes nothing.
use mathlib.Core.List.{map}
use mathlib.Core.Path.{◌≡◌}
use lib.ListN.{take}
use Rattle.tint.specs.Calls.{filled_up}
use Rattle.tint.specs.Code.{dose_of_entry}
use Rattle.tint.proofs.load_entries.Given as goal

abbrev pub invariant-loop-place : goal.invariant-loop-place
invariant-loop-place l = l.list ≡ filled_up (map dose_of_entry (take l.place l.entries))
