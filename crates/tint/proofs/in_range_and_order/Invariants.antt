-- The loop of `in_range_and_order`: the doses to come are, from above the last canister, just if all are. Assumes nothing.
use mathlib.Core.Path.{◌≡◌}
use lib.ListN.{drop}
use Rattle.tint.specs.Format.{in_range_and_order}
use Rattle.tint.proofs.in_range_and_order.Given as goal

abbrev pub invariant-loop-dose : goal.invariant-loop-dose
invariant-loop-dose l = in_range_and_order l.last (drop l.dose-index l.doses) ≡ in_range_and_order 0 l.doses
