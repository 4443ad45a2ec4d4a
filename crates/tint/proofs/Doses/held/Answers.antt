-- `held`: the first places are those of the array. Assumes nothing.
use native.Mathlib.Omega.{arith}
use Rattle.tint.proofs.Arrays.{first_places-take}
use Rattle.tint.proofs.Doses.held.Goals as goal

pub returns : goal.returns
returns c = first_places-take _ _ (omega arith)
