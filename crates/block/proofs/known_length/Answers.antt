-- `known_length` says whether the look_up finds k. Assumes nothing.
use mathlib.Core.Path.{◌∙◌}
use Rattle.block.proofs.LookUp.{is_found}
use Rattle.block.proofs.known_length.Goals as goal

pub returns : goal.returns
returns c = c.is_ok.ensures.value ∙ is_found c.args.k c.look_up.result c.look_up.ensures.answers
