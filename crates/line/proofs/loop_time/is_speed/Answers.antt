-- `is_speed` tells whether a speed is among the table's speeds. Assumes nothing.
use mathlib.Core.Path.{◌∙◌}
use Rattle.line.specs.LoopTime.{speeds, is_speed}
use Rattle.line.proofs.Table.{any-among}
use Rattle.line.proofs.loop_time.is_speed.Goals as goal

pub returns : goal.returns
unfolding is_speed
returns c = c.contains.ensures.value ∙ any-among c.args.speed speeds
