-- `Head::after` is the head with an empty array, and an event. Assumes nothing.
use Rattle.line.specs.Receiving.{zero_array}
use Rattle.line.proofs.head.Head.after.Goals as goal

pub returns : goal.returns
unfolding zero_array
returns c = c.reports.ensures zero_array
