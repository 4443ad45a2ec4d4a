-- `Text::event` meets its contract: an arm for each event, with its word. Assumes nothing.
use Rattle.session.proofs.text.Text.event.Goals as goal

pub returns-in-SequenceAlarm-clause-appends : goal.returns-in-SequenceAlarm-clause-appends
returns-in-SequenceAlarm-clause-appends c = rw c.in-SequenceAlarm.is c.append-in-SequenceAlarm.ensures

pub returns-in-LengthAlarm-clause-appends : goal.returns-in-LengthAlarm-clause-appends
returns-in-LengthAlarm-clause-appends c = rw c.in-LengthAlarm.is c.append-in-LengthAlarm.ensures
