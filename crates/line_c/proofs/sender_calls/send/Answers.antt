-- `send`: what is sent is an item of the sender's. Assumes nothing.
use mathlib.Core.Path.{sym, ap, ◌∙◌}
use Rattle.line.specs.Sending.{sent_answer}
use Rattle.line_c.proofs.Ranges.{number_fits_of}
use Rattle.line_c.proofs.sender_calls.send.Goals as goal

pub returns-clause-number : goal.returns-clause-number
returns-clause-number c = let call = c.send-step in
    number_fits_of _ _ _ _ _ (ap sent_answer (sym c.in_ok-sent.was) ∙ call.ensures.answers)
