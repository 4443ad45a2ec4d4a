-- `Head::idle` reports a standing alarm and changes nothing. Assumes nothing.
use mathlib.Core.Path.{◌≡◌, sym, ◌∙◌}
use mathlib.Core.Logic.{⊎_elim}
use Rattle.line.specs.declared.receiving.Phase.TheVariants as P
use Rattle.line.proofs.head.Head.idle.Goals as goal

pub returns-in-Search : goal.returns-in-Search
returns-in-Search c = λ array. c.reports.ensures array ∙ ⊎_elim (λ (e : c.args.self.phase ≡ P.Search). sym (simp e))
    (λ (e : c.args.self.phase ≡ P.InStep). sym (simp e)) c.in-Search.is

pub returns-in-SequenceAlarm : goal.returns-in-SequenceAlarm
returns-in-SequenceAlarm c = λ array. c.reports-in-SequenceAlarm.ensures array ∙ sym (simp c.in-SequenceAlarm.is)

pub returns-in-LengthAlarm : goal.returns-in-LengthAlarm
returns-in-LengthAlarm c = λ array. c.reports-in-LengthAlarm.ensures array ∙ sym (simp c.in-LengthAlarm.is)
