-- Sending calls one after the other, each given the state that the last one handed back. Assumes nothing.
use Rattle.std.specs.Prelude.{Bool, List, ℕ}
use Rattle.line.specs.declared.sender.Sender.{Sender}
use Rattle.line.specs.declared.sender.Step.{Step}
use Rattle.line.specs.Sending.{Send}

-- any number of calls, refused ones included, from a state to the state that the last one hands back
pub data SendCalls : Sender → Sender → Type 0 where
  none : {s : Sender} → SendCalls s s
  call : {s t : Sender} (order : List ℕ) (reading : Bool) (slice : List ℕ) (result : Step) (slice' : List ℕ)
      → Send s order reading slice result slice' → SendCalls result.state t → SendCalls s t
