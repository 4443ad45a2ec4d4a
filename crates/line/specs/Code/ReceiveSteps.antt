-- What the receiver's private functions promise: the code's rules, and what is handed back for a reception.
-- Assumes nothing.
use Rattle.std.specs.Prelude.{◌≡◌, Bool, List, ℕ, Err, Ok}
use Rattle.crc.specs.Bits.{Bits}
use Rattle.line.specs.declared.Refusal.{Refusal}
use Rattle.line.specs.declared.receiver.Receiver.{Receiver}
use Rattle.line.specs.declared.receiving.Event.{Event}
use Rattle.line.specs.declared.receiver.Step.{Step}
use Rattle.line.specs.declared.head.Head.{Head}
use Rattle.line.specs.declared.head.HeadStep.{HeadStep}
use Rattle.line.specs.declared.rules.Rule as D
use Rattle.line.specs.declared.rules.Rule.TheVariants as C
use Rattle.line.specs.Receiving.{Rule, accepts, previous, out_of_sequence, ends, wrong_length, ends_again, anything_else, waits, meaning, block_rule, stops, Reception, judge_store, received_answer, reported, receive_state, receive_store}
use Rattle.line.specs.ReceivingInPlace.{with_array}

-- the rule that each case of the code's enum stands for
abbrev pub rule_of : D.Rule → Rule
rule_of C.Accepts = accepts
rule_of C.Previous = previous
rule_of C.OutOfSequence = out_of_sequence
rule_of (C.Ends L) = ends L
rule_of C.WrongLength = wrong_length
rule_of C.EndsAgain = ends_again
rule_of C.AnythingElse = anything_else
rule_of C.Waits = waits

-- what a call hands back, its head and the array as one state
abbrev pub step_with : HeadStep → List ℕ → Step
step_with r array = record { state = with_array r.head array; answer = r.answer }

abbrev pub turned_away : Head → Refusal → HeadStep
turned_away h r = record { head = h; answer = Err r }

-- a state, an event and the bits used, as a call hands them back
abbrev pub stepped : Receiver → Event → ℕ → Step
stepped s event used = record { state = s; answer = Ok (record { event = event; bits = used }) }

-- what a call hands back for what it read where nothing is stored
abbrev pub handed_back : Reception → Step
handed_back x = stepped x.state (meaning x.rule).event x.used

-- what is read where these n bits complete a block
abbrev pub judged : Receiver → Bits → Bool → ℕ → Reception
judged s row ready used = stops s (block_rule s row ready) row used

-- what a call hands back for what it read, the store judged
pub record Handed (s : Receiver) (store : List ℕ) (x : Reception) (result : Step) (store' : List ℕ) : Type 0 where
  pub answers : received_answer result.answer ≡ reported (judge_store s store x)
  pub state : result.state ≡ receive_state s (judge_store s store x)
  pub writes : store' ≡ receive_store s store (judge_store s store x)
