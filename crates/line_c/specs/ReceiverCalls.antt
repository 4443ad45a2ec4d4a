-- The receiving end's calls for C and Rust, the receiver in lent bytes: what each returns and writes, and its promise.
-- Assumes nothing.
use Rattle.std.specs.Prelude.{Option, ◌≡◌, Bool, true, false, cond, List, ◌++◌, ℕ, drop}
use Rattle.block.specs.Answer as A
use Rattle.block.specs.Answer.{Answer, refused, done}
use Rattle.line.specs.Marks.{marks_of}
use Rattle.line.specs.Receiving.{event_kind, with_length, open_receiver, fresh_receiver, Reception, receiver_in_range, receive, receive_store, Report, reported}
use Rattle.line.specs.declared.receiver.Receiver.{Receiver}
use Rattle.line.specs.declared.receiving.Event.{Event}
use Rattle.line.specs.declared.receiving.Event.TheVariants as E
use Rattle.line_c.specs.State.{receiver_size, receiver_of, receiver_bytes}
use Rattle.line_c.specs.BlockCalls.{refusal}
use Rattle.line_c.specs.SenderCalls.{judge_state}

-- a receiver's bytes over the first bytes of a slice, the others as they were
abbrev pub receiver_over : List ℕ → Receiver → List ℕ
receiver_over state s = receiver_bytes s ++ drop receiver_size state

-- ---- opening, without marks if no code size is given: 1, 9, then the slice for the state: 6

unfoldable pub open_receiver_in : ℕ → Option ℕ → List ℕ → Answer (Unit {0})
open_receiver_in k size state = judge_state receiver_size state (open_receiver k size)

abbrev pub opened_receiver : ℕ → Option ℕ → List ℕ → Answer (Unit {0}) → List ℕ
opened_receiver k size state (refused n) = state
opened_receiver k size state (done u) = receiver_over state (fresh_receiver k (marks_of size))

pub record OpenReceiverCall (k : ℕ) (size : Option ℕ) (state : List ℕ) (result : ℕ) (state' : List ℕ) : Type 0 where
  pub answers : result ≡ refusal (open_receiver_in k size state)
  pub writes : state' ≡ opened_receiver k size state (open_receiver_in k size state)

-- ---- a receiving call

-- the events' numbers are our own, since the rules give them none
abbrev pub event_number : Event → ℕ
event_number E.None = 64
event_number E.Sync = 65
event_number (E.Bad r) = 66
event_number E.Accepted = 67
event_number E.Previous = 68
event_number E.SequenceAlarm = 69
event_number E.LengthAlarm = 70
event_number (E.Ended L) = 71
event_number E.Wait = 72

-- the length that comes with the end; without it, the number stays
abbrev pub event_length : ℕ → Event → ℕ
event_length len event = with_length len (λ L. L) (event_kind event).length

-- the remainder that comes with a bad event; without it, the number stays
abbrev pub event_remainder : ℕ → Event → ℕ
event_remainder remainder E.None = remainder
event_remainder remainder E.Sync = remainder
event_remainder remainder (E.Bad r) = r
event_remainder remainder E.Accepted = remainder
event_remainder remainder E.Previous = remainder
event_remainder remainder E.SequenceAlarm = remainder
event_remainder remainder E.LengthAlarm = remainder
event_remainder remainder (E.Ended L) = remainder
event_remainder remainder E.Wait = remainder

abbrev pub report_number : Answer Report → ℕ
report_number (refused n) = n
report_number (done r) = event_number r.event

abbrev pub report_used : ℕ → Answer Report → ℕ
report_used used (refused n) = used
report_used used (done r) = r.used

abbrev pub report_length : ℕ → Answer Report → ℕ
report_length len (refused n) = len
report_length len (done r) = event_length len r.event

abbrev pub report_remainder : ℕ → Answer Report → ℕ
report_remainder remainder (refused n) = remainder
report_remainder remainder (done r) = event_remainder remainder r.event

-- a call on the receiver that the bytes hold, the bytes afterwards, and the store
abbrev pub receive_in : List ℕ → ℕ → Bool → List ℕ → Answer Receiver → Answer Reception
receive_in line count ready store (refused n) = refused n
receive_in line count ready store (done s) = receive s line count ready store

abbrev pub received_state : List ℕ → Answer Reception → List ℕ
received_state state (refused n) = state
received_state state (done x) = receiver_over state x.state

abbrev pub received_store : List ℕ → Answer Receiver → Answer Reception → List ℕ
received_store store (refused n) answer = store
received_store store (done s) answer = receive_store s store answer

pub record ReceiveCall
    (state line : List ℕ) (count : ℕ) (ready : Bool) (store : List ℕ) (used len remainder result : ℕ) (state' store' : List ℕ)
    (used' len' remainder' : ℕ)
    : Type 0 where
  pub answers : result ≡ report_number (reported (receive_in line count ready store (receiver_of state)))
  pub keeps : state' ≡ received_state state (receive_in line count ready store (receiver_of state))
  pub writes : store' ≡ received_store store (receiver_of state) (receive_in line count ready store (receiver_of state))
  pub uses : used' ≡ report_used used (reported (receive_in line count ready store (receiver_of state)))
  pub ends : len' ≡ report_length len (reported (receive_in line count ready store (receiver_of state)))
  pub fails : remainder' ≡ report_remainder remainder (reported (receive_in line count ready store (receiver_of state)))

-- ---- the return bit

abbrev pub return_number : Bool → ℕ
return_number false = 96
return_number true = 97

abbrev pub back_in : Answer Receiver → ℕ
back_in (refused n) = n
back_in (done s) = cond (receiver_in_range s) (return_number s.back) A.spoiled

pub record ReturnBitCall (state : List ℕ) (result : ℕ) : Type 0 where
  pub answers : result ≡ back_in (receiver_of state)
