-- A receiving call on a state in two parts: its array lent, its other fields, the head, by value. Assumes nothing.
use Rattle.std.specs.Prelude.{◌≡◌, Bool, not, List, ℕ, eqb, length}
use Rattle.block.specs.Answer as A
use Rattle.block.specs.Answer.{Answer, refuse_if}
use Rattle.line.specs.Receiving.{array_bytes, Reception, receive, receive_state, receive_store, reported, received_answer}
use Rattle.line.specs.declared.receiver.Receiver.{Receiver}
use Rattle.line.specs.declared.head.Head.{Head}
use Rattle.line.specs.declared.head.HeadStep.{HeadStep}

-- the receiver of a head and an array
abbrev pub with_array : Head → List ℕ → Receiver
with_array h array =
    record {
      setup = h.setup;
      bits = array;
      held = h.held;
      bad_row = h.bad_row;
      back = h.back;
      taken = h.taken;
      ended = h.ended;
      phase = h.phase;
    }

-- an array of another length is no receiver's: spoiled
unfoldable pub receive_in_place : Head → List ℕ → List ℕ → ℕ → Bool → List ℕ → Answer Reception
receive_in_place h array line count ready store =
    refuse_if (not (eqb (length array) array_bytes)) A.spoiled (receive (with_array h array) line count ready store)

pub record ReceiveInPlace
    (h : Head) (array line : List ℕ) (count : ℕ) (ready : Bool) (store : List ℕ) (result : HeadStep) (array' store' : List ℕ)
    : Type 0 where
  pub answers : received_answer result.answer ≡ reported (receive_in_place h array line count ready store)
  pub state : with_array result.head array' ≡ receive_state (with_array h array) (receive_in_place h array line count ready store)
  pub writes : store' ≡ receive_store (with_array h array) store (receive_in_place h array line count ready store)
