-- A list of calls at both ends: what follows from the openings and the calls' own arguments, and what the calls did.
-- Assumes nothing.
use Rattle.std.specs.Prelude.{Bool, List, [], ◌∷◌, ℕ, take, drop}
use Rattle.crc.specs.Bits.{Bits, bits_of}
use Rattle.block.specs.Answer.{Answer, refused, done}
use Rattle.line.specs.Order.{order_bits}
use Rattle.line.specs.Sending.{Block, synchronising, send, send_state, send_bytes, plain_bits, sent_bits, sent_answer, Send}
use Rattle.line.specs.Receiving.{Rule, Reception, Report, receive, receive_state, receive_store, reported, received_answer, Receive}
use Rattle.line.specs.declared.sender.Sender.{Sender}
use Rattle.line.specs.declared.sender.Step as SenderStep
use Rattle.line.specs.declared.receiver.Receiver.{Receiver}
use Rattle.line.specs.declared.receiver.Step as ReceiverStep

-- A call with its own arguments, the lent slices included. A sending call: the order, the reading, the slice for the
-- block, and the copy of its block's bits that reaches the machine. A receiving call: the line, the number of bits, whether
-- the machine is ready, the store.
pub data Call : Type 0 where
  sending : (order : List ℕ) (reading : Bool) (slice : List ℕ) (arrives : Bits) → Call
  receiving : (line : List ℕ) (count : ℕ) (ready : Bool) (store : List ℕ) → Call

-- ---- the course: what the definitions give, from the openings on

-- what the last call at each end handed back, the store as the last one left it, the block on the line (before the first
-- period of no account, since no bit is lent) and the bits of its copy that are not used yet
pub record World : Type 0 where
  pub sender : Sender
  pub receiver : Receiver
  pub store : List ℕ
  pub block : Block
  pub left : Bits

abbrev pub opened : Sender → Receiver → List ℕ → World
opened s r store = record { sender = s; receiver = r; store = store; block = synchronising; left = [] }

-- a sending call that is not refused begins a block period
pub record Sent : Type 0 where
  pub block : Block
  pub reading : Bool
  pub back : Bool  -- the return bit then standing
  pub plain : Bits  -- the block's bits before cancelling
  pub bits : Bits  -- as sent
  pub arrives : Bits  -- the copy
  pub unused : Bits  -- of the copy before, not used yet
  pub order : Bits  -- the order lent

-- a receiving call that is not refused
pub record Heard : Type 0 where
  pub rule : Rule
  pub used : ℕ
  pub lent : Bits  -- the bits lent
  pub left : Bits  -- of the copy, not used before this call
  pub block : Block  -- the block on the line
  pub store : List ℕ  -- the store lent
  pub kept : List ℕ  -- the store as the last call left it

pub data Entry : Type 0 where
  send_refused : ℕ → Entry
  receive_refused : ℕ → Entry
  sent : Sent → Entry
  heard : Heard → Entry

-- `f` of a sending call that is not refused; of every other entry, `other`
abbrev pub on_sent {ℓ} : {A : Type ℓ} → A → (Sent → A) → Entry → A
on_sent other f (send_refused n) = other
on_sent other f (receive_refused n) = other
on_sent other f (sent x) = f x
on_sent other f (heard y) = other

-- `f` of a receiving call that is not refused; of every other entry, `other`
abbrev pub on_heard {ℓ} : {A : Type ℓ} → A → (Heard → A) → Entry → A
on_heard other f (send_refused n) = other
on_heard other f (receive_refused n) = other
on_heard other f (sent x) = other
on_heard other f (heard y) = f y

abbrev pub send_entry : World → List ℕ → Bool → Bits → Answer Block → Entry
send_entry w order reading arrives (refused n) = send_refused n
send_entry w order reading arrives (done b) =
    let setup = w.sender.setup in
    let content : Bits = order_bits setup.length order in
    sent
    (record {
      block = b;
      reading = reading;
      back = w.receiver.back;
      plain = plain_bits setup.marks setup.k setup.length content b;
      bits = sent_bits setup.marks setup.k setup.length content b;
      arrives = arrives;
      unused = w.left;
      order = content;
    })

abbrev pub send_after : World → Bool → Bits → Answer Block → World
send_after w reading arrives (refused n) = w
send_after w reading arrives (done b) =
    record {
      sender = send_state w.sender reading (done b);
      receiver = w.receiver;
      store = w.store;
      block = b;
      left = arrives;
    }

abbrev pub receive_entry : World → Bits → List ℕ → Answer Reception → Entry
receive_entry w lent store (refused n) = receive_refused n
receive_entry w lent store (done x) =
    heard
    (record {
      rule = x.rule;
      used = x.used;
      lent = lent;
      left = w.left;
      block = w.block;
      store = store;
      kept = w.store;
    })

abbrev pub receive_after : World → List ℕ → Answer Reception → World
receive_after w store (refused n) = w
receive_after w store (done x) =
    record {
      sender = w.sender;
      receiver = x.state;
      store = receive_store w.receiver store (done x);
      block = w.block;
      left = drop x.used w.left;
    }

abbrev pub entry : World → Call → Entry
entry w (sending order reading slice arrives) = send_entry w order reading arrives (send w.sender order reading slice)
entry w (receiving line count ready store) =
    receive_entry w (take count (bits_of line)) store (receive w.receiver line count ready store)

abbrev pub next : World → Call → World
next w (sending order reading slice arrives) = send_after w reading arrives (send w.sender order reading slice)
next w (receiving line count ready store) = receive_after w store (receive w.receiver line count ready store)

abbrev pub course : World → List Call → List Entry
course w [] = []
course w (c ∷ cs) = entry w c ∷ course (next w c) cs

abbrev pub final : World → List Call → World
final w [] = w
final w (c ∷ cs) = final (next w c) cs

-- ---- what a call answers, hands back and leaves in the slice that it may write

pub data Result : Type 0 where
  sender : Answer Block → Sender → List ℕ → Result
  receiver : Answer Report → Receiver → List ℕ → Result

abbrev pub result : World → Call → Result
result w (sending order reading slice arrives) =
    let answer : Answer Block = send w.sender order reading slice in
    Result.sender answer (send_state w.sender reading answer) (send_bytes w.sender order slice answer)
result w (receiving line count ready store) =
    let answer : Answer Reception = receive w.receiver line count ready store in
    Result.receiver (reported answer) (receive_state w.receiver answer) (receive_store w.receiver store answer)

abbrev pub results : World → List Call → List Result
results w [] = []
results w (c ∷ cs) = result w c ∷ results (next w c) cs

-- The calls as they ran: each under its own promise, and given the state that the last call at its own end handed back.
pub data Run : Sender → Receiver → List Call → Type 0 where
  none : {s : Sender} {r : Receiver} → Run s r []
  sends : {s : Sender} {r : Receiver} {order : List ℕ} {reading : Bool} {slice : List ℕ} {arrives : Bits} {calls : List Call}
      → (step : SenderStep.Step) (slice' : List ℕ) → Send s order reading slice step slice'
      → Run step.state r calls → Run s r (sending order reading slice arrives ∷ calls)
  receives : {s : Sender} {r : Receiver} {line : List ℕ} {count : ℕ} {ready : Bool} {store : List ℕ} {calls : List Call}
      → (step : ReceiverStep.Step) (store' : List ℕ) → Receive r line count ready store step store'
      → Run s step.state calls → Run s r (receiving line count ready store ∷ calls)

abbrev pub observed : {s : Sender} {r : Receiver} {calls : List Call} → Run s r calls → List Result
observed none = []
observed (sends step slice' kept run) =
    Result.sender (sent_answer step.answer) step.state slice' ∷ observed run
observed (receives step store' kept run) =
    Result.receiver (received_answer step.answer) step.state store' ∷ observed run
