-- A list of calls written as a table: each row a block period, with what its calls did and the world behind them.
-- Assumes nothing.
use mathlib.Core.Bool.{Bool, true, false, not}
use mathlib.Core.List.{List, [], ◌∷◌, map, flat_map}
use Prim.Native.Nat.{ℕ}
use lib.ListN.{replicate}
use Rattle.std.proofs.Common.{None}
use Rattle.crc.specs.Bits.{Bits, binary, number, bits_of, bytes_of, xor_bits, parity, zeros}
use Rattle.crc.specs.Check.{remainder, passes, check}
use Rattle.block.specs.Answer.{Answer}
use Rattle.block.specs.Lengths.{is_length}
use Rattle.block.specs.Block.{block_bits, verdict, sync_block, cancelled}
use Rattle.line.specs.Marks.{marks_of, is_code_size, marks_in_range, mark, is_mark}
use Rattle.line.specs.Order.{valid_length, item_count, letter, is_letter, data_service, filled, end_payload, item_service, item_payload, item_bits}
use Rattle.line.specs.Sending.{Block, fresh_sender, sender_in_range, send, transmit, plain_bits, sent_bits}
use Rattle.line.specs.Receiving.{fresh_receiver, zero_array, is_of, place, end_rule, mark_rule, service_rule, looks_sync, judge, blank, Reception, in_step, reception, receiver_in_range, receive, store_at}
use Rattle.line.specs.Course.{Call, sending, receiving, World, Entry, send_refused, receive_refused, sent, heard, course, final}
use Rattle.line.specs.Delivery.{event_of}
use Rattle.line.specs.declared.marks.Marks.{Marks}
use Rattle.line.specs.declared.sender.Sender.{Sender}
use Rattle.line.specs.declared.sender.Next.{Next}
use Rattle.line.specs.declared.receiver.Receiver.{Receiver}
use Rattle.line.specs.declared.receiving.Event.{Event}
use Rattle.line.specs.declared.receiving.Phase.{Phase}
use Rattle.line.specs.declared.receiving.Phase.TheVariants as P
use Rattle.witness.proofs.Meets.{same_bits}

-- what a call did: its refusal; or the block sent, the reading, the return bit then standing and whether the copy is as
-- sent; or the event and the number of bits used
pub data Outcome : Type 0 where
  refuses : ℕ → Outcome
  sends : (block : Block) (reading back as_sent : Bool) → Outcome
  hears : Event → ℕ → Outcome

abbrev pub outcome : Entry → Outcome
outcome (send_refused n) = refuses n
outcome (receive_refused n) = refuses n
outcome (sent x) = sends x.block x.reading x.back (same_bits x.arrives x.bits)
outcome (heard y) = hears (event_of y) y.used

-- calls, what they did and the world behind them
pub record Row : Type 0 where
  pub calls : List Call
  pub outcomes : List Outcome
  pub world : World

abbrev pub all_calls : List Row → List Call
all_calls = flat_map (λ r. r.calls)

-- `receive`, and where this unfolds so does all that it computes with
unfoldable pub received : Receiver → List ℕ → ℕ → Bool → List ℕ → Answer Reception
unfolding receive receiver_in_range marks_in_range is_code_size reception in_step judge looks_sync verdict passes remainder check block_bits sync_block service_rule end_rule end_payload mark_rule place is_of is_mark letter is_letter valid_length item_count number binary bits_of bytes_of zero_array fresh_receiver is_length store_at
received = receive

-- The rows that these calls come to, each from the world behind the row before. Where this unfolds, so does all that both
-- ends compute with.
unfoldable pub trace : World → List Row → List Row
unfolding flat_map received send sender_in_range transmit plain_bits sent_bits fresh_sender item_bits item_payload item_service data_service mark filled cancelled xor_bits parity
trace w [] = []
trace w (r ∷ rs) =
    record { calls = r.calls; outcomes = map outcome (course w r.calls); world = final w r.calls } ∷ trace r.world rs

-- what opening without a code size fixes
abbrev pub no_marks : Marks
no_marks = marks_of None

-- a sender of an order of L bits: its newer item, the run, whether opening lasts, what is next, whether it is finished
abbrev pub sender_with : Marks → (L newer run : ℕ) → Bool → Next → Bool → Sender
sender_with m L newer run opening next finished =
    record {
      setup = record { k = 240; length = L; marks = m };
      newer = newer;
      run = run;
      opening = opening;
      next = next;
      finished = finished;
    }

abbrev pub sender : (L newer run : ℕ) → Bool → Next → Bool → Sender
sender = sender_with no_marks

-- a receiver with nothing held: the bad row, the return bit, the items taken, whether the end is, and what it is doing
abbrev pub receiver_with : Marks → (bad_row : ℕ) → Bool → (taken : ℕ) → Bool → Phase → Receiver
receiver_with m bad_row back taken ended phase = blank (fresh_receiver 240 m) bad_row back taken ended phase

abbrev pub receiver : (bad_row : ℕ) → Bool → (taken : ℕ) → Bool → Phase → Receiver
receiver = receiver_with no_marks

-- in step with return bit 0
abbrev pub good : (taken : ℕ) → Bool → Receiver
good taken ended = receiver 0 false taken ended P.InStep

-- in step behind this many bad blocks in a row
abbrev pub bad : (bad_row taken : ℕ) → Receiver
bad bad_row taken = receiver bad_row true taken false P.InStep

-- in step behind a block that waits
abbrev pub waited : (taken : ℕ) → Receiver
waited taken = bad 0 taken

-- between two periods all bits of the last block are used
abbrev pub between : Sender → Receiver → List ℕ → Block → World
between s r store b = record { sender = s; receiver = r; store = store; block = b; left = [] }

-- A period: one sending call, and one receiving call that takes the whole copy.
abbrev pub period_calls : (ready : Bool) (order store : List ℕ) (reading : Bool) (arrives : Bits) → List Call
period_calls ready order store reading arrives =
    sending order reading (replicate 33 0) arrives ∷ receiving (bytes_of 33 arrives) 260 ready store ∷ []

abbrev pub period_outcomes : (reading : Bool) (b : Block) (back as_sent : Bool) (event : Event) → List Outcome
period_outcomes reading b back as_sent event = sends b reading back as_sent ∷ hears event 260 ∷ []

-- Whether the machine is ready; the order, the store lent and as it is left; the reading and the copy; the block sent, the
-- return bit then standing, whether the copy is as sent, the event; the states afterwards.
abbrev pub period_with : (ready : Bool) (order store store' : List ℕ) (reading : Bool) (arrives : Bits) (b : Block) (back as_sent : Bool)
    (event : Event) (s : Sender) (r : Receiver) → Row
period_with ready order store store' reading arrives b back as_sent event s r =
    record {
      calls = period_calls ready order store reading arrives;
      outcomes = period_outcomes reading b back as_sent event;
      world = between s r store' b;
    }

-- the machine being ready
abbrev pub period : (order store store' : List ℕ) (reading : Bool) (arrives : Bits) (b : Block) (back as_sent : Bool) (event : Event)
    (s : Sender) (r : Receiver) → Row
period = period_with true

-- the first bit inverted
abbrev pub damaged : Bits → Bits
damaged [] = []
damaged (b ∷ bs) = not b ∷ bs

-- Remainders at k 240: of a cancelled block; of a damaged one, which is that of x^259; of a damaged synchronising block, which
-- does not pass undamaged either.
abbrev pub cancelled_remainder : ℕ
cancelled_remainder = 1

abbrev pub damaged_remainder : ℕ
damaged_remainder = 0x31cc

abbrev pub damaged_sync_remainder : ℕ
damaged_sync_remainder = 0xaef6

-- a block of these service bits whose data are zeros
abbrev pub zero_block : ℕ → Bits
zero_block service = block_bits (binary 4 service) (zeros 240)
