-- The sending end's calls for C and Rust, the sender in lent bytes: what each returns and writes, and its promise.
-- Assumes nothing.
use Rattle.std.specs.Prelude.{Option, ⊤, ◌<◌, ◌≡◌, Bool, cond, List, ◌++◌, ℕ, ◌+◌, ◌*◌, ltb, length, drop}
use Rattle.block.specs.Answer as A
use Rattle.block.specs.Answer.{Answer, refused, done, refuse_if}
use Rattle.line.specs.Sending.{open_sender, Block, synchronising, item, sender_in_range, gave_up, send, send_state, send_bytes}
use Rattle.line.specs.declared.sender.Sender.{Sender}
use Rattle.line.specs.declared.sender.Sent.{Sent}
use Rattle.line.specs.declared.sender.Sent.TheVariants as W
use Rattle.line_c.specs.State.{sender_size, sender_of, sender_bytes}
use Rattle.line_c.specs.BlockCalls.{refusal}

-- a sender's bytes over the first bytes of a slice, the others as they were
abbrev pub sender_over : List ℕ → Sender → List ℕ
sender_over state s = sender_bytes s ++ drop sender_size state

-- ---- opening, without marks if no code size is given: 1, 2, 3, 4, 5, 9, 6, the slice for the state judged last

abbrev pub judge_state : {A : Type 0} → ℕ → List ℕ → Answer A → Answer A
judge_state size state (refused n) = refused n
judge_state size state (done a) = refuse_if (ltb (length state) size) A.short (done a)

unfoldable pub open_sender_in : ℕ → ℕ → ℕ → ℕ → Option ℕ → List ℕ → List ℕ → Answer Sender
open_sender_in k speed loop_ms L size order state = judge_state sender_size state (open_sender k speed loop_ms L size order)

abbrev pub opened_bytes : List ℕ → Answer Sender → List ℕ
opened_bytes state (refused n) = state
opened_bytes state (done s) = sender_over state s

pub record OpenSenderCall
    (k speed loop_ms L : ℕ) (size : Option ℕ) (order state : List ℕ) (result : ℕ) (state' : List ℕ)
    : Type 0 where
  pub answers : result ≡ refusal (open_sender_in k speed loop_ms L size order state)
  pub writes : state' ≡ opened_bytes state (open_sender_in k speed loop_ms L size order state)

-- ---- a sending call

-- the word of a block: 0x100; 0x200 for an item, 0x400 for an end block, 0x800 if its reading was used, 0x1000 if it was
-- cancelled, and an item's number in the upper half
abbrev pub flag_word : Bool → ℕ → ℕ
flag_word t n = cond t n 0

abbrev pub item_word : ℕ → Bool → Bool → Bool → ℕ
item_word i end used cancelled = 0x300 + flag_word end 0x400 + flag_word used 0x800 + flag_word cancelled 0x1000 + i * 65536

-- an item's number fits its half of the word
abbrev pub number_fits : Sent → Type 0
number_fits W.Synchronising = ⊤
number_fits (W.Item i end used cancelled) = i < 65536

abbrev pub sent_word : Answer Block → ℕ
sent_word (refused n) = n
sent_word (done synchronising) = 0x100
sent_word (done (item i end used cancelled)) = item_word i end used cancelled

-- a call on the sender that the bytes hold, and the bytes afterwards
abbrev pub send_in : List ℕ → Bool → List ℕ → Answer Sender → Answer Block
send_in order reading slice (refused n) = refused n
send_in order reading slice (done s) = send s order reading slice

abbrev pub sent_state : List ℕ → Bool → Answer Sender → Answer Block → List ℕ
sent_state state reading (refused n) answer = state
sent_state state reading (done s) (refused n) = state
sent_state state reading (done s) (done b) = sender_over state (send_state s reading (done b))

abbrev pub sent_bytes : List ℕ → List ℕ → Answer Sender → Answer Block → List ℕ
sent_bytes order slice (refused n) answer = slice
sent_bytes order slice (done s) answer = send_bytes s order slice answer

pub record SendCall (state order : List ℕ) (reading : Bool) (slice : List ℕ) (result : ℕ) (state' slice' : List ℕ) : Type 0 where
  pub answers : result ≡ sent_word (send_in order reading slice (sender_of state))
  pub keeps : state' ≡ sent_state state reading (sender_of state) (send_in order reading slice (sender_of state))
  pub writes : slice' ≡ sent_bytes order slice (sender_of state) (send_in order reading slice (sender_of state))

-- ---- whether the sender is at rest

abbrev pub going_on_number : ℕ
going_on_number = 80

abbrev pub finished_number : ℕ
finished_number = 81

abbrev pub gave_up_number : ℕ
gave_up_number = 82

abbrev pub rest_in : Answer Sender → ℕ
rest_in (refused n) = n
rest_in (done s) = cond (sender_in_range s) (cond s.finished finished_number (cond (gave_up s) gave_up_number going_on_number)) A.spoiled

pub record SenderRestCall (state : List ℕ) (result : ℕ) : Type 0 where
  pub answers : result ≡ rest_in (sender_of state)
