-- The sending end: opening a sender and a sending call, with their promises. docs/PROTOCOL.md, "Sending". Assumes nothing.
use Rattle.std.specs.Prelude.{◌≡◌, Bool, true, false, cond, not, ◌&&◌, ◌||◌, List, ℕ, ◌+◌, ◌-◌, eqb, leb, ltb, Option, Result, Ok, Err}
use Rattle.crc.specs.Bits.{Bits}
use Rattle.block.specs.Answer as A
use Rattle.line.specs.Refusals as Refusals
use Rattle.line.specs.Refusals.{refusal_number}
use Rattle.block.specs.Answer.{Answer, refused, done, refuse_if}
use Rattle.block.specs.Lengths.{is_length, block_length, block_bytes}
use Rattle.block.specs.Block.{sync_block, cancelled}
use Rattle.block.specs.Calls.{too_short, overwritten}
use Rattle.line.specs.LoopTime.{loop_time}
use Rattle.line.specs.Marks.{marks_of, marks_in_range}
use Rattle.line.specs.Order.{longest_order, valid_length, item_count, is_data, order_bits, item_bits}
use Rattle.line.specs.declared.Refusal.{Refusal}
use Rattle.line.specs.declared.marks.Marks.{Marks}
use Rattle.line.specs.declared.sender.Sender.{Sender}
use Rattle.line.specs.declared.sender.Next.{Next}
use Rattle.line.specs.declared.sender.Next.TheVariants.{Sync, Older, Newer}
use Rattle.line.specs.declared.sender.Sent.{Sent}
use Rattle.line.specs.declared.sender.Sent.TheVariants as W
use Rattle.line.specs.declared.sender.Step.{Step}

-- ---- opening: 1, 2, 3, 4, 5, 9, 6

-- the pair is 0 and 1, opening lasts, and the first block is a synchronising block
unfoldable pub fresh_sender : ℕ → ℕ → Marks → Sender
fresh_sender k L m =
    record {
      setup = record { k = k; length = L; marks = m };
      newer = 1;
      run = 0;
      opening = true;
      next = Sync;
      finished = false;
    }

-- what follows if an answer is no refusal
abbrev pub unless_refused : {A B : Type 0} → Answer A → Answer B → Answer B
unless_refused (refused n) next = refused n
unless_refused (done a) next = next

unfoldable pub open_sender : ℕ → ℕ → ℕ → ℕ → Option ℕ → List ℕ → Answer Sender
open_sender k speed loop_ms L size order =
    unless_refused (loop_time k speed loop_ms)
    (refuse_if (eqb L 0) Refusals.empty
    (refuse_if (ltb longest_order L) Refusals.long
    (refuse_if (not (marks_in_range (marks_of size))) Refusals.code_size
    (refuse_if (too_short order L) A.short (done (fresh_sender k L (marks_of size)))))))

abbrev pub opened_answer : Result Sender Refusal → Answer Sender
opened_answer (Ok s) = done s
opened_answer (Err r) = refused (refusal_number r)

pub record OpenSender (k speed loop_ms L : ℕ) (size : Option ℕ) (order : List ℕ) (answer : Result Sender Refusal) : Type 0 where
  pub answers : opened_answer answer ≡ open_sender k speed loop_ms L size order

-- ---- a sending call

-- the block that a call sends: a synchronising block, or an item with its number, whether it is an end block, whether
-- its reading is used and whether it is cancelled
pub data Block : Type 0 where
  synchronising : Block
  item : (number : ℕ) (end used cancelled : Bool) → Block

-- what a call sends, and the state afterwards
pub record Transmission : Type 0 where
  pub block : Block
  pub state : Sender

abbrev pub with_next : Sender → Next → Sender
with_next s next =
    record { setup = s.setup; newer = s.newer; run = s.run; opening = s.opening; next = next; finished = s.finished }

abbrev pub sender_items : Sender → ℕ
sender_items s = item_count s.setup.k s.setup.length

-- the newer item is N + 1
abbrev pub at_last : Sender → Bool
at_last s = eqb s.newer (sender_items s + 1)

-- reading 0 of the newer item: the pair moves up by one, or the sender is finished
abbrev pub confirmed : Sender → Sender
confirmed s =
    record {
      setup = s.setup;
      newer = cond (at_last s) s.newer (s.newer + 1);
      run = 0;
      opening = false;
      next = Newer;
      finished = at_last s;
    }

-- the run at which a synchronising block comes before the repeat, and at which the sender gives up
abbrev pub sync_run : ℕ
sync_run = 4

abbrev pub last_run : ℕ
last_run = 64

-- reading 1 of the newer item: the run grows by one, and the pair is repeated
abbrev pub repeated : Sender → Sender
repeated s =
    record {
      setup = s.setup;
      newer = s.newer;
      run = s.run + 1;
      opening = s.opening;
      next = cond (s.opening || leb sync_run (s.run + 1)) Sync Older;
      finished = s.finished;
    }

abbrev pub item_block : Sender → ℕ → Bool → Bool → Block
item_block s i used cancelled = item i (not (is_data s.setup.k s.setup.length i)) used cancelled

unfoldable pub transmit : Sender → Next → Bool → Transmission
transmit s Sync reading = record { block = synchronising; state = with_next s Older }
transmit s Older reading = record { block = item_block s (s.newer - 1) false false; state = with_next s Newer }
transmit s Newer false = record { block = item_block s s.newer true false; state = confirmed s }
transmit s Newer true = record { block = item_block s s.newer true true; state = repeated s }

-- every field within its range
unfoldable pub sender_in_range : Sender → Bool
sender_in_range s =
    is_length s.setup.k && valid_length s.setup.length && marks_in_range s.setup.marks && leb 1 s.newer
    && leb s.newer (sender_items s + 1) && leb s.run last_run

abbrev pub gave_up : Sender → Bool
gave_up s = eqb s.run last_run

-- 7, 8, 6
unfoldable pub send : Sender → List ℕ → Bool → List ℕ → Answer Block
send s order reading slice =
    refuse_if (not (sender_in_range s)) A.spoiled
    (refuse_if (s.finished || gave_up s) Refusals.rest
    (refuse_if (too_short order s.setup.length || too_short slice (block_length s.setup.k)) A.short
    (done (transmit s s.next reading).block)))

abbrev pub send_state : Sender → Bool → Answer Block → Sender
send_state s reading (refused n) = s
send_state s reading (done b) = (transmit s s.next reading).state

-- the bits of a block before cancelling, and as they are sent
unfoldable pub plain_bits : Marks → ℕ → ℕ → Bits → Block → Bits
plain_bits m k L content synchronising = sync_block k
plain_bits m k L content (item i end used cancel) = item_bits m k L content i

unfoldable pub sent_bits : Marks → ℕ → ℕ → Bits → Block → Bits
sent_bits m k L content synchronising = sync_block k
sent_bits m k L content (item i end used cancel) =
    cond cancel (cancelled (item_bits m k L content i)) (item_bits m k L content i)

abbrev pub send_bytes : Sender → List ℕ → List ℕ → Answer Block → List ℕ
send_bytes s order slice (refused n) = slice
send_bytes s order slice (done b) =
    overwritten (block_bytes s.setup.k)
    (sent_bits s.setup.marks s.setup.k s.setup.length (order_bits s.setup.length order) b) slice

abbrev pub sent_block : Sent → Block
sent_block W.Synchronising = synchronising
sent_block (W.Item i end used cancel) = item i end used cancel

abbrev pub sent_answer : Result Sent Refusal → Answer Block
sent_answer (Ok x) = done (sent_block x)
sent_answer (Err r) = refused (refusal_number r)

pub record Send (s : Sender) (order : List ℕ) (reading : Bool) (slice : List ℕ) (result : Step) (slice' : List ℕ) : Type 0 where
  pub answers : sent_answer result.answer ≡ send s order reading slice
  pub state : result.state ≡ send_state s reading (send s order reading slice)
  pub writes : slice' ≡ send_bytes s order slice (send s order reading slice)
