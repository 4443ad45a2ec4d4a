-- Computed periods that meet all that `LastEvent` supposes, at k 240: a block that is accepted whole, and one whose first bit
-- completes a block, so that a call follows accepted. Assumes nothing.
use mathlib.Core.Path.{◌≡◌, refl}
use mathlib.Core.Bool.{true, false}
use mathlib.Core.List.{List, [], ◌∷◌}
use Prim.Native.Nat.{ℕ}
use lib.ListN.{take, replicate}
use Rattle.crc.specs.Bits.{binary, number, bits_of, bytes_of}
use Rattle.crc.specs.Check.{remainder, passes, check}
use Rattle.block.specs.Lengths.{is_length}
use Rattle.block.specs.Block.{block_bits, verdict}
use Rattle.line.specs.Marks.{marks_of, marks_in_range}
use Rattle.line.specs.Order.{valid_length, item_count, letter, is_letter, data_service, filled, item_service, item_payload, order_bits, item_bits}
use Rattle.line.specs.Sending.{sender_in_range, send, transmit, sent_bits}
use Rattle.line.specs.Receiving.{fresh_receiver, zero_array, is_of, place, service_rule, looks_sync, judge, after_good, holding, in_step, reception, receiver_in_range, receive, store_at}
use Rattle.std.specs.Prelude.{None}
use Rattle.line.specs.declared.marks.Marks.{Marks}
use Rattle.line.specs.declared.receiver.Receiver.{Receiver}
use Rattle.line.specs.declared.receiving.Event.{Event}
use Rattle.line.specs.declared.receiving.Event.TheVariants as E
use Rattle.line.specs.declared.sender.Sender.{Sender}
use Rattle.line.specs.declared.sender.Next.TheVariants as N
use Rattle.session.specs.LastEvent.{heard_events, period_events, shown_events}
use Rattle.session.specs.Period.{period}
use Rattle.session.specs.declared.period.Kind.TheVariants as K
use Rattle.session.proofs.LastEvent.{last_event_lem}

abbrev order : List ℕ
order = 0xa5 ∷ []

abbrev store : List ℕ
store = replicate 30 0

abbrev marks : Marks
marks = marks_of None

-- the older item is next
abbrev sender : Sender
sender =
    record {
      setup = record { k = 240; length = 8; marks = marks };
      newer = 1;
      run = 0;
      opening = true;
      next = N.Older;
      finished = false;
    }

-- in step
abbrev receiver : Receiver
receiver = after_good (fresh_receiver 240 marks) 0 false

-- one bit of item 0 is missing
abbrev nearly : Receiver
nearly = holding receiver (take 259 (item_bits marks 240 8 (order_bits 8 order) 0))

-- where this unfolds, so does all that both ends compute with
unfoldable pub events : Receiver → List Event
unfolding period_events heard_events send sender_in_range transmit sent_bits item_bits item_payload item_service data_service filled receive receiver_in_range marks_in_range reception in_step judge looks_sync verdict passes remainder check block_bits service_rule place is_of letter is_letter valid_length item_count number binary bits_of bytes_of zero_array fresh_receiver is_length store_at
events r = period_events K.Undisturbed sender r order store

pub accepted-whole : events receiver ≡ E.Accepted ∷ []
unfolding events
accepted-whole = refl

pub accepted_first : events nearly ≡ E.Accepted ∷ E.None ∷ []
unfolding events
accepted_first = refl

-- and the line shows it
pub accepted-shown : shown_events (period K.Undisturbed sender nearly order store).outcome ≡ E.Accepted ∷ []
unfolding events
accepted-shown = ((last_event_lem.tells K.Undisturbed sender nearly order store refl).last [] E.Accepted (E.None ∷ []) accepted_first refl).1
