-- A tint order that is sent, and whose end the machine reports, is read as the same doses. Assumes nothing.
use Rattle.std.specs.Prelude.{Option, Result, Ok, ◌≡◌, true, List, ℕ, ◌*◌, ◌/◌, take}
use Rattle.line.specs.Order.{order_bits}
use Rattle.line.specs.Course.{Call, opened, course, final}
use Rattle.line.specs.Delivery.{some, is_end, Assumptions, Openings}
use Rattle.line.specs.WholeOrder.{Bytes}
use Rattle.line.specs.declared.sender.Sender.{Sender}
use Rattle.line.specs.declared.receiver.Opened as ReceiverOpened
use Rattle.tint.specs.Calls.{Write, Read}
use Rattle.tint.specs.RoundTrip.{ReadAs}
use Rattle.tint.specs.declared.Refusal.{Refusal}
use Rattle.tint.specs.declared.Doses.{Doses}

-- Doses are written as n bytes. Both ends are opened alike on an order that begins with these, and with L eight times n. Then,
-- for every list of calls that meets what demand 3 supposes and in which the machine reports the end, reading the store's first
-- L / 8 bytes gives the same doses. The store is the course's; that the calls leave it so is `Delivered.answers` of demand 3.
unfoldable pub TintDelivery : Type 0
TintDelivery =
    (doses : Doses) (slice slice' : List ℕ) (n : ℕ) → Write doses slice (Ok n) slice'
    → (order : List ℕ) → Bytes order → take n order ≡ take n slice'
    → (k speed loop_ms L : ℕ) (sender_size receiver_size : Option ℕ) (s : Sender) (o : ReceiverOpened.Opened) (initial_store : List ℕ)
    → L ≡ 8 * n → Bytes initial_store → Openings k speed loop_ms L sender_size receiver_size order s o initial_store
    → (calls : List Call) → Assumptions k (order_bits L order) (course (opened s o.state initial_store) calls)
    → some is_end (course (opened s o.state initial_store) calls) ≡ true
    → (r : Result Doses Refusal) → Read (take (L / 8) (final (opened s o.state initial_store) calls).store) r → ReadAs doses r
