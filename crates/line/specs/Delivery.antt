-- Demand 3 as one type: what is supposed of a list of calls, and what then holds of it. Assumes nothing.
use Rattle.std.specs.Prelude.{◌≡◌, ◌⊎◌, Bool, true, false, cond, ◌&&◌, ◌||◌, not, List, [], ◌∷◌, ◌++◌, ℕ, ◌+◌, ◌*◌, ◌≤◌, eqb, length, take, drop, Option, Ok}
use Rattle.crc.specs.Bits.{Bits, bits_of, xor_bits}
use Rattle.crc.specs.Damage.{Damage}
use Rattle.block.specs.Answer as A
use Rattle.line.specs.Refusals as Refusals
use Rattle.block.specs.Lengths.{block_length}
use Rattle.line.specs.Marks.{marks_of}
use Rattle.line.specs.Order.{item_count, filled, order_bits}
use Rattle.line.specs.Sending.{Block, synchronising, item, OpenSender, gave_up}
use Rattle.line.specs.Receiving.{Rule, meaning, EventKind, event_kind, with_length, OpenReceiver}
use Rattle.line.specs.Course.{Call, World, opened, Sent, Heard, Entry, send_refused, receive_refused, sent, heard, on_sent, on_heard, course, final, results, Run, observed}
use Rattle.line.specs.declared.sender.Sender.{Sender}
use Rattle.line.specs.declared.receiver.Receiver.{Receiver}
use Rattle.line.specs.declared.receiving.Event.{Event}
use Rattle.line.specs.declared.receiving.Event.TheVariants as E
use Rattle.line.specs.declared.receiver.Opened as ReceiverOpened

-- ---- lists

abbrev pub All : {A : Type 0} → (A → Type 0) → List A → Type 0
All P [] = Unit {0}
All P (x ∷ xs) = P x × All P xs

abbrev pub some : {A : Type 0} → (A → Bool) → List A → Bool
some f [] = false
some f (x ∷ xs) = f x || some f xs

abbrev pub sum : (Entry → ℕ) → List Entry → ℕ
sum f [] = 0
sum f (e ∷ es) = f e + sum f es

-- ---- the words of demand 3

abbrev pub event_of : Heard → Event
event_of y = (meaning y.rule).event

abbrev pub kind_of : Heard → EventKind
kind_of y = event_kind (event_of y)

-- "a new block", "the end", "an alarm"
abbrev pub is_new : Entry → Bool
is_new = on_heard false (λ y. (kind_of y).new)

abbrev pub is_end : Entry → Bool
is_end = on_heard false (λ y. with_length false (λ M. true) (kind_of y).length)

-- the end reported with this length
abbrev pub reports_end : ℕ → Entry → Bool
reports_end L = on_heard false (λ y. with_length false (λ M. eqb M L) (kind_of y).length)

abbrev pub is_alarm : Entry → Bool
is_alarm = on_heard false (λ y. (kind_of y).alarm)

abbrev pub is_used : Block → Bool
is_used synchronising = false
is_used (item i end used cancel) = used

abbrev pub is_cancelled : Block → Bool
is_cancelled synchronising = false
is_cancelled (item i end used cancel) = cancel

-- sent as data or end
abbrev pub is_item : Block → Bool
is_item synchronising = false
is_item (item i end used cancel) = true

-- read in step with a passing check, and not made to wait
abbrev pub read_good : Rule → Bool
read_good rule = (meaning rule).checked && not (event_kind (meaning rule).event).wait

-- "lost": a request is lost if the return bit is 1 and a used reading is 0
abbrev pub is_lost : Entry → Bool
is_lost = on_sent false (λ x. is_used x.block && x.back && not x.reading)

-- "wait"
abbrev pub is_wait : Entry → Bool
is_wait = on_heard false (λ y. (kind_of y).wait)

-- "a good block": sent as data or end and read in step with a passing check; a waiting block is none
abbrev pub is_good : Entry → Bool
is_good = on_heard false (λ y. is_item y.block && read_good y.rule)

-- ---- what is supposed

-- A sending call finds all bits of the block before used, and its block's copy keeps its length; a receiving call is lent
-- the next bits of the copy that are not yet used.
abbrev pub OnLine : ℕ → Entry → Type 0
OnLine k e =
    on_sent (on_heard (Unit {0}) (λ y. (remaining : Bits) × (y.left ≡ y.lent ++ remaining)) e)
    (λ x. (x.unused ≡ []) × (length x.arrives ≡ block_length k)) e

-- each sending call is lent the same order
abbrev pub SameOrder : Bits → Entry → Type 0
SameOrder content = on_sent (Unit {0}) (λ x. x.order ≡ content)

-- each receiving call is lent the same store, as the last one left it
abbrev pub SameStore : Entry → Type 0
SameStore = on_heard (Unit {0}) (λ y. y.store ≡ y.kept)

-- against the block before cancelling, the damage is nothing, an odd number of bits, or bits within 16 adjacent places
abbrev pub Admitted : Entry → Type 0
Admitted = on_sent (Unit {0}) (λ x. Damage (xor_bits x.arrives x.plain))

-- no cancelled block arrives whole: as it was before cancelling
abbrev pub NotWhole : Entry → Type 0
NotWhole = on_sent (Unit {0}) (λ x. is_cancelled x.block ≡ true → x.arrives ≡ x.plain → ⊥)

-- sync comes only at the last bit of a synchronising block
abbrev pub SyncAtLast : Entry → Type 0
SyncAtLast = on_heard (Unit {0}) (λ y. event_of y ≡ E.Sync → (y.block ≡ synchronising) × (y.used ≡ length y.left))

-- a synchronising block passes for no data or end: rules 3 to 6 do not read it
abbrev pub SyncNotData : Entry → Type 0
SyncNotData = on_heard (Unit {0}) (λ y. y.block ≡ synchronising → (meaning y.rule).data_or_end ≡ false)

pub record Assumptions (k : ℕ) (content : Bits) (es : List Entry) : Type 0 where
  pub line : All (OnLine k) es
  pub order : All (SameOrder content) es
  pub store : All SameStore es
  pub damage : All Admitted es
  pub not_whole : All NotWhole es
  pub sync_at_last : All SyncAtLast es
  pub sync_not_data : All SyncNotData es
  -- between two lost requests the machine reads at least one good block, an alarm before the second excepted
  pub between_losses : (before between behind : List Entry) (p q : Entry)
      → es ≡ before ++ (p ∷ (between ++ (q ∷ behind))) → is_lost p ≡ true → is_lost q ≡ true
      → some is_alarm (before ++ (p ∷ between)) ≡ false → some is_good between ≡ true

-- ---- block periods

-- "a block period": begun by a sending call that is not refused, it lasts until the next begins
pub record Period : Type 0 where
  pub start : Sent
  pub calls : List Entry

pub record Grouped : Type 0 where
  pub loose : List Entry  -- before the first period
  pub periods : List Period

abbrev pub grouped : Entry → Grouped → Grouped
grouped e g =
    on_sent (record { loose = e ∷ g.loose; periods = g.periods })
    (λ x. record { loose = []; periods = record { start = x; calls = g.loose } ∷ g.periods }) e

abbrev pub group : List Entry → Grouped
group [] = record { loose = []; periods = [] }
group (e ∷ es) = grouped e (group es)

abbrev pub used_bits : List Entry → ℕ
used_bits = sum (on_heard 0 (λ y. y.used))

-- "undisturbed": all n bits arrive as sent, the reading equals the return bit then standing, and no block waits
pub record Undisturbed (k : ℕ) (p : Period) : Type 0 where
  pub reading : p.start.reading ≡ p.start.back
  pub as_sent : p.start.arrives ≡ p.start.bits
  pub all_used : used_bits p.calls ≡ block_length k
  pub no_wait : some is_wait p.calls ≡ false

abbrev pub brings : (Entry → Bool) → List Period → Bool
brings f = some (λ p. some f p.calls)

-- how many undisturbed periods in a row bring a new block or the end
abbrev pub progress_periods : ℕ
progress_periods = 6

-- ---- what holds

-- a sending call is refused only for a short slice or at rest, a receiving call only for a short slice
abbrev pub OnlyRefused : Entry → Type 0
OnlyRefused (send_refused n) = (n ≡ A.short) ⊎ (n ≡ Refusals.rest)
OnlyRefused (receive_refused n) = n ≡ A.short
OnlyRefused (sent x) = Unit {0}
OnlyRefused (heard y) = Unit {0}

-- r, the number of accepted blocks
abbrev pub accepted : List Entry → ℕ
accepted = sum (λ e. cond (is_new e) 1 0)

pub record Guarantees (k L : ℕ) (content : Bits) (initial_store : List ℕ) (es : List Entry) (w : World) : Type 0 where
  -- the store holds the beginning of the order, no block missing, doubled or moved, and the rest is as first lent
  pub items : accepted es ≤ item_count k L
  pub stored : take (accepted es * k) (bits_of w.store) ≡ take (accepted es * k) (filled k L content)
  pub untouched : drop (accepted es * k) (bits_of w.store) ≡ drop (accepted es * k) (bits_of initial_store)
  -- with the end reported, all of it, and the order's length
  pub ended : (M : ℕ) → some (reports_end M) es ≡ true → (accepted es ≡ item_count k L) × (M ≡ L)
  -- an alarm only if a repeat request was lost before it
  pub alarm : (before behind : List Entry) (e : Entry) → es ≡ before ++ (e ∷ behind) → is_alarm e ≡ true
      → some is_lost before ≡ true
  -- and none after the end, lost requests or not
  pub no_alarm_after_end : (before behind : List Entry) (e : Entry) → es ≡ before ++ (e ∷ behind) → is_alarm e ≡ true
      → some is_end before ≡ false
  -- if none was lost, a finished sender means that the end was reported
  pub finished : some is_lost es ≡ false → w.sender.finished ≡ true → some is_end es ≡ true
  -- and unless the sender gave up, six undisturbed periods in a row that begin before the end bring a new block or the end
  pub progress : some is_lost es ≡ false → gave_up w.sender ≡ false
      → (before these behind : List Period) → (group es).periods ≡ before ++ (these ++ behind) → length these ≡ progress_periods
      → All (Undisturbed k) these → brings is_end before ≡ false → brings (λ e. is_new e || is_end e) these ≡ true
  pub refusals : All OnlyRefused es

-- Both ends have just been opened, neither refused, with the same k and with marks at both or at neither, of any sizes; the
-- store has at least N times k bits.
pub record Openings (k speed loop_ms L : ℕ) (sender_size receiver_size : Option ℕ) (order : List ℕ) (s : Sender) (o : ReceiverOpened.Opened) (initial_store : List ℕ) : Type 0 where
  pub sender : OpenSender k speed loop_ms L sender_size order (Ok s)
  pub receiver : OpenReceiver k receiver_size o
  pub alike : (marks_of sender_size).in_use ≡ (marks_of receiver_size).in_use
  pub not_refused : o.answer ≡ Ok tt
  pub room : item_count k L * k ≤ 8 * length initial_store

-- Each call answers as the course says; and where the course meets the assumptions, the guarantees hold of it.
pub record Delivered (k L : ℕ) (content : Bits) (initial_store : List ℕ) {s : Sender} {r : Receiver} {calls : List Call} (run : Run s r calls) : Type 0 where
  pub answers : observed run ≡ results (opened s r initial_store) calls
  pub guarantees : Assumptions k content (course (opened s r initial_store) calls)
      → Guarantees k L content initial_store (course (opened s r initial_store) calls) (final (opened s r initial_store) calls)

-- Demand 3: of every list of calls as it ran, from both openings on.
unfoldable pub Delivery : Type 0
Delivery =
    (k speed loop_ms L : ℕ) (sender_size receiver_size : Option ℕ) (order : List ℕ) (s : Sender) (o : ReceiverOpened.Opened)
    (initial_store : List ℕ) → Openings k speed loop_ms L sender_size receiver_size order s o initial_store
    → (calls : List Call) (run : Run s o.state calls) → Delivered k L (order_bits L order) initial_store run
