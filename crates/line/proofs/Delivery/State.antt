-- The state of a session between calls: what holds of the two ends, the line and the store, and what one call does to it.
-- Assumes nothing.
use mathlib.Core.Path.{◌≡◌}
use mathlib.Core.Logic.{◌⊎◌}
use mathlib.Core.Bool.{Bool, true, false, cond, ◌||◌}
use mathlib.Core.List.{List, [], ◌++◌}
use Prim.Native.Nat.{ℕ, ◌+◌, ◌*◌, ◌≤◌, ◌<◌}
use lib.ListN.{length, take, drop}
use Rattle.crc.specs.Bits.{Bits, bit, bits_of}
use Rattle.crc.specs.Check.{passes}
use Rattle.block.specs.Lengths.{is_length, block_length}
use Rattle.block.specs.Block.{sync_block}
use Rattle.line.specs.Marks.{marks_in_range}
use Rattle.line.specs.Order.{valid_length, item_count, filled, item_bits}
use Rattle.line.specs.Sending.{Block, synchronising, item, last_run}
use Rattle.line.specs.Receiving.{array_bytes, event_kind, takes_block, last_bad, held_bits, latest, held_in_range}
pub use Rattle.line.specs.BitsUsed.{alarm_stands}
use Rattle.line.specs.Course.{World, Entry}
use Rattle.line.specs.Delivery.{OnLine, SameOrder, SameStore, Admitted, NotWhole, SyncAtLast, SyncNotData, OnlyRefused, is_new, is_end, is_alarm, is_lost, is_wait, is_good, reports_end}
use Rattle.line.specs.declared.marks.Marks.{Marks}
use Rattle.line.specs.declared.sender.Sender.{Sender}
use Rattle.line.specs.declared.sender.Setup as S
use Rattle.line.specs.declared.receiver.Receiver.{Receiver}
use Rattle.line.specs.declared.receiving.Setup as R
use Rattle.line.specs.declared.receiving.Phase.{Phase}
use Rattle.line.specs.declared.receiving.Phase.TheVariants as P
use Rattle.line.specs.declared.receiving.Event.{Event}
use Rattle.line.specs.declared.receiving.Event.TheVariants as E
use Rattle.line.proofs.Delivery.Ends.{Ends, LineBlock, Sends, Reads, Idle, Busy}

-- what a session is about: the marks that the sender sends, k, L, the order's bits, and the store as first lent
pub record Session : Type 0 where
  pub marks : Marks
  pub k : ℕ
  pub L : ℕ
  pub content : Bits
  pub initial_store : List ℕ

abbrev pub N : Session → ℕ
N o = item_count o.k o.L

-- what the openings make sure of
pub record Fit (o : Session) : Type 0 where
  pub known : is_length o.k ≡ true
  pub valid : valid_length o.L ≡ true
  pub content : length o.content ≡ o.L
  pub room : N o * o.k ≤ 8 * length o.initial_store

-- ---- the numbers of the ends

abbrev pub in_search : Phase → Bool
in_search P.Search = true
in_search P.InStep = false
in_search P.SequenceAlarm = false
in_search P.LengthAlarm = false

abbrev pub ends : Sender → Receiver → ℕ → ℕ → Ends
ends s r lost danger =
    record {
      item = s.newer;
      run = s.run;
      opening = bit s.opening;
      finished = bit s.finished;
      search = bit (in_search r.phase);
      bad_row = r.bad_row;
      back = bit r.back;
      taken = r.taken;
      ended = bit r.ended;
      alarm = bit (alarm_stands r.phase);
      lost = lost;
      danger = danger;
    }

abbrev pub ends_of : World → ℕ → ℕ → Ends
ends_of w l d = ends w.sender w.receiver l d

-- whether a request was lost, and whether one was lost with no good block since, after an entry
abbrev pub lost' : ℕ → Entry → ℕ
lost' l e = cond (is_lost e) 1 l

abbrev pub danger' : ℕ → Entry → ℕ
danger' d e = cond (is_lost e) 1 (cond (is_good e) 0 d)

-- ---- what holds between calls

-- the receiver holds the used bits of the block on the line, or, in search, the latest 15 of all bits
pub record Held (r : Receiver) (used : Bits) : Type 0 where
  pub step : r.phase ≡ P.InStep → held_bits r ≡ used
  pub search : r.phase ≡ P.Search → (earlier : Bits) × (held_bits r ≡ latest (earlier ++ used))

-- the store holds the order's first items, and the rest as first lent
pub record Stored (o : Session) (taken : ℕ) (store : List ℕ) : Type 0 where
  pub front : take (taken * o.k) (bits_of store) ≡ take (taken * o.k) (filled o.k o.L o.content)
  pub rest : drop (taken * o.k) (bits_of store) ≡ drop (taken * o.k) (bits_of o.initial_store)
  pub size : length store ≡ length o.initial_store

-- what opening fixed at each end
pub record SenderSetup (o : Session) (setup : S.Setup) : Type 0 where
  pub marks : setup.marks ≡ o.marks
  pub in_range : marks_in_range setup.marks ≡ true
  pub k : setup.k ≡ o.k
  pub L : setup.length ≡ o.L

-- the receiver's code size need not be the sender's
pub record ReceiverSetup (o : Session) (setup : R.Setup) : Type 0 where
  pub in_use : setup.marks.in_use ≡ o.marks.in_use
  pub in_range : marks_in_range setup.marks ≡ true
  pub k : setup.k ≡ o.k

-- what was opened, the ranges that the numbers of the ends leave open, and the store
pub record Base (o : Session) (w : World) : Type 0 where
  pub sender_setup : SenderSetup o w.sender.setup
  pub run : w.sender.run ≤ last_run
  pub receiver_setup : ReceiverSetup o w.receiver.setup
  pub array : length w.receiver.bits ≡ array_bytes
  pub bad_row : w.receiver.bad_row < last_bad
  pub held : held_in_range w.receiver.phase (block_length o.k) w.receiver.held ≡ true
  pub stored : Stored o w.receiver.taken w.store

-- what the copy of a block is: of a synchronising block anything, of an item the block before cancelling or one that fails
pub data CopyOf (o : Session) (block : Block) (copy : Bits) : LineBlock → Type 0 where
  syncing : block ≡ synchronising → CopyOf o block copy LineBlock.sync
  whole : {i : ℕ} {end used cancelled : Bool} → block ≡ item i end used cancelled
      → copy ≡ item_bits o.marks o.k o.L o.content i → CopyOf o block copy (LineBlock.item i 1)
  damaged : {i : ℕ} {end used cancelled : Bool} → block ≡ item i end used cancelled → passes copy ≡ false
      → CopyOf o block copy (LineBlock.item i 0)

-- no block is on the line
pub record IdleLine (o : Session) (w : World) (l d : ℕ) : Type 0 where
  pub left : w.left ≡ []
  pub held : Held w.receiver []
  pub idle : Idle (N o) (ends_of w l d) w.sender.next

-- a block is on the line, and some bits of its copy are not used yet
pub record BusyLine (o : Session) (w : World) (l d : ℕ) (copy : Bits) (f : LineBlock) : Type 0 where
  pub used : Bits
  pub split : copy ≡ used ++ w.left
  pub more : w.left ≡ [] → ⊥
  pub long : length copy ≡ block_length o.k
  pub held : Held w.receiver used
  pub busy : Busy (N o) (ends_of w l d) w.sender.next f
  pub copy_of : CopyOf o w.block copy f

pub record BusyWith (o : Session) (w : World) (l d : ℕ) : Type 0 where
  pub copy : Bits
  pub line_block : LineBlock
  pub line : BusyLine o w l d copy line_block

pub record Inv (o : Session) (w : World) (l d : ℕ) : Type 0 where
  pub base : Base o w
  pub phase : IdleLine o w l d ⊎ BusyWith o w l d

-- ---- one call

-- what is supposed of its entry; alarm: whether an alarm stands before it
pub record Assumed (o : Session) (alarm : Bool) (d : ℕ) (e : Entry) : Type 0 where
  pub line : OnLine o.k e
  pub order : SameOrder o.content e
  pub store : SameStore e
  pub damage : Admitted e
  pub not_whole : NotWhole e
  pub sync_at_last : SyncAtLast e
  pub sync_not_data : SyncNotData e
  pub loss : is_lost e ≡ true → alarm ≡ false → d ≡ 0

-- what its entry and the state after it say
pub record Guaranteed (o : Session) (w : World) (e : Entry) (w' : World) : Type 0 where
  pub base : Base o w'
  pub taken : w'.receiver.taken ≡ bit (is_new e) + w.receiver.taken
  pub ended : w'.receiver.ended ≡ (w.receiver.ended || is_end e)
  pub length : (M : ℕ) → reports_end M e ≡ true → M ≡ o.L
  pub alarm : alarm_stands w'.receiver.phase ≡ (alarm_stands w.receiver.phase || is_alarm e)
  pub refusal : OnlyRefused e

-- the block on the line is read to its last bit, with this event
pub record Done (o : Session) (w : World) (l d : ℕ) (copy : Bits) (f : LineBlock) (e : Entry) (w' : World) : Type 0 where
  pub left : w'.left ≡ []
  pub held : Held w'.receiver []
  pub sender : w'.sender ≡ w.sender
  pub event : Event
  pub reads : Reads (N o) (ends_of w l d) (ends_of w' (lost' l e) (danger' d e)) f event
  pub news : takes_block event ≡ (is_new e || is_end e)
  pub wait : (event_kind event).wait ≡ is_wait e
  pub clean : f ≡ LineBlock.sync → copy ≡ sync_block o.k → alarm_stands w.receiver.phase ≡ false → event ≡ E.Sync

-- a receiving call while a block is on the line: it goes on, and while no alarm stands the numbers are as before, or it is done
pub record Result (o : Session) (w : World) (l d : ℕ) (copy : Bits) (f : LineBlock) (e : Entry)
    (w' : World) : Type 0 where
  pub next : (BusyLine o w' (lost' l e) (danger' d e) copy f × (w'.sender ≡ w.sender)
      × (alarm_stands w.receiver.phase ≡ false → ends_of w' (lost' l e) (danger' d e) ≡ ends_of w l d))
      ⊎ Done o w l d copy f e w'
  pub guaranteed : Guaranteed o w e w'

-- a receiving call with no block on the line
pub record Stays (o : Session) (w : World) (l d : ℕ) (e : Entry) (w' : World) : Type 0 where
  pub line : IdleLine o w' (lost' l e) (danger' d e)
  pub same : ends_of w' (lost' l e) (danger' d e) ≡ ends_of w l d
  pub next : w'.sender.next ≡ w.sender.next
  pub guaranteed : Guaranteed o w e w'

-- a sending call that is not refused: its block is on the line
pub record Begins (o : Session) (w : World) (l d : ℕ) (copy : Bits) (reading : Bool) (e : Entry)
    (w' : World) : Type 0 where
  pub line_block : LineBlock
  pub sends : Sends (N o) (ends_of w l d) (bit reading) (ends_of w' (lost' l e) (danger' d e)) w.sender.next
      w'.sender.next line_block
  pub line : BusyLine o w' (lost' l e) (danger' d e) copy line_block
  pub guaranteed : Guaranteed o w e w'

-- any call
pub record Keeps (o : Session) (w : World) (l d : ℕ) (e : Entry) (w' : World) : Type 0 where
  pub inv : Inv o w' (lost' l e) (danger' d e)
  pub guaranteed : Guaranteed o w e w'
