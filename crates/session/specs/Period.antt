-- One period of a session: a sending call, and receiving calls until the block's bits are used or a call is refused; and
-- what its line says. Assumes nothing.
use Rattle.std.specs.Prelude.{◌≡◌, Bool, true, false, cond, not, List, [], ◌∷◌, ℕ, zero, suc, ◌*◌, ◌≤◌, length, get_or, set, take, drop, replicate, Option, Some, None, Result, Ok, Err}
use Rattle.std.specs.Int.Bits.{bit_xor}
use Rattle.crc.specs.Bits.{Bits, bits_of, bytes_of}
use Rattle.block.specs.Answer.{Answer, refused, done}
use Rattle.line.specs.Order.{order_bits}
use Rattle.line.specs.Refusals.{refusal_number}
use Rattle.line.specs.Sending as S
use Rattle.line.specs.Sending.{send, send_state, sent_bits}
use Rattle.line.specs.Receiving.{Reception, meaning, event_kind, receive, receive_store}
use Rattle.line.specs.declared.Refusal.{Refusal}
use Rattle.line.specs.declared.sender.Sender.{Sender}
use Rattle.line.specs.declared.receiver.Receiver.{Receiver}
use Rattle.line.specs.declared.receiving.Event.{Event}
use Rattle.line.specs.declared.receiving.Event.TheVariants as E
use Rattle.session.specs.declared.period.Block.{Block}
use Rattle.session.specs.declared.period.Block.TheVariants as B
use Rattle.session.specs.declared.period.Ends.{Ends}
use Rattle.session.specs.declared.period.Heard.{Heard}
use Rattle.session.specs.declared.period.Kind.{Kind}
use Rattle.session.specs.declared.period.Kind.TheVariants as K
use Rattle.session.specs.declared.period.Line.{Line}
use Rattle.session.specs.declared.period.Period.{Period}
use Rattle.session.specs.declared.period.Shown.{Shown}

-- what a result of the code says: its value, or its refusal's number
abbrev pub answer_of : {A : Type 0} → Result A Refusal → Answer A
answer_of (Ok x) = done x
answer_of (Err r) = refused (refusal_number r)

-- what comes of a period: its line, or a refusal
abbrev pub Outcome : Type 0
Outcome = Answer Line

-- ---- the line between the ends: t undisturbed, f the reading turned over, d the block's first bit inverted

abbrev pub reading_of : Kind → Bool → Bool
reading_of K.Undisturbed back = back
reading_of K.Turned back = not back
reading_of K.Damaged back = back

abbrev pub invert_first : Bits → Bits
invert_first [] = []
invert_first (b ∷ bs) = not b ∷ bs

abbrev pub arriving : Kind → Bits → Bits
arriving K.Undisturbed bits = bits
arriving K.Turned bits = bits
arriving K.Damaged bits = invert_first bits

-- ---- receiving

-- the bytes of the array that the block is sent into, and that its bits are lent in
abbrev pub line_bytes : ℕ
line_bytes = 483

-- an array that holds this many bits, zeros behind them
abbrev pub Lent : List ℕ → ℕ → Type 0
Lent line count = (count ≤ 8 * line_bytes) × (line ≡ bytes_of line_bytes (take count (bits_of line)))

-- the array with its first bit inverted
abbrev pub disturbed : Kind → List ℕ → List ℕ
disturbed K.Undisturbed line = line
disturbed K.Turned line = line
disturbed K.Damaged line = set line 0 (bit_xor (get_or line 0 0) 128)

-- the last event other than none
abbrev pub last_event : Event → Event → Event
last_event last E.None = last
last_event last E.Sync = E.Sync
last_event last (E.Bad r) = E.Bad r
last_event last E.Accepted = E.Accepted
last_event last E.Previous = E.Previous
last_event last E.SequenceAlarm = E.SequenceAlarm
last_event last E.LengthAlarm = E.LengthAlarm
last_event last (E.Ended L) = E.Ended L
last_event last E.Wait = E.Wait

-- the receiver, the last event or the refusal, and the store
pub record Hearing : Type 0 where
  pub receiver : Receiver
  pub last : Answer Event
  pub store : List ℕ

abbrev pub hearing : Receiver → Answer Event → List ℕ → Hearing
hearing s last store = record { receiver = s; last = last; store = store }

-- what the code says of it
abbrev pub heard_told : Heard → List ℕ → Hearing
heard_told h store = hearing h.receiver (answer_of h.last) store

-- what follows the answer to a call that was lent these bits
abbrev pub answered : (Receiver → Bits → List ℕ → Event → Hearing) → Receiver → Bits → List ℕ → Event → Answer Reception → Hearing
answered next s bits store last (refused n) = hearing s (refused n) store
answered next s bits store last (done x) =
    next x.state (drop x.used bits) (receive_store s store (done x)) (last_event last (meaning x.rule).event)

-- the run program's machine is always ready
abbrev pub ready : Bool
ready = true

-- Calls, each lent the bits not yet used, until none is left or a call is refused. A call uses at least one bit, so that
-- there are no more calls than bits: the number of calls only ends the recursion.
unfoldable pub hear : ℕ → Receiver → Bits → List ℕ → Event → Hearing
hear zero s bits store last = hearing s (done last) store
hear (suc calls) s [] store last = hearing s (done last) store
hear (suc calls) s (b ∷ bs) store last =
    answered (hear calls) s (b ∷ bs) store last (receive s (bytes_of line_bytes (b ∷ bs)) (length (b ∷ bs)) ready store)

-- ---- a period

-- the block and the reading as the line shows them
abbrev pub shown_block : S.Block → Block
shown_block S.synchronising = B.Synchronising
shown_block (S.item i end used cancelled) = B.Item i end cancelled

abbrev pub if_used : Bool → Bool → Option Bool
if_used used reading = cond used (Some reading) None

abbrev pub shown_reading : S.Block → Bool → Option Bool
shown_reading S.synchronising reading = None
shown_reading (S.item i end used cancelled) reading = if_used used reading

abbrev pub as_shown : S.Block → Bool → Shown
as_shown b reading = record { block = shown_block b; reading = shown_reading b reading }

abbrev pub line_of : Shown → Bool → Answer Event → Outcome
line_of sent back (refused n) = refused n
line_of sent back (done e) = done (record { sent = sent; event = e; back = back })

-- both ends and the outcome, and the store
pub record PeriodResult : Type 0 where
  pub ends : Ends
  pub outcome : Outcome
  pub store : List ℕ

abbrev pub ends_of : Sender → Receiver → Ends
ends_of s r = record { sender = s; receiver = r }

-- what the code says of it
abbrev pub ran : Period → List ℕ → PeriodResult
ran p store = record { ends = p.ends; outcome = answer_of p.outcome; store = store }

abbrev pub heard_result : Sender → Shown → Hearing → PeriodResult
heard_result s sent h =
    record { ends = ends_of s h.receiver; outcome = line_of sent h.receiver.back h.last; store = h.store }

abbrev pub sent_result : Kind → Sender → Receiver → Bool → List ℕ → List ℕ → Answer S.Block → PeriodResult
sent_result kind s r reading order store (refused n) =
    record { ends = ends_of s r; outcome = refused n; store = store }
sent_result kind s r reading order store (done b) =
    let bits : Bits = sent_bits s.setup.marks s.setup.k s.setup.length (order_bits s.setup.length order) b in
    heard_result (send_state s reading (done b)) (as_shown b reading)
    (hear (length bits) r (arriving kind bits) store E.None)

unfoldable pub period : Kind → Sender → Receiver → List ℕ → List ℕ → PeriodResult
period kind s r order store =
    let reading : Bool = reading_of kind r.back in
    sent_result kind s r reading order store (send s order reading (replicate line_bytes 0))

-- what a period answers, hands back and leaves in the store
abbrev pub RunPeriod : Kind → Sender → Receiver → List ℕ → List ℕ → Period → List ℕ → Type 0
RunPeriod kind s r order store result store' = ran result store' ≡ period kind s r order store

-- no line that is written shows a wait
abbrev pub shows_wait : Outcome → Bool
shows_wait (refused n) = false
shows_wait (done l) = (event_kind l.event).wait

unfoldable pub NeverWaits : Type 0
NeverWaits =
    (kind : Kind) (s : Sender) (r : Receiver) (order store : List ℕ) → shows_wait (period kind s r order store).outcome ≡ false
