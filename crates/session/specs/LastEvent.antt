-- What a period's line tells of its receiving calls. The line shows one event of a period, the last other than none; accepted and
-- ended are never hidden by a later one, so that counting them over the lines counts every one. Assumes nothing.
use Rattle.std.specs.Prelude.{◌≡◌, Bool, true, ◌||◌, List, [], ◌∷◌, ◌++◌, ℕ, zero, suc, ◌+◌, length, drop, replicate}
use Rattle.crc.specs.Bits.{Bits, bit, bytes_of}
use Rattle.block.specs.Answer.{Answer, refused, done}
use Rattle.line.specs.Order.{order_bits}
use Rattle.line.specs.Sending as S
use Rattle.line.specs.Sending.{send, sent_bits}
use Rattle.line.specs.Receiving.{Reception, meaning, is_accepted, is_ended, takes_block, receive, receive_store}
use Rattle.line.specs.Delivery.{All, some}
use Rattle.line.specs.declared.sender.Sender.{Sender}
use Rattle.line.specs.declared.receiver.Receiver.{Receiver}
use Rattle.line.specs.declared.receiving.Event.{Event}
use Rattle.line.specs.declared.receiving.Event.TheVariants as E
use Rattle.session.specs.Period.{reading_of, arriving, line_bytes, last_event, ready, Outcome, PeriodResult, period}
use Rattle.session.specs.declared.period.Kind.{Kind}
use Rattle.session.specs.declared.period.Line.{Line}

-- ---- the events of a period's receiving calls, call by call, none included: as `hear` and `period` go through them

abbrev pub answered_events : (Receiver → Bits → List ℕ → List Event) → Receiver → Bits → List ℕ → Answer Reception → List Event
answered_events next s bits store (refused n) = []
answered_events next s bits store (done x) =
    (meaning x.rule).event ∷ next x.state (drop x.used bits) (receive_store s store (done x))

unfoldable pub heard_events : ℕ → Receiver → Bits → List ℕ → List Event
heard_events zero s bits store = []
heard_events (suc calls) s [] store = []
heard_events (suc calls) s (b ∷ bs) store =
    answered_events (heard_events calls) s (b ∷ bs) store (receive s (bytes_of line_bytes (b ∷ bs)) (length (b ∷ bs)) ready store)

abbrev pub sent_events : Kind → Sender → Receiver → List ℕ → List ℕ → Answer S.Block → List Event
sent_events kind s r order store (refused n) = []
sent_events kind s r order store (done b) =
    let bits : Bits = sent_bits s.setup.marks s.setup.k s.setup.length (order_bits s.setup.length order) b in
    heard_events (length bits) r (arriving kind bits) store

unfoldable pub period_events : Kind → Sender → Receiver → List ℕ → List ℕ → List Event
period_events kind s r order store = sent_events kind s r order store (send s order (reading_of kind r.back) (replicate line_bytes 0))

-- ---- what is said of them

-- the last of them other than none
abbrev pub last_of : Event → List Event → Event
last_of last [] = last
last_of last (e ∷ es) = last_of (last_event last e) es

abbrev pub how_many : (Event → Bool) → List Event → ℕ
how_many p [] = 0
how_many p (e ∷ es) = bit (p e) + how_many p es

-- the event of a line; a refusal shows none
abbrev pub shown_events : Outcome → List Event
shown_events (refused n) = []
shown_events (done l) = l.event ∷ []

-- ---- what a period's line tells, by its events and the receiver before it

pub record Tells (r : Receiver) (events : List Event) (p : PeriodResult) : Type 0 where
  -- after accepted or ended no call of the period has an event or is refused, and the line shows it
  pub last : (before : List Event) (e : Event) (after : List Event) → events ≡ before ++ (e ∷ after) → takes_block e ≡ true
      → All (λ x. x ≡ E.None) after × (shown_events p.outcome ≡ e ∷ [])
  -- as many are shown as there were, of accepted, of ended, or of any choice among them
  pub number : (choice : Event → Bool) → ((e : Event) → choice e ≡ true → takes_block e ≡ true)
      → how_many choice events ≡ how_many choice (shown_events p.outcome)
  -- an item more is taken exactly if the line shows accepted, and the end is if it was or if the line shows ended
  pub taken : p.ends.receiver.taken ≡ r.taken + how_many is_accepted (shown_events p.outcome)
  pub ended : p.ends.receiver.ended ≡ r.ended || some is_ended (shown_events p.outcome)

-- both ends with the same k; otherwise in any state, with any order and store
pub record LastEvent : Type 0 where
  pub tells : (kind : Kind) (s : Sender) (r : Receiver) (order store : List ℕ) → s.setup.k ≡ r.setup.k
      → Tells r (period_events kind s r order store) (period kind s r order store)
  -- whatever k: the line's event is the last of the period's events other than none
  pub shows : (kind : Kind) (s : Sender) (r : Receiver) (order store : List ℕ) (l : Line)
      → (period kind s r order store).outcome ≡ done l → l.event ≡ last_of E.None (period_events kind s r order store)
