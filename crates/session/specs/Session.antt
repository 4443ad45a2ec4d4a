-- A session one byte of input at a time: its state, what the byte yields, the order's slice and the store; and that what it
-- yields over an input is the input's course. Assumes nothing.
use Rattle.std.specs.Prelude.{◌≡◌, Bool, true, false, cond, List, [], ◌∷◌, ◌++◌, ℕ, eqb, length, take, replicate, Option, Some, None, option_map, Result}
use Rattle.block.specs.Answer.{Answer, refused, done}
use Rattle.line.specs.Marks.{marks_of}
use Rattle.line.specs.Sending.{open_sender, fresh_sender}
use Rattle.line.specs.Receiving.{open_receiver, fresh_receiver}
use Rattle.line.specs.declared.sender.Sender.{Sender}
use Rattle.session.specs.LineOne as One
use Rattle.session.specs.LineOne.{next, next_order, readable}
use Rattle.session.specs.Lines.{newline}
use Rattle.session.specs.Outcomes.{speed, loop_ms, code_size, order_room, store_room, letter_kind, outcomes}
use Rattle.session.specs.Period.{answer_of, Outcome, PeriodResult, period, ends_of}
use Rattle.line.specs.declared.Refusal.{Refusal}
use Rattle.session.specs.declared.period.Ends.{Ends}
use Rattle.session.specs.declared.period.Kind.{Kind}
use Rattle.session.specs.declared.period.Line.{Line}
use Rattle.session.specs.declared.script.Place.{Place}
use Rattle.session.specs.declared.script.Place.TheVariants as P
use Rattle.session.specs.declared.script.Session.{Session}
use Rattle.session.specs.declared.script.Taken.{Taken}

-- before the first byte; the ends are not open yet
unfoldable pub fresh : Session
fresh =
    record {
      place = P.LineOne;
      opening = One.start;
      ends = ends_of (fresh_sender 0 0 (marks_of code_size)) (fresh_receiver 0 (marks_of code_size));
    }

abbrev pub placed : Session → Place → Session
placed s place = record { place = place; opening = s.opening; ends = s.ends }

-- the session after a byte or the end, and what is yielded
pub record After : Type 0 where
  pub session : Session
  pub yielded : Option Outcome

abbrev pub yielding : Session → Option Outcome → After
yielding s y = record { session = s; yielded = y }

-- what the code says of it
abbrev pub yielded_answer : Option (Result Line Refusal) → Option Outcome
yielded_answer o = option_map answer_of o

abbrev pub taken_answer : Taken → After
taken_answer t = yielding t.session (yielded_answer t.yielded)

-- nothing comes of it
abbrev pub quiet : Session → Place → After
quiet s place = yielding (placed s place) None

-- the bytes of the order that line one gave
abbrev pub order_of : Session → List ℕ → List ℕ
order_of s order = take s.opening.kept order

-- a refusal ends the run
abbrev pub refused_at : Session → ℕ → After
refused_at s n = yielding (placed s P.Over) (Some (refused n))

-- ---- line one ends: both ends are opened, the sender first; a refusal ends the run

abbrev pub receiver_opened : Session → Sender → Answer (Unit {0}) → Answer Ends
receiver_opened s sender (refused n) = refused n
receiver_opened s sender (done u) = done (ends_of sender (fresh_receiver s.opening.k (marks_of code_size)))

abbrev pub sender_opened : Session → Answer Sender → Answer Ends
sender_opened s (refused n) = refused n
sender_opened s (done sender) = receiver_opened s sender (open_receiver s.opening.k code_size)

abbrev pub started : Session → Answer Ends → After
started s (refused n) = refused_at s n
started s (done ends) = yielding (record { place = P.LineStart; opening = s.opening; ends = ends }) None

unfoldable pub opens : Session → List ℕ → After
opens s order =
    cond (readable s.opening.place)
    (started s (sender_opened s (open_sender s.opening.k speed loop_ms s.opening.length code_size (order_of s order))))
    (quiet s P.Over)

-- ---- a line of a kind ends: a period; a refusal ends the run

abbrev pub after_period : Outcome → Place
after_period (refused n) = P.Over
after_period (done l) = P.LineStart

abbrev pub period_taken : Session → PeriodResult → After
period_taken s c =
    yielding (record { place = after_period c.outcome; opening = s.opening; ends = c.ends }) (Some c.outcome)

abbrev pub period_of : Session → Kind → List ℕ → List ℕ → PeriodResult
period_of s kind order store = period kind s.ends.sender s.ends.receiver (order_of s order) store

-- ---- a byte of input

-- a line that begins otherwise is of another kind, which ends the run
abbrev pub after_letter : Option Kind → Place
after_letter None = P.Over
after_letter (Some kind) = P.Kind kind

abbrev pub kind_at : ℕ → Place
kind_at c = after_letter (letter_kind c)

abbrev pub line_one_read : Session → ℕ → ℕ → After
line_one_read s c room =
    yielding (record { place = P.LineOne; opening = next s.opening c room; ends = s.ends }) None

unfoldable pub takes : Session → Place → ℕ → List ℕ → List ℕ → After
takes s P.LineOne c order store = cond (eqb c newline) (opens s order) (line_one_read s c (length order))
takes s P.LineStart c order store = quiet s (kind_at c)
takes s (P.Kind kind) c order store =
    cond (eqb c newline) (period_taken s (period_of s kind order store)) (quiet s P.Over)
takes s P.Over c order store = quiet s P.Over

unfoldable pub takes_order : Session → Place → ℕ → List ℕ → List ℕ
takes_order s P.LineOne c order = cond (eqb c newline) order (next_order s.opening s.opening.place c order)
takes_order s P.LineStart c order = order
takes_order s (P.Kind kind) c order = order
takes_order s P.Over c order = order

unfoldable pub takes_store : Session → Place → ℕ → List ℕ → List ℕ → List ℕ
takes_store s P.LineOne c order store = store
takes_store s P.LineStart c order store = store
takes_store s (P.Kind kind) c order store = cond (eqb c newline) (period_of s kind order store).store store
takes_store s P.Over c order store = store

-- ---- the end of the input: a last line with no newline counts

unfoldable pub ends : Session → Place → List ℕ → List ℕ → After
ends s P.LineOne order store = opens s order
ends s P.LineStart order store = quiet s P.Over
ends s (P.Kind kind) order store = period_taken s (period_of s kind order store)
ends s P.Over order store = quiet s P.Over

unfoldable pub ends_store : Session → Place → List ℕ → List ℕ → List ℕ
ends_store s P.LineOne order store = store
ends_store s P.LineStart order store = store
ends_store s (P.Kind kind) order store = (period_of s kind order store).store
ends_store s P.Over order store = store

abbrev pub over : Place → Bool
over P.LineOne = false
over P.LineStart = false
over (P.Kind kind) = false
over P.Over = true

-- what a byte brings, and the end
pub record Take (s : Session) (c : ℕ) (order store : List ℕ) (result : Taken) (order' store' : List ℕ) : Type 0 where
  pub answers : taken_answer result ≡ takes s s.place c order store
  pub keeps : order' ≡ takes_order s s.place c order
  pub stores : store' ≡ takes_store s s.place c order store

pub record End (s : Session) (order store : List ℕ) (result : Taken) (store' : List ℕ) : Type 0 where
  pub answers : taken_answer result ≡ ends s s.place order store
  pub stores : store' ≡ ends_store s s.place order store

-- ---- the bytes of an input and its end

abbrev pub listed : Option Outcome → List Outcome
listed None = []
listed (Some o) = o ∷ []

unfoldable pub yields : Session → List ℕ → List ℕ → List ℕ → List Outcome
yields s order store [] = listed (ends s s.place order store).yielded
yields s order store (c ∷ cs) =
    let t : After = takes s s.place c order store in
    listed t.yielded ++ yields t.session (takes_order s s.place c order) (takes_store s s.place c order store) cs

-- what a session yields over an input, from its first state on, is the input's course
unfoldable pub ByBytes : Type 0
ByBytes = (input : List ℕ) → yields fresh (replicate order_room 0) (replicate store_room 0) input ≡ outcomes input
