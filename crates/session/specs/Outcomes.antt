-- The course of a session, from its input alone: the list of its outcomes, of which each is a period's line, as data, or a
-- refusal. Assumes nothing.
use Rattle.std.specs.Prelude.{cond, List, [], ◌∷◌, ℕ, ◌+◌, ◌*◌, ◌/◌, ◌≤◌, eqb, replicate, Option, Some, None}
use Rattle.block.specs.Answer.{Answer, refused, done}
use Rattle.line.specs.Marks.{marks_of}
use Rattle.line.specs.MostBlocks.{first_pair, later_pair}
use Rattle.line.specs.Order.{longest_order, item_count}
use Rattle.line.specs.Sending.{open_sender}
use Rattle.line.specs.Receiving.{open_receiver, fresh_receiver}
use Rattle.line.specs.declared.sender.Sender.{Sender}
use Rattle.line.specs.declared.receiver.Receiver.{Receiver}
use Rattle.session.specs.LineOne.{Opening, line_one}
use Rattle.session.specs.Lines.{first_line, after_line, lines}
use Rattle.session.specs.Period.{Outcome, PeriodResult, period}
use Rattle.session.specs.declared.period.Kind.{Kind}
use Rattle.session.specs.declared.period.Kind.TheVariants as K

-- the speed and the loop of every session; none has marks
abbrev pub speed : ℕ
speed = 200

abbrev pub loop_ms : ℕ
loop_ms = 0

abbrev pub code_size : Option ℕ
code_size = None

-- the bytes of the longest order, and of the store: the longest order in items of 3840 bits, the last one filled; shorter items
-- take no more, since every k divides 3840
abbrev pub order_room : ℕ
order_room = longest_order / 8

abbrev pub store_room : ℕ
store_room = (longest_order + 3839) / 3840 * 480

-- ---- a line for each period

-- the letters of the three kinds
unfoldable pub letter_kind : ℕ → Option Kind
letter_kind c =
    cond (eqb c 116) (Some K.Undisturbed) (cond (eqb c 102) (Some K.Turned) (cond (eqb c 100) (Some K.Damaged) None))

-- a line of one of the kinds is one letter
abbrev pub kind_of : List ℕ → Option Kind
kind_of [] = None
kind_of (c ∷ []) = letter_kind c
kind_of (c ∷ d ∷ cs) = None

-- a refusal ends the run
abbrev pub outcomes_unless_refused : Outcome → List Outcome → List Outcome
outcomes_unless_refused (refused n) rest = []
outcomes_unless_refused (done l) rest = rest

-- a line of another kind ends the run with no outcome
abbrev pub line_outcomes : Sender → Receiver → List ℕ → List ℕ → (PeriodResult → List Outcome) → Option Kind → List Outcome
line_outcomes s r order store next None = []
line_outcomes s r order store next (Some kind) =
    let c : PeriodResult = period kind s r order store in
    c.outcome ∷ outcomes_unless_refused c.outcome (next c)

-- the periods of these lines
unfoldable pub periods : Sender → Receiver → List ℕ → List ℕ → List (List ℕ) → List Outcome
periods s r order store [] = []
periods s r order store (l ∷ ls) =
    line_outcomes s r order store (λ c. periods c.ends.sender c.ends.receiver order c.store ls) (kind_of l)

-- ---- line one: both ends opened, the sender first, or a refusal

abbrev pub receiver_outcomes : Opening → Sender → List (List ℕ) → Answer (Unit {0}) → List Outcome
receiver_outcomes o s ls (refused n) = refused n ∷ []
receiver_outcomes o s ls (done u) =
    periods s (fresh_receiver o.k (marks_of code_size)) o.order.bytes (replicate store_room 0) ls

abbrev pub sender_outcomes : Opening → List (List ℕ) → Answer Sender → List Outcome
sender_outcomes o ls (refused n) = refused n ∷ []
sender_outcomes o ls (done s) = receiver_outcomes o s ls (open_receiver o.k code_size)

-- line one that cannot be read has no outcome
abbrev pub opening_outcomes : Option Opening → List (List ℕ) → List Outcome
opening_outcomes None ls = []
opening_outcomes (Some o) ls =
    sender_outcomes o ls (open_sender o.k speed loop_ms o.order.bits code_size o.order.bytes)

unfoldable pub outcomes : List ℕ → List Outcome
outcomes input = opening_outcomes (line_one (first_line input)) (lines (after_line input))

-- ---- how many

-- the periods that are not refused
abbrev pub line_count : List Outcome → ℕ
line_count [] = 0
line_count (refused n ∷ os) = line_count os
line_count (done l ∷ os) = line_count os + 1

-- the number of data items that line one gives; 0 if it cannot be read
abbrev pub items_of : Option Opening → ℕ
items_of None = 0
items_of (Some o) = item_count o.k o.order.bits

-- Whatever the input, however long: no more than the blocks that the sender sends, 192 + 187 N.
unfoldable pub MostPeriods : Type 0
MostPeriods = (input : List ℕ) → line_count (outcomes input) ≤ first_pair + later_pair * items_of (line_one (first_line input))
