-- The run program, a part of its input at a time: what it keeps and what is to be written, which is what the session yields, as
-- text; and that the outputs are the text of the input, however it is divided. Assumes nothing.
use Rattle.std.specs.Prelude.{◌≡◌, cond, List, [], ◌∷◌, ◌++◌, ℕ, ◌+◌, ◌-◌, ◌*◌, ◌^◌, ltb, replicate, Option, Some, None}
use Rattle.session.specs.Buffer.{held, filled}
use Rattle.session.specs.Outcomes.{order_room, store_room}
use Rattle.session.specs.Run.{run_text}
use Rattle.session.specs.Period.{Outcome}
use Rattle.session.specs.Session.{After, placed, fresh, takes, takes_order, takes_store, ends, ends_store, over}
use Rattle.session.specs.Text.{room, heading, outcome_text}
use Rattle.session.specs.declared.buffer.Buffer.{Buffer}
use Rattle.session.specs.declared.program.Program.{Program}
use Rattle.session.specs.declared.program.Turn.{Turn}
use Rattle.session.specs.declared.script.Place.TheVariants as P
use Rattle.session.specs.declared.script.Session.{Session}

-- the most bytes of a part, which is what one read of the input brings; a byte brings a text at most
abbrev pub part_room : ℕ
part_room = 2048

abbrev pub output_room : ℕ
output_room = room * part_room

-- what is kept from part to part: the session, the number of the next period, the order and the store
abbrev pub keeping : Session → ℕ → List ℕ → List ℕ → Program
keeping s number order store = record { session = s; number = number; order = order; store = store }

-- before the first byte
abbrev pub at_start : Program
at_start = keeping fresh 0 (replicate order_room 0) (replicate store_room 0)

-- ---- what is yielded, as text

abbrev pub yield_text : ℕ → Option Outcome → List ℕ
yield_text n None = []
yield_text n (Some o) = outcome_text n o

-- the next number, up to the largest machine word, which no session comes to
abbrev pub counted : ℕ → ℕ
counted n = cond (ltb n (2 ^ 64 - 1)) (n + 1) n

abbrev pub number_after : ℕ → Option Outcome → ℕ
number_after n None = n
number_after n (Some o) = counted n

-- ---- the bytes of a part

abbrev pub byte_taken : Program → ℕ → After
byte_taken p c = takes p.session p.session.place c p.order p.store

abbrev pub after_byte : Program → ℕ → Program
after_byte p c =
    keeping (byte_taken p c).session (number_after p.number (byte_taken p c).yielded)
    (takes_order p.session p.session.place c p.order)
    (takes_store p.session p.session.place c p.order p.store)

unfoldable pub after_bytes : Program → List ℕ → Program
after_bytes p [] = p
after_bytes p (c ∷ cs) = after_bytes (after_byte p c) cs

unfoldable pub bytes_text : Program → List ℕ → List ℕ
bytes_text p [] = []
bytes_text p (c ∷ cs) = yield_text p.number (byte_taken p c).yielded ++ bytes_text (after_byte p c) cs

-- ---- the end of the input, after which nothing more is read

abbrev pub end_taken : Program → After
end_taken p = ends p.session p.session.place p.order p.store

abbrev pub end_text : Program → List ℕ
end_text p = yield_text p.number (end_taken p).yielded

abbrev pub after_end : Program → Program
after_end p =
    keeping (placed (end_taken p).session P.Over) p.number p.order
    (ends_store p.session p.session.place p.order p.store)

-- ---- a turn

abbrev pub Output : Type 0
Output = Buffer output_room

-- the output that holds these bytes alone
abbrev pub output_of : List ℕ → Output
output_of s = filled output_room s

abbrev pub turn_to : Program → List ℕ → Turn
turn_to p text = record { program = p; output = output_of text; over = over p.session.place }

-- the first turn
abbrev pub first_turn : Turn
first_turn = turn_to at_start heading

-- after a part; one with no byte is the end of the input
abbrev pub turn : Program → List ℕ → Turn
turn p [] = turn_to (after_end p) (end_text p)
turn p (c ∷ cs) = turn_to (after_bytes p (c ∷ cs)) (bytes_text p (c ∷ cs))

-- ---- the whole

-- what is written from a turn on: its output and, unless the run is over, the outputs over the parts that follow
unfoldable pub outputs : Turn → List (List ℕ) → List ℕ
outputs t [] = held t.output
outputs t (part ∷ parts) = held t.output ++ cond t.over [] (outputs (turn t.program part) parts)

-- the input in these parts: all up to the first with no byte
abbrev pub input_of : List (List ℕ) → List ℕ
input_of [] = []
input_of ([] ∷ parts) = []
input_of ((c ∷ cs) ∷ parts) = (c ∷ cs) ++ input_of parts

-- however the input is divided, what is written over its parts and its end is its text
abbrev pub Whole : Type 0
Whole = (parts : List (List ℕ)) → outputs first_turn (parts ++ ([] ∷ [])) ≡ run_text (input_of parts)
