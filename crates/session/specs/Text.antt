-- What the run program writes: numbers, words and lines as bytes, each text in fixed memory. Assumes nothing.
use Rattle.std.specs.Prelude.{Result, Ok, Err, Bool, true, false, cond, List, [], ◌∷◌, ◌++◌, ℕ, zero, suc, ◌+◌, ◌/◌, ◌%◌, ltb, Option, Some, None}
use Prim.Native.Char.{code}
use Prim.Native.String as S
use Rattle.line.specs.declared.receiving.Event.{Event}
use Rattle.line.specs.declared.receiving.Event.TheVariants as E
use Rattle.block.specs.Answer.{refused, done}
use Rattle.session.specs.Buffer.{held, empty, filled}
use Rattle.session.specs.Period.{Outcome}
use Rattle.session.specs.declared.buffer.Buffer.{Buffer}
use Rattle.session.specs.declared.period.Block.{Block}
use Rattle.session.specs.declared.period.Block.TheVariants as B
use Rattle.session.specs.declared.period.Line.{Line}

-- the bytes of a text array
abbrev pub room : ℕ
room = 64

abbrev pub Text : Type 0
Text = Buffer room

-- the bytes that a text holds
abbrev pub text_bytes : Text → List ℕ
text_bytes t = held t

abbrev pub empty_text : Text
empty_text = empty room

-- the bytes of a text of ASCII characters
abbrev pub ascii : S.String → List ℕ
ascii S.[] = []
ascii (S.◌∷◌ c s) = code c ∷ ascii s

-- the decimal digits of a number below 10 to the power of places, without leading zeros
abbrev pub decimal_to : ℕ → ℕ → List ℕ
decimal_to zero n = []
decimal_to (suc places) n =
    cond (ltb n 10) ((48 + n) ∷ []) (decimal_to places (n / 10) ++ ((48 + n % 10) ∷ []))

unfoldable pub decimal : ℕ → List ℕ
decimal n = decimal_to (suc n) n

-- ---- the fields of a line

abbrev pub bit_text : Bool → List ℕ
bit_text false = ascii "0"
bit_text true = ascii "1"

-- a block's number, or E for an end block
abbrev pub item_text : ℕ → Bool → List ℕ
item_text i false = decimal i
item_text i true = ascii "E"

-- before a cancelled block
abbrev pub mark_text : Bool → List ℕ
mark_text false = []
mark_text true = ascii "!"

abbrev pub block_text : Block → List ℕ
block_text B.Synchronising = ascii "S"
block_text (B.Item i end cancelled) = mark_text cancelled ++ item_text i end

-- a reading, if it was used
abbrev pub reading_text : Option Bool → List ℕ
reading_text None = ascii "-"
reading_text (Some b) = bit_text b

abbrev pub event_text : Event → List ℕ
event_text E.None = ascii "none"
event_text E.Sync = ascii "sync"
event_text (E.Bad r) = ascii "bad"
event_text E.Accepted = ascii "accepted"
event_text E.Previous = ascii "previous"
event_text E.SequenceAlarm = ascii "sequence alarm"
event_text E.LengthAlarm = ascii "length alarm"
event_text (E.Ended L) = ascii "ended"
event_text E.Wait = ascii "wait"

-- ---- what is written

-- the text that holds these bytes alone
abbrev pub holding : List ℕ → Text
holding s = filled room s

unfoldable pub heading : List ℕ
heading = ascii "period sent read event back\n"

unfoldable pub refused_text : ℕ → List ℕ
refused_text n = ascii "refused " ++ decimal n ++ ascii "\n"

-- period, sent, read, event and back, a blank between two
unfoldable pub line_text : ℕ → Line → List ℕ
line_text period l =
    decimal period ++ ascii " " ++ block_text l.sent.block ++ ascii " " ++ reading_text l.sent.reading ++ ascii " "
    ++ event_text l.event ++ ascii " " ++ bit_text l.back ++ ascii "\n"

-- a line or a refusal's number, as an outcome
abbrev pub numbered : Result Line ℕ → Outcome
numbered (Ok l) = done l
numbered (Err n) = refused n

abbrev pub outcome_text : ℕ → Outcome → List ℕ
outcome_text period (refused n) = refused_text n
outcome_text period (done l) = line_text period l
